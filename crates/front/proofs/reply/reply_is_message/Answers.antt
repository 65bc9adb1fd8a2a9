use Rattle.std.proofs.Common.{subst}
use Rattle.message_grammar.specs.Messages.{IsWritable}
use Rattle.front.proofs.Written.{reply_read_back}
use Rattle.front.proofs.reply.reply_is_message.Goals as goal

pub returns : goal.returns
returns g c = reply_read_back c.args.query.now c.args.via c.args.outcome.now (subst IsWritable c.draft_of.ensures c.writable_law.ensures) c.short_law.ensures
