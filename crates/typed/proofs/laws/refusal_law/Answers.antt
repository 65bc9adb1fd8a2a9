use Rattle.std.proofs.Common.{option_copied}
use Rattle.typed.proofs.Saying.{said_refusal}
use Rattle.typed.proofs.laws.refusal_law.Goals as goal

pub returns : goal.returns
returns g c = said_refusal c.args.client c.args.way c.args.refusal c.args.start (option_copied c.args.echo) c.refusal_is_message.ensures
