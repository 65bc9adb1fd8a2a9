use Rattle.typed.proofs.Saying.{said_plainly}
use Rattle.typed.proofs.laws.reply_law.Goals as goal

pub returns : goal.returns
returns g c = said_plainly c.client_query.inside.query c.client_query.inside.client c.client_query.inside.way c.args.client_query.now c.args.outcome.now c.client_query.view_is (rw c.deref.ensures at c.reply_is_message.ensures)
