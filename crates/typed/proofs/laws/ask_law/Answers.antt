use Rattle.typed.proofs.Saying.{said_ask}
use Rattle.typed.proofs.laws.ask_law.Goals as goal

pub returns : goal.returns
returns g c = said_ask c.args.port c.args.ask.now c.ask_is_message.ensures
