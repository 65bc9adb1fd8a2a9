use Rattle.std.proofs.Common.{sym}
use Rattle.engine.proofs.withdraw.id_law.Goals as goal

pub returns : goal.returns
returns g c = sym (c.id_is_in_message.ensures _ _ c.ask_is_message.ensures)
