use Rattle.laws.proofs.OwnWork.{order_is_kept}
use Rattle.laws.proofs.orderly.starved_law.Goals as goal

pub returns : goal.returns
returns c = order_is_kept
