use Rattle.laws.proofs.Every.{held_is_true}
use Rattle.laws.proofs.right.truth_law.Goals as goal

pub returns : goal.returns
returns c = held_is_true
