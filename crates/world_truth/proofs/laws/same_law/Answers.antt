use Rattle.world_truth.proofs.Stays.{same_is_true, stays_true}
use Rattle.world_truth.proofs.laws.same_law.Goals as goal

pub returns : goal.returns
returns c = record { link = same_is_true; change = stays_true }
