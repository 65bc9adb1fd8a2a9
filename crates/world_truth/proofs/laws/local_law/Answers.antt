use Rattle.world_truth.proofs.Grown.{local_is_true}
use Rattle.world_truth.proofs.laws.local_law.Goals as goal

pub returns : goal.returns
returns c = local_is_true
