use Rattle.world_truth.proofs.Beneath.{origins_beneath, error_beneath}
use Rattle.world_truth.proofs.laws.beneath_law.Goals as goal

pub returns : goal.returns
returns c = record { origins = origins_beneath; error = error_beneath }
