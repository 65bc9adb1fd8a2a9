use Rattle.world_truth.proofs.Samples.{sample_stands}
use Rattle.world_truth.proofs.laws.sample_law.Goals as goal

pub returns : goal.returns
returns c = sample_stands
