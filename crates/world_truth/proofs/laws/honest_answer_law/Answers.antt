use Rattle.world_truth.proofs.Honest.{honest_answer}
use Rattle.world_truth.proofs.laws.honest_answer_law.Goals as goal

pub returns : goal.returns
returns c = honest_answer
