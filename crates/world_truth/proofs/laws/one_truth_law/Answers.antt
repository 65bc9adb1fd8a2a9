use Rattle.world_truth.proofs.OneTruth.{one_true_link, one_truth}
use Rattle.world_truth.proofs.SomeTruth.{some_true_link}
use Rattle.world_truth.proofs.laws.one_truth_law.Goals as goal

pub returns : goal.returns
returns c = record { some = some_true_link; link = one_true_link; truth = one_truth }
