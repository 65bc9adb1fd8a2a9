use Rattle.world_truth.proofs.Charges.{charge_uncut, one_charge}
use Rattle.world_truth.proofs.SomeTruth.{some_charge}
use Rattle.world_truth.proofs.laws.charge_law.Goals as goal

pub returns : goal.returns
returns c = record { uncut = charge_uncut; some = some_charge; one = one_charge }
