use Rattle.admission.proofs.Lines.{once_runs}
use Rattle.admission.proofs.laws.once_law.Goals as goal

pub returns : goal.returns
returns g c = once_runs
