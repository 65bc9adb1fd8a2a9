use Rattle.admission.proofs.KeptRuns.{kept_new, kept_moves, kept_runs}
use Rattle.admission.proofs.laws.kept_law.Goals as goal

pub returns : goal.returns
returns g c = record { new = kept_new; moved = kept_moves; run = kept_runs }
