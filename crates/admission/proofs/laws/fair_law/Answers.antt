use Rattle.admission.proofs.Lines.{line_waits, line_left, line_comes, line_others, line_fails, line_drops}
use Rattle.admission.proofs.laws.fair_law.Goals as goal

pub returns : goal.returns
returns g c = record { waits = line_waits; left = line_left; comes = line_comes; others = line_others; fails = line_fails; drops = line_drops }
