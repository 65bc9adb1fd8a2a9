use Rattle.laws.proofs.Discipline.{others_stay}
use Rattle.laws.proofs.orderly.isolation_law.Goals as goal

pub returns : goal.returns
returns c = others_stay
