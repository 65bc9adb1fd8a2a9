use Rattle.classify.proofs.Roots.{of_root}
use Rattle.classify.proofs.laws.root_law.Goals as goal

pub returns : goal.returns
returns c = of_root
