use Rattle.laws.proofs.Runs.{run_explained}
use Rattle.laws.proofs.timely.timely_law.Goals as goal

pub returns : goal.returns
returns c = λ site run s legal. (run_explained site run s legal).1
