use Rattle.runs.proofs.Clocks.{clock_of_run}
use Rattle.runs.proofs.laws.clock_law.Goals as goal

pub returns : goal.returns
returns c = clock_of_run
