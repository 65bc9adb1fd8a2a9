use Rattle.laws.proofs.Twice.{two_asks}
use Rattle.laws.proofs.timely.failed_is_asked_twice.Goals as goal

pub returns : goal.returns
returns c = λ port home run k z n t a. two_asks port home k z n t a run
