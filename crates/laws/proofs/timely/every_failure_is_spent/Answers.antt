use Rattle.laws.proofs.Failing.{every_failure}
use Rattle.laws.proofs.timely.every_failure_is_spent.Goals as goal

pub returns : goal.returns
returns c = every_failure
