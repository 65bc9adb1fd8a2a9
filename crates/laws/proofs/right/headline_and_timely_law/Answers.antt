use Rattle.laws.proofs.Every.{right_and_timely}
use Rattle.laws.proofs.right.headline_and_timely_law.Goals as goal

pub returns : goal.returns
returns c = right_and_timely
