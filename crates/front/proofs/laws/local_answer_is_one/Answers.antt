use Rattle.front.proofs.Single.{answer_once}
use Rattle.front.proofs.laws.local_answer_is_one.Goals as goal

pub returns : goal.returns
returns g c = answer_once
