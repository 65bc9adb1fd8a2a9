use Rattle.front.proofs.Single.{asked_once}
use Rattle.front.proofs.laws.reading_is_one.Goals as goal

pub returns : goal.returns
returns g c = asked_once
