use Rattle.zone.proofs.LawReferral.{local_law}
use Rattle.zone.proofs.laws.local_law.Goals as goal

pub returns : goal.returns
returns c = local_law
