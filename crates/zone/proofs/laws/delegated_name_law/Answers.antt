use Rattle.zone.proofs.LawNames.{delegated}
use Rattle.zone.proofs.laws.delegated_name_law.Goals as goal

pub returns : goal.returns
returns c = delegated
