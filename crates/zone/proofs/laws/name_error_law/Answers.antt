use Rattle.zone.proofs.LawNames.{nothing_under, no_wildcard}
use Rattle.zone.proofs.laws.name_error_law.Goals as goal

pub returns : goal.returns
returns c = record { nothing = nothing_under; wildcard = no_wildcard }
