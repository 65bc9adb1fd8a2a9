use Rattle.laws.proofs.Found.{kept_is_found}
use Rattle.laws.proofs.Looked.{accepted_is_looked}
use Rattle.laws.proofs.kept.kept_law.Goals as goal

pub returns : goal.returns
returns c = record { found = kept_is_found; accepted = accepted_is_looked }
