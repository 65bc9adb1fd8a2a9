use Rattle.zone.proofs.LawNames.{own_source, own_set, own_alias}
use Rattle.zone.proofs.laws.own_records_law.Goals as goal

pub returns : goal.returns
returns c = record { source = own_source; found = own_set; alias = own_alias }
