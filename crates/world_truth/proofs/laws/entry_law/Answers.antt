use Rattle.world_truth.proofs.Entries.{error_for_all, alias_for_all, found_as_alias, alias_as_found}
use Rattle.world_truth.proofs.laws.entry_law.Goals as goal

pub returns : goal.returns
returns c = record { error = error_for_all; alias = alias_for_all; found = found_as_alias; set = alias_as_found }
