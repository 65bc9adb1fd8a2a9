use Rattle.std.proofs.Common.{◌≡◌, ℕ, List, take}
use Rattle.std.specs.HashMap as hash
use Rattle.dname.specs.Labels.{same_name}
use Rattle.zone.specs.Last.{last_target}
use Rattle.zone.proofs.aliases.last_targets.Given as goal

abbrev pub invariant-loop-record : goal.invariant-loop-record
invariant-loop-record g l = (q : List (List ℕ)) → hash.get same_name l.targets q ≡ last_target q (take l.record-index l.records)
