use Rattle.std.proofs.Common.{◌≡◌, ℕ, List, take}
use Rattle.std.specs.HashSet as bag
use Rattle.dname.specs.Labels.{same_name}
use Rattle.zone.specs.Zones.{ns_type}
use Rattle.zone.specs.Look.{owns}
use Rattle.zone.proofs.cuts.owners_of_servers.Given as goal

abbrev pub invariant-loop-record : goal.invariant-loop-record
invariant-loop-record g l = (q : List (List ℕ)) → bag.contains same_name l.owners q ≡ owns ns_type q (take l.record-index l.records)
