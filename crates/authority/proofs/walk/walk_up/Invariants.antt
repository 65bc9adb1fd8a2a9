use Rattle.std.proofs.Common.{◌≡◌, ◌+◌, ℕ, None, false, cond, length}
use Rattle.dname.specs.Labels.{same_name}
use Rattle.rdata.specs.Records.{Record}
use Rattle.zone.specs.Look.{cut_of, or_else, climbed}
use Rattle.authority.specs.Climb.{above, has_under}
use Rattle.authority.specs.Values.{AreTimedIn}
use Rattle.authority.specs.Walk.{met, nodes_met}
use Rattle.authority.proofs.walk.walk_up.Given as goal

abbrev pub invariant-up : goal.invariant-up
invariant-up g l = record {
  cut : or_else (cut_of l.zone (above l.up)) l.cut ≡ cut_of l.zone l.name;
  near : (soa : Record) (t : ℕ) → met soa l.name t l.near (climbed soa l.name t l.zone.records l.up) ≡ climbed soa l.name t l.zone.records l.name;
  without : l.near ≡ None → has_under l.name l.zone.records ≡ false → has_under l.up l.zone.records ≡ false;
  count : l.count + cond (same_name l.up l.zone.origin) 0 (nodes_met l.zone (above l.up)) ≡ nodes_met l.zone l.name;
  timed : AreTimedIn l.near;
}

abbrev pub decreases-up : goal.decreases-up
decreases-up g l = length l.up
