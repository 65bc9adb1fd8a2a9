-- The zones so far are noted, no two are of one origin, and each keeps the rules.
use Rattle.std.proofs.Common.{◌≡◌, ℕ, List, take, false}
use Rattle.std.specs.Prelude.{is_some}
use Rattle.std.specs.List.{list_any}
use Rattle.dname.specs.Keys.{at_name}
use Rattle.dname.specs.Labels.{same_name}
use Rattle.zone.specs.Zones.{Zone}
use Rattle.authority.specs.Catalogs.{zone_at, has_twins, AreZones}
use Rattle.authority.specs.Origins.{placed, AreSized}
use Rattle.authority.proofs.origins.places_of.Given as goal

abbrev pub invariant-loop-zone : goal.invariant-loop-zone
invariant-loop-zone g l =
    (l.place ≡ l.zone-index)
    × ((q : List (List ℕ)) → is_some (at_name l.places.by_origin q) ≡ list_any (λ (z : Zone). same_name z.origin q) (take l.zone-index l.zones))
    × ((q : List (List ℕ)) → placed l.zones (at_name l.places.by_origin q) ≡ zone_at q (take l.zone-index l.zones))
    × (has_twins (take l.zone-index l.zones) ≡ false) × AreZones (take l.zone-index l.zones) × AreSized l.places.by_origin l.places.sizes
