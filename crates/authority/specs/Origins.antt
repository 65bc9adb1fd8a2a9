-- Zones found by their origins.
use Rattle.std.specs.Prelude.{◌≡◌, ℕ, Bool, true, false, Option, Some, None, List, length, slice_get, slice_index_or, Vec}
use Rattle.std.specs.HashMap.{HashMap}
use Rattle.dname.specs.Keys.{at_name}
use Rattle.dname.specs.Labels.{wire}
use Rattle.zone.specs.Zones.{Zone}
use Rattle.authority.specs.Catalogs.{zone_at}

-- The zone at a place of a list.
abbrev pub placed : List Zone → Option ℕ → Option Zone
placed zs None = None
placed zs (Some i) = slice_get zs i

-- For each name with a place in the map, whose keys are names in wire form, the number of its bytes is marked.
pub record AreSized {S Y : Type 0} (m : HashMap (Vec ℕ Y) ℕ S) (sizes : List Bool) : Type 0 where
  pub all : length sizes ≡ 256
  pub marked : (q : List (List ℕ)) (i : ℕ) → at_name m q ≡ Some i → slice_index_or sizes (length (wire q)) false ≡ true

-- The map gives for each name the place of the zone of that origin, and the sizes of the origins are marked.
pub record ArePlaces {S Y : Type 0} (m : HashMap (Vec ℕ Y) ℕ S) (sizes : List Bool) (zs : List Zone) : Type 0 where
  pub at : (q : List (List ℕ)) → placed zs (at_name m q) ≡ zone_at q zs
  pub sized : AreSized m sizes
