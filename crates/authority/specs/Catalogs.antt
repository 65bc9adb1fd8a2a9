-- Which of several zones answers for a name, and its result.
use Rattle.std.specs.Prelude.{◌≡◌, ◌≢◌, ℕ, ◌≤◌, Bool, true, false, ◌||◌, Option, Some, None, ◌⊎◌, List, [], ◌∷◌, length, find, filter, Contains}
use Rattle.std.specs.List.{list_any}
use Rattle.dname.specs.Labels.{same_name, IsAtOrUnder, IsName}
use Rattle.rdata.specs.Records.{Record}
use Rattle.zone.specs.Zones.{Zone}
use Rattle.zone.specs.Look.{Local, NotHere, local_by, denial_of}
use Rattle.zone.specs.Referrals.{IsLocal}
use Rattle.zone.specs.Ruled.{IsZone}

-- The zone in charge of a name: the one with the longest origin that the name is at or under (RFC 1034,
-- section 4.3.2, step 2).
pub record IsInCharge (zs : List Zone) (q : List (List ℕ)) (z : Zone) : Type 0 where
  pub stands : Contains zs z
  pub over : IsAtOrUnder q z.origin
  pub longest : (y : Zone) → Contains zs y → IsAtOrUnder q y.origin → length y.origin ≤ length z.origin

-- The result of the local zones for a question: that of the zone in charge of the name, and nothing where no zone is
-- over the name.
abbrev pub IsLooked : List Zone → List (List ℕ) → ℕ → Local → Type 0
IsLooked zs q t l = ((z : Zone) × IsInCharge zs q z × IsLocal z q t l) ⊎ (((z : Zone) → Contains zs z → IsAtOrUnder q z.origin → ⊥) × (l ≡ NotHere))

-- The zone in charge, and the result, as functions.
abbrev pub first_zone : Option Zone → Option Zone → Option Zone
first_zone (Some z) d = Some z
first_zone None d = d

abbrev pub zone_at : List (List ℕ) → List Zone → Option Zone
zone_at n zs = find (λ (z : Zone). same_name z.origin n) zs

abbrev pub zone_over : List Zone → List (List ℕ) → Option Zone
zone_over zs [] = None
zone_over zs (l ∷ ls) = first_zone (zone_at (l ∷ ls) zs) (zone_over zs ls)

abbrev pub said_by_zone : List (List ℕ) → ℕ → Zone → Option Record → Local
said_by_zone q t z None = NotHere
said_by_zone q t z (Some soa) = local_by soa z q t

abbrev pub looked_in : List (List ℕ) → ℕ → Option Zone → Local
looked_in q t None = NotHere
looked_in q t (Some z) = said_by_zone q t z (denial_of z)

abbrev pub looked : List Zone → List (List ℕ) → ℕ → Local
looked zs q t = looked_in q t (zone_over zs q)

-- The zones whose origins are listed: those of all zones from which one server answers.
abbrev pub has_origin_in : List (List (List ℕ)) → Zone → Bool
has_origin_in origins z = list_any (λ (n : List (List ℕ)). same_name z.origin n) origins

abbrev pub among : List (List (List ℕ)) → List Zone → List Zone
among origins zs = filter (has_origin_in origins) zs

-- Where there is no list, all zones.
abbrev pub is_chosen : Option (List (List (List ℕ))) → Zone → Bool
is_chosen None z = true
is_chosen (Some origins) z = has_origin_in origins z

abbrev pub chosen : Option (List (List (List ℕ))) → List Zone → List Zone
chosen None zs = zs
chosen (Some origins) zs = among origins zs

-- Two zones have one origin.
abbrev pub has_twins : List Zone → Bool
has_twins [] = false
has_twins (z ∷ zs) = list_any (λ (y : Zone). same_name y.origin z.origin) zs || has_twins zs

-- Each origin has a label: the root's at least (RFC 1034, section 3.1).
abbrev pub AreNamed : List Zone → Type 0
AreNamed zs = (z : Zone) → Contains zs z → z.origin ≢ []

-- Each zone meets the rules of a zone, and its origin is a name: every zone that is built does.
abbrev pub AreZones : List Zone → Type 0
AreZones zs = (z : Zone) → Contains zs z → IsZone z × IsName z.origin

-- How the zones of a catalog are stored.
pub record IsCatalog (zs : List Zone) : Type 0 where
  pub apart : has_twins zs ≡ false
  pub sound : AreZones zs
