-- A zone's records by name: a node for each name that an owner is at or under, with the places of the
-- records at that name and at `*` right under it (RFC 1034, sections 3.1 and 4.3.3).
use Rattle.std.specs.Prelude.{◌≡◌, ◌<◌, ℕ, suc, Bool, true, cond, Option, Some, None, List, [], ◌∷◌, ◌++◌, take, drop, Vec}
use Rattle.std.specs.List.{list_any, flat_map}
use Rattle.std.specs.HashMap.{HashMap}
use Rattle.dname.specs.Keys.{at_name}
use Rattle.dname.specs.Labels.{star, same_name, is_under}
use Rattle.rdata.specs.Records.{Record}
use Rattle.zone.specs.Look.{is_owned, at}
use Rattle.zone.specs.declared.nodes.Node.{Node}

-- Some owner is at or under the name.
abbrev pub has_under : List (List ℕ) → List Record → Bool
has_under n rs = list_any (λ (r : Record). is_under r.owner n) rs

-- The places in a list of the records that pass a test.
abbrev pub places_from : (Record → Bool) → ℕ → List Record → List ℕ
places_from p k [] = []
places_from p k (r ∷ rs) = cond (p r) (k ∷ places_from p (suc k) rs) (places_from p (suc k) rs)

abbrev pub places : (Record → Bool) → List Record → List ℕ
places p rs = places_from p 0 rs

-- A node: the places of its own records, and those of `*` right under it.
pub record Spot : Type 0 where
  pub own : List ℕ
  pub wild : List ℕ

abbrev pub spot_of : List (List ℕ) → List Record → Option Spot
spot_of n rs = cond (has_under n rs) (Some (record { own = places (is_owned n) rs; wild = places (is_owned (star ∷ n)) rs })) None

abbrev pub seen : {H : Type 0} → Node H → Spot
seen n = record { own = n.own.items; wild = n.wild.items }

abbrev pub spot : {H : Type 0} → Option (Node H) → Option Spot
spot None = None
spot (Some n) = Some (seen n)

-- The places with one more, where the test holds.
abbrev pub more : Bool → List ℕ → ℕ → List ℕ
more b is i = cond b (is ++ i ∷ []) is

abbrev pub put_place : List (List ℕ) → List (List ℕ) → ℕ → Spot → Spot
put_place n owner i s = record { own = more (same_name owner n) s.own i; wild = more (same_name owner (star ∷ n)) s.wild i }

abbrev pub or_empty : Option Spot → Spot
or_empty None = record { own = []; wild = [] }
or_empty (Some s) = s

-- A node after one more record, where it is at the record's owner or above it.
abbrev pub spot_after : Bool → List (List ℕ) → List (List ℕ) → ℕ → Option Spot → Option Spot
spot_after b n owner i o = cond b (Some (put_place n owner i (or_empty o))) o

-- The records at these places.
abbrev pub picks : List Record → List ℕ → List Record
picks rs is = flat_map (λ (i : ℕ). take 1 (drop i rs)) is

abbrev pub AreWithin : ℕ → List ℕ → Type 0
AreWithin n [] = Unit {0}
AreWithin n (i ∷ is) = (i < n) × AreWithin n is

-- A map that gives for each name the node that the record list makes. Its keys are names in wire form.
pub record IsTree {H S : Type 0} (m : HashMap (Vec ℕ H) (Node H) S) (rs : List Record) : Type 0 where
  pub at : (l : List ℕ) (ls : List (List ℕ)) → spot (at_name m (l ∷ ls)) ≡ spot_of (l ∷ ls) rs

-- The records of a name that some owner is at or under, and of the wildcard right under it.
pub record IsStand (n : List (List ℕ)) (rs os ws : List Record) : Type 0 where
  pub under : has_under n rs ≡ true
  pub own : os ≡ at n rs
  pub wild : ws ≡ at (star ∷ n) rs
