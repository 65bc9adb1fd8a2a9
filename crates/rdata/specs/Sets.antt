-- Records made one set (RFC 2181, sections 5 and 5.2): no record twice, and one TTL, the lowest.
use Rattle.std.specs.Prelude.{ℕ, Bool, ◌&&◌, not, min, List, [], ◌∷◌, map, filter}
use Rattle.dname.specs.Labels.{same_name}
use Rattle.rdata.specs.Data.{same_data}
use Rattle.rdata.specs.Records.{Record, greatest_ttl}

-- A record that repeats another, TTLs aside: same owner and same data (and so same type).
abbrev pub is_repeat : Record → Record → Bool
is_repeat r s = same_name r.owner s.owner && same_data r.value s.value

-- The records without repeats: of equal ones the first stays, in its place.
abbrev pub once : List Record → List Record
once [] = []
once (r ∷ rs) = r ∷ filter (λ (s : Record). not (is_repeat r s)) (once rs)

abbrev pub lowest_ttl : List Record → ℕ
lowest_ttl [] = greatest_ttl
lowest_ttl (r ∷ rs) = min r.ttl (lowest_ttl rs)

abbrev pub with_ttl : ℕ → Record → Record
with_ttl ttl r = record { owner = r.owner; ttl = ttl; value = r.value }

-- The RRset that these records make.
abbrev pub one_set : List Record → List Record
one_set rs = map (with_ttl (lowest_ttl rs)) (once rs)
