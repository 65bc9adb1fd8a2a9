-- The link of a zone for a name and a type (RFC 1034, sections 3.6.2, 4.3.2 and 4.3.3; RFC 2308).
use Rattle.std.specs.Prelude.{◌≡◌, ◌≢◌, ℕ, min, cond, nat_lt, ◌⊎◌, List, [], ◌∷◌, Contains}
use Rattle.dname.specs.Labels.{IsAtOrUnder, star}
use Rattle.rdata.specs.Data.{Datum, Soa}
use Rattle.rdata.specs.Records.{Record, greatest_ttl}
use Rattle.zone.specs.Zones.{Zone, At, IsUncut, Exists, IsEncloser, cname_type, soa_type}

-- A record set, an alias, no such data, no such name; a negative answer has its SOA.
pub data Link : Type 0 where
  Found : List Record → Link
  Alias : Record → Link
  NoData : Record → Link
  NxDomain : Record → Link

-- Whose records answer for q: its own where q exists, otherwise those of `*` right under its closest
-- encloser (RFC 1034, section 4.3.3).
abbrev pub IsSource : Zone → List (List ℕ) → List (List ℕ) → Type 0
IsSource z q s = (Exists z q × (s ≡ q)) ⊎ ((Exists z q → ⊥) × ((e : List (List ℕ)) × IsEncloser z q e × (s ≡ star ∷ e)))

-- A record of type t that stands at s and answers for q: it goes out with q as owner.
abbrev pub IsFrom : Zone → List (List ℕ) → List (List ℕ) → ℕ → Record → Type 0
IsFrom z s q t r = (r.owner ≡ q) × At z s t (record r { owner = s })

-- The name has no record of that type; it has no record at all.
abbrev pub HasNone : Zone → List (List ℕ) → ℕ → Type 0
HasNone z s t = (r : Record) → At z s t r → ⊥

abbrev pub IsEmpty : Zone → List (List ℕ) → Type 0
IsEmpty z s = (t : ℕ) → HasNone z s t

-- A MINIMUM with its top bit set counts as 0, as a TTL does (RFC 2181, section 8).
abbrev pub counted : ℕ → ℕ
counted n = cond (nat_lt greatest_ttl n) 0 n

-- The TTL of a negative answer: the lesser of its SOA's TTL and MINIMUM (RFC 2308, section 3).
abbrev pub denial_ttl : ℕ → Datum → ℕ
denial_ttl ttl (Soa s) = min ttl (counted s.minimum)
denial_ttl ttl _ = ttl

abbrev pub lessened : Record → Record
lessened r = record { owner = r.owner; ttl = denial_ttl r.ttl r.value; value = r.value }

abbrev pub IsDenial : Zone → Record → Type 0
IsDenial z soa = (r : Record) × At z z.origin soa_type r × (soa ≡ lessened r)

-- A list in which each record stands once.
abbrev pub Distinct : List Record → Type 0
Distinct [] = Unit {0}
Distinct (r ∷ rs) = (Contains rs r → ⊥) × Distinct rs

-- The link that the records at s give for q (RFC 1034, section 4.3.2, steps 3a and 3c; RFC 2308, section 2).
abbrev pub Says : Zone → List (List ℕ) → List (List ℕ) → ℕ → Link → Type 0
Says z s q t (Found set) = ((r : Record) → Contains set r → IsFrom z s q t r) × ((r : Record) → IsFrom z s q t r → Contains set r) × Distinct set × (set ≢ [])
Says z s q t (Alias r) = HasNone z s t × IsFrom z s q cname_type r
Says z s q t (NoData soa) = HasNone z s t × HasNone z s cname_type × (Exists z q ⊎ (IsEmpty z s → ⊥)) × IsDenial z soa
Says z s q t (NxDomain soa) = IsEmpty z s × (Exists z q → ⊥) × IsDenial z soa

-- The link of a zone for a name at or under its origin with no cut over it.
pub record IsLink (z : Zone) (q : List (List ℕ)) (t : ℕ) (l : Link) : Type 0 where
  pub inside : IsAtOrUnder q z.origin
  pub uncut : IsUncut z q
  pub says : (s : List (List ℕ)) × IsSource z q s × Says z s q t l
