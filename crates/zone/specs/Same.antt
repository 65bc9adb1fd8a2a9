-- Records and links that are the same but for TTLs, order and repeats.
use Rattle.std.specs.Prelude.{◌≡◌, ℕ, List, [], ◌∷◌, Contains}
use Rattle.rdata.specs.Records.{Record}
use Rattle.zone.specs.Links.{Link, Found, Alias, NoData, NxDomain}

-- Two records are one, but for the TTL.
abbrev pub Same : Record → Record → Type 0
Same r s = (r.owner ≡ s.owner) × (r.value ≡ s.value)

-- A list has that record, TTLs aside.
abbrev pub Has : List Record → Record → Type 0
Has rs r = (s : Record) × Contains rs s × Same r s

-- Two lists have the same records, whatever their order, TTLs and repeats (RFC 2181, section 5).
abbrev pub SameSet : List Record → List Record → Type 0
SameSet rs ss = ((r : Record) → Contains rs r → Has ss r) × ((s : Record) → Contains ss s → Has rs s)

abbrev pub kind : Link → ℕ
kind (Found rs) = 0
kind (Alias r) = 1
kind (NoData r) = 2
kind (NxDomain r) = 3

abbrev pub records_of : Link → List Record
records_of (Found rs) = rs
records_of (Alias r) = r ∷ []
records_of (NoData r) = r ∷ []
records_of (NxDomain r) = r ∷ []

-- Two links are one, but for TTLs, order and repeats: the same kind and the same records.
pub record SameLink (k l : Link) : Type 0 where
  pub kinds : kind k ≡ kind l
  pub records : SameSet (records_of k) (records_of l)
