-- The rules of a zone's records, in words; laws of look-up take them as premises.
use Rattle.std.specs.Prelude.{◌≡◌, ◌≢◌, ℕ, ◌⊎◌, List, [], ◌∷◌, ◌++◌, Contains}
use Rattle.dname.specs.Labels.{IsAtOrUnder, star}
use Rattle.rdata.specs.Data.{type_of}
use Rattle.rdata.specs.Records.{Record}
use Rattle.zone.specs.Zones.{Zone, At, IsCut, IsBeneath, a_type, ns_type, cname_type, soa_type, aaaa_type}

-- Each owner has a label: the root's at least (RFC 1034, section 3.1).
abbrev pub IsNamed : Zone → Type 0
IsNamed z = (r : Record) → Contains z.records r → r.owner ≢ []

-- SOA records stand at the origin (RFC 1034, section 4.2.1).
abbrev pub HasSoaAtOrigin : Zone → Type 0
HasSoaAtOrigin z = (r : Record) → Contains z.records r → type_of r.value ≡ soa_type → r.owner ≡ z.origin

-- One SOA: all SOA records say the same (RFC 1034, section 4.2.1).
abbrev pub HasOneSoa : Zone → Type 0
HasOneSoa z = (r s : Record) → Contains z.records r → Contains z.records s → type_of r.value ≡ soa_type → type_of s.value ≡ soa_type → r.value ≡ s.value

-- Records of one owner and type have one TTL (RFC 2181, section 5.2).
abbrev pub HasOneTtl : Zone → Type 0
HasOneTtl z = (r s : Record) → Contains z.records r → Contains z.records s → r.owner ≡ s.owner → type_of r.value ≡ type_of s.value → r.ttl ≡ s.ttl

-- A name has one canonical name (RFC 2181, section 10.1).
abbrev pub HasOneAlias : Zone → Type 0
HasOneAlias z = (r s : Record) → Contains z.records r → Contains z.records s → r.owner ≡ s.owner → type_of r.value ≡ cname_type → type_of s.value ≡ cname_type → r.value ≡ s.value

abbrev pub IsAnyOf : ℕ → ℕ → ℕ → ℕ → Type 0
IsAnyOf t u v w = (t ≡ u) ⊎ (t ≡ v) ⊎ (t ≡ w)

-- The rules of a zone's records (RFC 1034, sections 3.6.2 and 4.2.1; RFC 2181, sections 5.2 and 10.1;
-- RFC 4592, section 4).
pub record IsZone (z : Zone) : Type 0 where
  -- One SOA, at the origin.
  pub soa : (front : List Record) × (r : Record) × (back : List Record) × (z.records ≡ front ++ r ∷ back) × (type_of r.value ≡ soa_type) × (r.owner ≡ z.origin)
      × ((s : Record) → Contains (front ++ back) s → type_of s.value ≢ soa_type)
  -- NS records at the origin.
  pub servers : (r : Record) × At z z.origin ns_type r
  -- All owners at or under the origin.
  pub inside : (r : Record) → Contains z.records r → IsAtOrUnder r.owner z.origin
  -- A CNAME stands alone.
  pub alone : (r s : Record) → Contains z.records r → Contains z.records s → r.owner ≡ s.owner → type_of r.value ≡ cname_type → r.value ≡ s.value
  -- One TTL a set.
  pub ttls : HasOneTtl z
  -- Beneath a cut addresses alone, at a cut NS records beside them.
  pub glue : (c : List (List ℕ)) (r : Record) → IsCut z c → Contains z.records r → IsBeneath r.owner c → (type_of r.value ≡ a_type) ⊎ (type_of r.value ≡ aaaa_type)
  pub cuts : (c : List (List ℕ)) (r : Record) → IsCut z c → Contains z.records r → r.owner ≡ c → IsAnyOf (type_of r.value) ns_type a_type aaaa_type
  -- `*` as a label stands first.
  pub stars : (r : Record) (l : List ℕ) (front back : List (List ℕ)) → Contains z.records r → r.owner ≡ l ∷ (front ++ star ∷ back) → ⊥
  -- No NS and no SOA at a wildcard, and no wildcard beneath a cut.
  pub star_data : (r : Record) (n : List (List ℕ)) → Contains z.records r → r.owner ≡ star ∷ n → (type_of r.value ≢ ns_type) × (type_of r.value ≢ soa_type)
  pub star_cuts : (r : Record) (n c : List (List ℕ)) → Contains z.records r → r.owner ≡ star ∷ n → IsCut z c → IsBeneath r.owner c → ⊥
