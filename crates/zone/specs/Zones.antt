-- A zone, its cuts, and which names exist in it (RFC 1034, sections 3.6, 4.2 and 4.3).
use Rattle.std.specs.Prelude.{◌≡◌, ◌≢◌, ℕ, ◌≤◌, List, length, Contains}
use Rattle.dname.specs.Labels.{IsAtOrUnder}
use Rattle.rdata.specs.Data.{type_of}
use Rattle.rdata.specs.Records.{Record}
use Rattle.rdata.specs.Types.{type_number}
use Rattle.rdata.specs.declared.rtype.RType.TheVariants as kind

pub record Zone : Type 0 where
  pub origin : List (List ℕ)
  pub records : List Record

abbrev pub a_type : ℕ
a_type = type_number kind.A

abbrev pub ns_type : ℕ
ns_type = type_number kind.Ns

abbrev pub cname_type : ℕ
cname_type = type_number kind.Cname

abbrev pub soa_type : ℕ
soa_type = type_number kind.Soa

abbrev pub aaaa_type : ℕ
aaaa_type = type_number kind.Aaaa

-- One name is strictly under another one.
abbrev pub IsBeneath : List (List ℕ) → List (List ℕ) → Type 0
IsBeneath a b = IsAtOrUnder a b × (a ≢ b)

-- The zone has this record, of this owner and type.
pub record At (z : Zone) (n : List (List ℕ)) (t : ℕ) (r : Record) : Type 0 where
  pub stands : Contains z.records r
  pub owner : r.owner ≡ n
  pub kind : type_of r.value ≡ t

-- A cut: an owner of NS records other than the origin (RFC 1034, section 4.2).
abbrev pub IsCut : Zone → List (List ℕ) → Type 0
IsCut z c = (c ≢ z.origin) × ((r : Record) × At z c ns_type r)

-- No cut is at the name or above it.
abbrev pub IsUncut : Zone → List (List ℕ) → Type 0
IsUncut z q = (c : List (List ℕ)) → IsCut z c → IsAtOrUnder q c → ⊥

-- The cut that a name is referred to: the one nearest to the origin (RFC 1034, section 4.3.2, step 3b).
pub record IsCutOver (z : Zone) (q c : List (List ℕ)) : Type 0 where
  pub cut : IsCut z c
  pub over : IsAtOrUnder q c
  pub nearest : (d : List (List ℕ)) → IsCut z d → IsAtOrUnder q d → length c ≤ length d

-- A name exists where an owner that is not beneath a cut is at or under it: names between owners and
-- the origin exist without records (RFC 1034, section 4.3.2; RFC 4592, section 2.2.2).
abbrev pub Exists : Zone → List (List ℕ) → Type 0
Exists z n = (r : Record) × Contains z.records r × IsAtOrUnder r.owner n × ((c : List (List ℕ)) → IsCut z c → IsBeneath r.owner c → ⊥)

-- The closest encloser: the longest existing name over q (RFC 4592, section 3.3.1).
pub record IsEncloser (z : Zone) (q e : List (List ℕ)) : Type 0 where
  pub exists : Exists z e
  pub over : IsAtOrUnder q e
  pub longest : (d : List (List ℕ)) → Exists z d → IsAtOrUnder q d → length d ≤ length e
