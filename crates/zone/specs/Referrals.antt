-- The result of a zone for a name that is beneath or at a cut (RFC 1034, section 4.3.2, step 3b).
use Rattle.std.specs.Prelude.{◌≡◌, ℕ, ◌⊎◌, List, Contains}
use Rattle.dname.specs.Labels.{IsAtOrUnder}
use Rattle.rdata.specs.Data.{Ns, type_of}
use Rattle.rdata.specs.Records.{Record}
use Rattle.zone.specs.Zones.{Zone, At, IsCutOver, a_type, aaaa_type, ns_type}
use Rattle.zone.specs.Links.{Distinct, IsLink}
use Rattle.zone.specs.Look.{Local, Linked, Cut, NotHere}

-- An address that the zone has of a server of the cut.
abbrev pub IsGlue : Zone → List (List ℕ) → Record → Type 0
IsGlue z c r = Contains z.records r × ((type_of r.value ≡ a_type) ⊎ (type_of r.value ≡ aaaa_type)) × ((s : Record) × At z c ns_type s × (s.value ≡ Ns r.owner))

-- A referral: the cut, its NS records and the addresses of its servers, each once.
pub record IsReferral (z : Zone) (q c : List (List ℕ)) (servers addresses : List Record) : Type 0 where
  pub over : IsCutOver z q c
  pub named : (r : Record) → Contains servers r → At z c ns_type r
  pub all_named : (r : Record) → At z c ns_type r → Contains servers r
  pub named_once : Distinct servers
  pub glue : (r : Record) → Contains addresses r → IsGlue z c r
  pub all_glue : (r : Record) → IsGlue z c r → Contains addresses r
  pub glue_once : Distinct addresses

-- The result of a zone for a name at or under its origin.
abbrev pub IsLocal : Zone → List (List ℕ) → ℕ → Local → Type 0
IsLocal z q t (Linked l) = IsLink z q t l
IsLocal z q t (Cut c servers addresses) = IsReferral z q c servers addresses
IsLocal z q t NotHere = IsAtOrUnder q z.origin → ⊥
