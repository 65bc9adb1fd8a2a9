-- Cuts made of records and of hints (RFC 1034, sections 4.2.1, 5.3.2 and 5.3.3).
use Rattle.std.specs.Prelude.{◌≡◌, List, [], ◌∷◌, ◌++◌, map, Contains}
use Rattle.std.specs.List.{flat_map}
use Rattle.dname.specs.Labels.{Name, root}
use Rattle.rdata.specs.declared.addr.Addr.{Addr}
use Rattle.rdata.specs.Data.{Datum, Ns, Ipv4}
use Rattle.rdata.specs.Records.{Record}
use Rattle.rdata.specs.Targets.{targets_of}
use Rattle.referral.specs.Cuts.{Cut, ServerAddress}

-- The address of this name in these data, if they are of type A.
abbrev pub addresses_at : Name → Datum → List ServerAddress
addresses_at n (Ipv4 bytes) = record { name = n; address = record { 0 = bytes } } ∷ []
addresses_at n _ = []

abbrev pub addresses_in : List Record → List ServerAddress
addresses_in glue = flat_map (λ (r : Record). addresses_at r.owner r.value) glue

-- The cut of that owner: the targets of the NS records, and the A records among the glue.
abbrev pub record_cut : Name → List Record → List Record → Cut
record_cut at ns glue = record { owner = at; names = targets_of ns; addresses = addresses_in glue }

-- The address of a hint, of which no name is known.
abbrev pub hinted : Addr → ServerAddress
hinted a = record { name = root; address = a }

abbrev pub hint_cut : List Addr → Cut
hint_cut hints = record { owner = root; names = []; addresses = map hinted hints }

-- The names with that of one more record.
abbrev pub with_target : List Name → Datum → List Name
with_target names (Ns n) = names ++ n ∷ []
with_target names _ = names

abbrev pub with_address : List ServerAddress → Name → Datum → List ServerAddress
with_address addresses n (Ipv4 bytes) = addresses ++ record { name = n; address = record { 0 = bytes } } ∷ []
with_address addresses n _ = addresses

-- ---- the laws that the functions of this crate state

-- The names are exactly the targets of the NS records.
abbrev pub NamesAreTargets : Type 0
NamesAreTargets = (ns : List Record) (n : Name) → Contains (targets_of ns) n → (r : Record) × Contains ns r × (r.value ≡ Ns n)

abbrev pub TargetsAreNames : Type 0
TargetsAreNames = (ns : List Record) (r : Record) (n : Name) → Contains ns r → r.value ≡ Ns n → Contains (targets_of ns) n

-- The addresses are exactly those of the A records, each with its owner.
abbrev pub AddressesAreGlue : Type 0
AddressesAreGlue = (glue : List Record) (s : ServerAddress) → Contains (addresses_in glue) s → (r : Record) × Contains glue r × (r.owner ≡ s.name) × (r.value ≡ Ipv4 (s.address).0)

abbrev pub GlueIsAddresses : Type 0
GlueIsAddresses = (glue : List Record) (r : Record) (s : ServerAddress) → Contains glue r → r.owner ≡ s.name → r.value ≡ Ipv4 (s.address).0 → Contains (addresses_in glue) s
