-- A record set as the list of its records.
use Rattle.std.specs.Prelude.{ℕ, Option, Some, None, List, [], ◌∷◌, map}
use Rattle.rdata.specs.Data.{Datum}
use Rattle.rdata.specs.Kept.{datum}
use Rattle.rdata.specs.Records.{Record}
use Rattle.rdata.specs.declared.data.RData.{RData}

-- A record with these data.
abbrev pub plain_row : List (List ℕ) → ℕ → Datum → Record
plain_row owner ttl d = record { owner = owner; ttl = ttl; value = d }

abbrev pub plain_rows : List (List ℕ) → ℕ → List Datum → List Record
plain_rows owner ttl ds = map (plain_row owner ttl) ds

-- The same of data as they are kept.
abbrev pub row : {H : Type 0} → List (List ℕ) → ℕ → RData H → Record
row owner ttl d = record { owner = owner; ttl = ttl; value = datum d }

-- The records with these data, of one owner and with one TTL.
abbrev pub rows : {H : Type 0} → List (List ℕ) → ℕ → List (RData H) → List Record
rows owner ttl ds = map (row owner ttl) ds

-- The records of a set, and none where there is no set.
abbrev pub in_set : Option (List Record) → List Record
in_set None = []
in_set (Some rs) = rs

abbrev pub first_in : List Record → Option Record
first_in [] = None
first_in (r ∷ rs) = Some r
