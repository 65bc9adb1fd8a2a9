-- The data of sets, and of those of a zone that are made once for all answers.
use Rattle.std.specs.Prelude.{◌≡◌, ◌<◌, ℕ, nat_eq, Some, List, [], length, fold, get_or}
use Rattle.std.specs.HashMap.{HashMap, get}
use Rattle.rdata.specs.Data.{Datum, type_of}
use Rattle.rdata.specs.Gathering.{add_datum}
use Rattle.rdata.specs.Records.{Record}
use Rattle.zone.specs.Look.{at, of_type}
use Rattle.zone.specs.Tree.{picks}

abbrev pub add_value : List Datum → Record → List Datum
add_value ds r = add_datum ds r.value

-- The data of records, each once, in order (RFC 2181, section 5).
abbrev pub values_of : List Record → List Datum
values_of rs = fold add_value [] rs

-- The data of the set in which a record of a list stands: of its owner and its type.
abbrev pub values_with : Record → List Record → List Datum
values_with r rs = values_of (of_type (type_of r.value) (at r.owner rs))

-- What a map has at a place of a list are the data of the set of the record there.
pub record AreSets {S : Type 0} (m : HashMap ℕ (List Datum) S) (rs : List Record) : Type 0 where
  pub kept : (i : ℕ) (ds : List Datum) (r : Record) → get nat_eq m i ≡ Some ds → ds ≡ values_with (get_or rs i r) rs

-- The same of the records at some places: what the map has at such a place are the data of a type among them.
abbrev pub AreSetsAt : {S : Type 0} → HashMap ℕ (List Datum) S → List Record → List ℕ → Type 0
AreSetsAt m rs is = (k : ℕ) (ds : List Datum) (r : Record) → k < length is → get nat_eq m (get_or is k 0) ≡ Some ds → ds ≡ values_of (of_type (type_of (get_or (picks rs is) k r).value) (picks rs is))
