-- A set while it is made.
use Rattle.std.specs.Prelude.{ℕ, Bool, cond, List, [], ◌∷◌, ◌++◌, fold}
use Rattle.std.specs.List.{list_any}
use Rattle.rdata.specs.Data.{Datum, same_data}
use Rattle.rdata.specs.Records.{Record}
use Rattle.rdata.specs.Sets.{is_repeat, with_ttl}

-- The set has this record already, TTLs aside.
abbrev pub has : List Record → Record → Bool
has set added = list_any (λ (r : Record). is_repeat r added) set

-- The set with one more record, if that is new.
abbrev pub add_once : ℕ → List Record → Record → List Record
add_once ttl set added = cond (has set added) set (set ++ with_ttl ttl added ∷ [])

unfoldable pub gathered : ℕ → List Record → List Record
gathered ttl rs = fold (add_once ttl) [] rs

-- Whether a set of data has these, and the set with these, if they are new.
abbrev pub has_datum : List Datum → Datum → Bool
has_datum ds added = list_any (λ (d : Datum). same_data d added) ds

abbrev pub add_datum : List Datum → Datum → List Datum
add_datum ds added = cond (has_datum ds added) ds (ds ++ added ∷ [])
