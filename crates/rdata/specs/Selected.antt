-- The records of one owner and type.
use Rattle.std.specs.Prelude.{ℕ, Bool, ◌&&◌, nat_eq, List, filter}
use Rattle.dname.specs.Labels.{same_name}
use Rattle.rdata.specs.Data.{type_of}
use Rattle.rdata.specs.Records.{Record}

abbrev pub is_at : List (List ℕ) → ℕ → Record → Bool
is_at q t r = same_name r.owner q && nat_eq (type_of r.value) t

abbrev pub records_at : List (List ℕ) → ℕ → List Record → List Record
records_at q t rs = filter (is_at q t) rs
