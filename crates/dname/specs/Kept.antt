-- The bytes of a name where they lie.
use Rattle.std.specs.Prelude.{List, ℕ}
use Rattle.dname.specs.declared.bytes.Place.{Place}
use Rattle.dname.specs.declared.bytes.Place.TheVariants as place

abbrev pub bytes_in : {H : Type 0} → Place H → List ℕ
bytes_in (place.Inline bs _) = bs
bytes_in (place.Heap bs) = bs.items
