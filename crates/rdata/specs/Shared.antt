-- The data of a set where they lie, seen as plain values.
use Rattle.std.specs.Prelude.{List, [], ◌∷◌}
use Rattle.rdata.specs.Data.{Datum}
use Rattle.rdata.specs.Kept.{datum}
use Rattle.rdata.specs.declared.shared.Place.{Place}
use Rattle.rdata.specs.declared.shared.Place.TheVariants as place

abbrev pub values_of : {H : Type 0} → Place H → List Datum
values_of (place.Alone v) = datum v ∷ []
values_of (place.Shared s) = s
