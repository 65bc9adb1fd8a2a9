-- Equality of names is exact.
use Rattle.dname.specs.Labels.{same_name}
use Rattle.dname.specs.Laws.{same_name-exact, same_name-refl}
use Rattle.lru_laws.specs.Orders.{IsExact}

pub same_name_exact : IsExact same_name
same_name_exact = record { equal = same_name-exact; refl = same_name-refl }
