use Rattle.std.proofs.Common.{◌≡◌, true, subst}
use Rattle.rdata.specs.Data.{Datum, same_data}
use Rattle.rdata.proofs.Exact.{same_data-exact, same_data-refl}
use Rattle.rdata.proofs.laws.same_data_law.Goals as goal

pub returns : goal.returns
returns c = record { exact = same_data-exact; same = λ d e h. subst (λ (x : Datum). same_data d x ≡ true) h (same_data-refl d) }
