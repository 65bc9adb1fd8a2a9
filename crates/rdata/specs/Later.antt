-- The data of a set behind the first sixteen, found by their order.
use Rattle.std.specs.Prelude.{◌≡◌, List, drop}
use Rattle.std.specs.declared.cmp.Ordering.{Ordering}
use Rattle.std.specs.BTreeSet.{BTreeSet, contains}
use Rattle.std.proofs.Common.{Bor}
use Rattle.rdata.specs.Data.{Datum}
use Rattle.rdata.specs.Gathering.{has_datum}
use Rattle.rdata.specs.Kept.{datum}
use Rattle.rdata.specs.Order.{kept_cmp}
use Rattle.rdata.specs.declared.data.RData.{RData}

abbrev pub lent_cmp : {H : Type 0} → Bor (RData H) → Bor (RData H) → Ordering
lent_cmp x y = kept_cmp x.now y.now

abbrev pub AreFound : {H : Type 0} → BTreeSet (Bor (RData H)) → List Datum → Type 0
AreFound {H} later ds = (x : Bor (RData H)) → contains lent_cmp later x ≡ has_datum (drop 16 ds) (datum x.now)
