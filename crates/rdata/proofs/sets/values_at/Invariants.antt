use Rattle.std.proofs.Common.{◌≡◌, ℕ, map, take}
use Rattle.rdata.specs.Gathering.{gathered}
use Rattle.rdata.specs.Kept.{datum}
use Rattle.rdata.specs.Later.{AreFound}
use Rattle.rdata.specs.Rows.{rows}
use Rattle.rdata.specs.Selected.{records_at}
use Rattle.rdata.specs.Types.{type_number}
use Rattle.rdata.proofs.sets.values_at.Given as goal

abbrev pub invariant-loop-rr : goal.invariant-loop-rr
invariant-loop-rr g l = record {
  made : (t : ℕ) → rows l.owner t l.values.items ≡ gathered t (records_at l.owner (type_number l.kind) (take l.rr-index l.records));
  found : AreFound l.later (map datum l.values.items);
}
