use Rattle.std.proofs.Common.{◌≡◌, take}
use Rattle.rdata.proofs.record_set.RecordSet.to_records.Given as goal

abbrev pub invariant-loop-index : goal.invariant-loop-index
invariant-loop-index g l = l.records ≡ take l.index l.self
