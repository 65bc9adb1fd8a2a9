use Rattle.std.proofs.Common.{◌≡◌, take}
use Rattle.rdata.proofs.records.copies.Given as goal

abbrev pub invariant-loop-record : goal.invariant-loop-record
invariant-loop-record g l = l.items.items ≡ take l.record-index l.records
