use Rattle.std.proofs.Common.{◌≡◌, ◌++◌, take, drop, map}
use Rattle.rdata.specs.Sets.{with_ttl}
use Rattle.rdata.proofs.records.set_all.Given as goal

abbrev pub invariant-loop-record : goal.invariant-loop-record
invariant-loop-record g l = l.records ≡ map (with_ttl l.ttl) (take l.record-index l.initial.records) ++ drop l.record-index l.initial.records
