use Rattle.std.proofs.Common.{◌≡◌, ◌++◌, take, drop, map}
use Rattle.rdata.specs.Caps.{capped}
use Rattle.rdata.proofs.records.cap_all.Given as goal

abbrev pub invariant-loop-record : goal.invariant-loop-record
invariant-loop-record g l = l.records ≡ map (capped l.most) (take l.record-index l.initial.records) ++ drop l.record-index l.initial.records
