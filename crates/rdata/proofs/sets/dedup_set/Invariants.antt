use Rattle.std.proofs.Common.{◌≡◌, take}
use Rattle.rdata.specs.Gathering.{gathered}
use Rattle.rdata.proofs.sets.dedup_set.Given as goal

abbrev pub invariant-loop-rr : goal.invariant-loop-rr
invariant-loop-rr g l = l.kept ≡ gathered l.ttl (take l.rr-index l.records)
