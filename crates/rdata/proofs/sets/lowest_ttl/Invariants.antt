use Rattle.std.proofs.Common.{◌≡◌, take}
use Rattle.rdata.specs.Sets.{lowest_ttl}
use Rattle.rdata.proofs.sets.lowest_ttl.Given as goal

abbrev pub invariant-loop-rr : goal.invariant-loop-rr
invariant-loop-rr g l = l.least ≡ lowest_ttl (take l.rr-index l.records)
