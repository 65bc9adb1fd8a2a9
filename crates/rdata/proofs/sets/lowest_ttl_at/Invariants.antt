use Rattle.std.proofs.Common.{◌≡◌, take}
use Rattle.rdata.specs.Selected.{records_at}
use Rattle.rdata.specs.Sets.{lowest_ttl}
use Rattle.rdata.specs.Types.{type_number}
use Rattle.rdata.proofs.sets.lowest_ttl_at.Given as goal

abbrev pub invariant-loop-rr : goal.invariant-loop-rr
invariant-loop-rr g l = l.lowest ≡ lowest_ttl (records_at l.owner (type_number l.kind) (take l.rr-index l.records))
