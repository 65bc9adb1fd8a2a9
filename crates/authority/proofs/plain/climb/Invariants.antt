use Rattle.std.proofs.Common.{◌≡◌, length}
use Rattle.rdata.specs.Types.{type_number}
use Rattle.zone.specs.Look.{climbed}
use Rattle.authority.proofs.plain.climb.Given as goal

abbrev pub invariant-up : goal.invariant-up
invariant-up g l = climbed l.soa l.name (type_number l.kind) l.records l.up ≡ climbed l.soa l.name (type_number l.kind) l.records l.name

abbrev pub decreases-up : goal.decreases-up
decreases-up g l = length l.up
