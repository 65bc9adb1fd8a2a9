use Rattle.std.proofs.Common.{◌≡◌, length}
use Rattle.zone.specs.Look.{cut_of, or_else}
use Rattle.authority.specs.Climb.{above}
use Rattle.authority.proofs.plain.cut_over.Given as goal

abbrev pub invariant-up : goal.invariant-up
invariant-up g l = or_else (cut_of record { origin = l.origin; records = l.records } (above l.up)) l.found ≡ cut_of record { origin = l.origin; records = l.records } l.name

abbrev pub decreases-up : goal.decreases-up
decreases-up g l = length l.up
