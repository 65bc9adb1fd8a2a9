use Rattle.std.proofs.Common.{◌≡◌, length}
use Rattle.zone.specs.Look.{is_beneath_cut}
use Rattle.zone.proofs.cuts.Cuts.is_beneath_cut.Given as goal

abbrev pub invariant-up : goal.invariant-up
invariant-up g l = is_beneath_cut l.self l.above ≡ is_beneath_cut l.self l.name

abbrev pub decreases-up : goal.decreases-up
decreases-up g l = length l.above
