use Rattle.std.proofs.Common.{◌-◌}
use Rattle.wire.proofs.Ends.{StringEnds}
use Rattle.wire.proofs.skips.texts_end.Given as goal

abbrev pub invariant-loop-place : goal.invariant-loop-place
invariant-loop-place l = StringEnds l.bytes l.at l.end l.place

abbrev pub decreases-loop-place : goal.decreases-loop-place
decreases-loop-place l = l.end - l.place
