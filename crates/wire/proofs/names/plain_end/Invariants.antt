use Rattle.wire.proofs.Plainly.{PlainWalk}
use Rattle.wire.proofs.names.plain_end.Given as goal

abbrev pub invariant-labels : goal.invariant-labels
invariant-labels l = PlainWalk l.bytes l.at l.place l.room

abbrev pub decreases-labels : goal.decreases-labels
decreases-labels l = l.room
