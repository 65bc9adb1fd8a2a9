use Rattle.std.proofs.Common.{length}
use Rattle.suffixes.proofs.Steps.{Walked}
use Rattle.suffixes.proofs.earlier.Suffixes.longest.Given as goal

abbrev pub invariant-loop-label : goal.invariant-loop-label
invariant-loop-label g l = Walked l.self l.name l.rest l.labels l.bytes

abbrev pub decreases-loop-label : goal.decreases-loop-label
decreases-loop-label g l = length l.rest
