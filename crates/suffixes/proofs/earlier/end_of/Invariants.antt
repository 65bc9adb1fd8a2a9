use Rattle.std.proofs.Common.{◌-◌, length}
use Rattle.suffixes.specs.Kept.{texts_of}
use Rattle.suffixes.proofs.Search.{Following}
use Rattle.suffixes.proofs.earlier.end_of.Given as goal

abbrev pub invariant-loop-number : goal.invariant-loop-number
invariant-loop-number l = Following (texts_of l.names l.notes) l.notes l.first l.suffix l.number l.depth l.end

abbrev pub decreases-loop-number : goal.decreases-loop-number
decreases-loop-number l = length l.notes - l.depth
