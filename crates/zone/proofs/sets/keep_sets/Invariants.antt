use Rattle.zone.specs.Values.{AreSets}
use Rattle.zone.proofs.sets.keep_sets.Given as goal

abbrev pub invariant-loop-index : goal.invariant-loop-index
invariant-loop-index g l = AreSets l.sets l.records
