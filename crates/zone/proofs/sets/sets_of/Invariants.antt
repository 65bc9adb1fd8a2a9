use Rattle.zone.specs.Values.{AreSets}
use Rattle.zone.proofs.sets.sets_of.Given as goal

abbrev pub invariant-loop-place : goal.invariant-loop-place
invariant-loop-place g l = AreSets l.sets l.records
