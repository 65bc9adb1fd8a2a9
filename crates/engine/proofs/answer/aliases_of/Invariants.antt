use Rattle.std.proofs.Common.{◌≡◌, ◌++◌}
use Rattle.runs.specs.Messages.{aliases_of}
use Rattle.engine.proofs.answer.aliases_of.Given as goal

abbrev pub invariant-loop-taken : goal.invariant-loop-taken
invariant-loop-taken g l =
    (goal.iterator-loop-taken g).can_next l.taken-iterator × (goal.iterator-loop-taken g).is_finite l.taken-iterator
    × (l.aliases ++ aliases_of l.now l.taken-iterator.rest.items ≡ aliases_of l.now l.fn.chain)
