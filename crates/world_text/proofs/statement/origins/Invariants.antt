-- The names that are left to be read are read behind these.
use Rattle.std.proofs.Common.{◌≡◌}
use Rattle.world_text.specs.Statements.{names_from, names_in}
use Rattle.world_text.proofs.statement.origins.Given as goal

abbrev pub invariant-loop-word : goal.invariant-loop-word
invariant-loop-word g l = names_from l.origins.items l.word-iterator ≡ names_in l.fn.words
