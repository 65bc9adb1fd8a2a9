use Rattle.std.proofs.Common.{◌≡◌, ◌++◌}
use Rattle.book.proofs.book.Book.into_history.Given as goal

abbrev pub invariant-loop-entry : goal.invariant-loop-entry
invariant-loop-entry g l = l.history.items ++ l.entry-iterator ≡ l.self-inside.tail.items
