use Rattle.std.proofs.Common.{◌≡◌, ◌↔◌, drop}
use Rattle.book.specs.Histories.{lines_of}
use Rattle.pool.proofs.closing.is_part.Given as goal

abbrev pub invariant-loop-entry : goal.invariant-loop-entry
invariant-loop-entry g l = (lines_of l.worker (drop l.entry-index l.history) ≡ l.rest) ↔ (lines_of l.worker l.history ≡ l.list)
