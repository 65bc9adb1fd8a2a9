use Rattle.std.proofs.Common.{length, ◌≡◌, ◌≤◌, ◌+◌}
use Rattle.master_lexer.specs.Entries.{text_from}
use Rattle.master_lexer.proofs.cursor.advance.Given as goal

abbrev pub invariant-loop-lexeme : goal.invariant-loop-lexeme
invariant-loop-lexeme l = (l.place.line + length l.place.text.now ≤ l.fn.from.line + length l.fn.from.text.now)
    × (text_from l.place.line l.place.bracketed l.place.text.now ≡ text_from l.fn.from.line l.fn.from.bracketed l.fn.from.text.now)

abbrev pub decreases-loop-lexeme : goal.decreases-loop-lexeme
decreases-loop-lexeme l = length l.place.text.now
