use Rattle.std.proofs.Common.{length, drop, ◌-◌, ◌≡◌, ◌≤◌, ◌+◌, false}
use Rattle.master_lexer.specs.Lexemes.{word_size}
use Rattle.master_lexer.proofs.lexemes.word_len.Given as goal

abbrev pub invariant-loop-size : goal.invariant-loop-size
invariant-loop-size l = (l.size ≤ length l.text) × (l.size + word_size l.escaped (drop l.size l.text) ≡ word_size false l.text)

abbrev pub decreases-loop-size : goal.decreases-loop-size
decreases-loop-size l = length l.text - l.size
