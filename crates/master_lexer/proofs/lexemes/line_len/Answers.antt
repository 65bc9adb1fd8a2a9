use Rattle.std.proofs.Common.{◌∙◌, ◌≤◌, length, subst, sym, ℕ}
use Rattle.master_lexer.proofs.LineEnds.{line_end}
use Rattle.master_lexer.proofs.lexemes.line_len.Goals as goal

pub returns-clause-value : goal.returns-clause-value
returns-clause-value c = c.unwrap_or.ensures ∙ (line_end c.args.text.now c.memchr.result c.memchr.ensures).0

pub returns-clause-within : goal.returns-clause-within
returns-clause-within c = subst (λ (n : ℕ). n ≤ length c.args.text.now) (sym c.unwrap_or.ensures) (line_end c.args.text.now c.memchr.result c.memchr.ensures).1
