use Rattle.std.proofs.Common.{◌∙◌, ◌≤◌, ◌<◌, length, slice_index, subst, sym, ℕ}
use Rattle.text_lines.proofs.Blanks.{first_blank}
use Rattle.text_lines.proofs.line.piece_len.Goals as goal

pub returns-clause-size : goal.returns-clause-size
returns-clause-size c = c.unwrap_or.ensures ∙ (first_blank c.args.text.now c.memchr2.result c.memchr2.ensures).place

pub returns-clause-within : goal.returns-clause-within
returns-clause-within c = subst (λ (n : ℕ). n ≤ length c.args.text.now) (sym c.unwrap_or.ensures) (first_blank c.args.text.now c.memchr2.result c.memchr2.ensures).within

pub returns-clause-plain : goal.returns-clause-plain
returns-clause-plain c = subst (λ (n : ℕ). n < length c.args.text.now → slice_index c.args.text.now n < 128) (sym c.unwrap_or.ensures) (first_blank c.args.text.now c.memchr2.result c.memchr2.ensures).plain
