use Rattle.text_lines.proofs.Pieces.{first_line_of, no_text, over_zero, is_zero}
use Rattle.text_lines.proofs.text.first_line.Goals as goal

pub returns : goal.returns
returns c = first_line_of c.args.text.now c.parted.result.0.now c.parted.result.1.now (over_zero _ (c.if-is_empty.ensures {u = tt})) c.parted.ensures.piece c.parted.ensures.behind

pub returns-then-is_empty : goal.returns-then-is_empty
returns-then-is_empty c = no_text c.args.text.now (is_zero _ c.if-is_empty.ensures)
