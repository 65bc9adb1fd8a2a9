use Rattle.std.proofs.Common.{arith}
use Rattle.text_lines.specs.Lines.{is_line_end}
use Rattle.text_lines.proofs.Pieces.{whole_piece}
use Rattle.text_lines.proofs.text.parted.Goals as goal

pub returns-in-Some : goal.returns-in-Some
returns-in-Some c =
    let h = c.in-Some.ensures.byte (omega arith) (λ w o f. f) in
    record { piece = h.0; behind = h.1 }

pub returns-in-None : goal.returns-in-None
returns-in-None c =
    let h = whole_piece is_line_end c.args.text.now (c.in-None.ensures.byte (omega arith) (λ w o f. f)) in
    record { piece = h.0; behind = h.1 }
