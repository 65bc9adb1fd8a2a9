use Rattle.std.proofs.Common.{◌<◌, length, slice_index, subst, List, ℕ}
use Rattle.std.proofs.lemmas.Str.{IsCharBoundary-before_ascii, IsCharBoundary-after_ascii}
use Rattle.text_lines.proofs.line.first_piece.Goals as goal

pub range-requires-clause-end_boundary : goal.range-requires-clause-end_boundary
range-requires-clause-end_boundary c =
    let n = c.piece_len-size.result in
    let plain = subst (λ (t : List ℕ). n < length t → slice_index t n < 128) c.as_bytes.ensures.value c.piece_len-size.ensures.plain in
    IsCharBoundary-before_ascii c.args.text.now n c.if-size-text.true (plain c.if-size-text.true)

pub range_from-requires : goal.range_from-requires
range_from-requires c =
    let n = c.piece_len-size.result in
    let plain = subst (λ (t : List ℕ). n < length t → slice_index t n < 128) c.as_bytes.ensures.value c.piece_len-size.ensures.plain in
    λ _. IsCharBoundary-after_ascii c.args.text.now n c.utf8.text c.if-size-text.true (plain c.if-size-text.true)
