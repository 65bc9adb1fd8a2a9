-- Where a line ends, by the library's search for one byte.
use Rattle.std.proofs.Common.{◌≡◌, ℕ, ◌≤◌, Bool, true, false, Option, Some, None, List, length, slice_index, refl, sym, ◌∙◌, arith}
use Rattle.std.proofs.lemmas.List.Recursion.{is_position_or_len}
use Rattle.std.proofs.lemmas.List.Sums.{position_or_len_is}
use Rattle.std.specs.List.{position_or_len}
use Rattle.std.specs.Option.{unwrap_or}
use Rattle.memchr.specs.Find.{IsFirstByte, is_byte}
use Rattle.master_lexer.specs.Lexemes.{line_size}

line_is_position : (text : List ℕ) → line_size text ≡ position_or_len (is_byte 10) text
line_is_position text = is_position_or_len line_size (is_byte 10) refl (λ c cs. refl) text

is_false : (b : Bool) → ¬ (b ≡ true) → b ≡ false
is_false true h = absurd (h refl)
is_false false h = refl

pub line_end : (text : List ℕ) (found : Option ℕ) → IsFirstByte (is_byte 10) text found → (unwrap_or found (length text) ≡ line_size text) × (unwrap_or found (length text) ≤ length text)
line_end text None h = (
  sym (line_is_position text ∙ position_or_len_is (is_byte 10) text (length text) 0 (omega arith) (λ k lt. is_false (is_byte 10 (slice_index text k)) (h k (omega arith) lt)) (λ over. absurd (omega (arith, over)))),
  omega arith,
)
line_end text (Some place) (first, there) =
    let high = first.high in (
      sym (line_is_position text ∙ position_or_len_is (is_byte 10) text place 0 (omega arith) (λ k lt. is_false (is_byte 10 (slice_index text k)) (first.before k (omega arith) lt)) (λ within. there)),
      omega arith,
    )
