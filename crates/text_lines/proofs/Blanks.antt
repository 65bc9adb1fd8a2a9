-- Where the first blank stands, by the library's search for two bytes.
use Rattle.std.proofs.Common.{◌≡◌, ℕ, ◌<◌, ◌≤◌, Bool, true, false, Option, Some, None, List, length, slice_index, refl, sym, arith}
use Rattle.std.proofs.lemmas.Bool.Decides.{nat_tests}
use Rattle.std.proofs.lemmas.List.Sums.{position_or_len_is}
use Rattle.std.specs.List.{position_or_len}
use Rattle.std.specs.Option.{unwrap_or}
use Rattle.memchr.specs.Find.{IsFirstByte, is_byte2}
use Rattle.text_lines.specs.Lines.{is_blank}

is_false : (b : Bool) → ¬ (b ≡ true) → b ≡ false
is_false true h = absurd (h refl)
is_false false h = refl

blank_is_low : (c : ℕ) → is_blank c ≡ true → c < 128
blank_is_low c e = grind (arith, nat_tests, e)

pub record IsPieceLen (text : List ℕ) (size : ℕ) : Type 0 where
  pub place : size ≡ position_or_len is_blank text
  pub within : size ≤ length text
  pub plain : size < length text → slice_index text size < 128

pub first_blank : (text : List ℕ) (found : Option ℕ) → IsFirstByte (is_byte2 32 9) text found → IsPieceLen text (unwrap_or found (length text))
first_blank text None h = record {
  place = sym (position_or_len_is is_blank text (length text) 0 (omega arith) (λ k lt. is_false (is_blank (slice_index text k)) (h k (omega arith) lt)) (λ over. absurd (omega (arith, over))));
  within = omega arith;
  plain = λ over. absurd (omega (arith, over));
}
first_blank text (Some place) (first, there) =
    let high = first.high in
    record {
      place = sym (position_or_len_is is_blank text place 0 (omega arith) (λ k lt. is_false (is_blank (slice_index text k)) (first.before k (omega arith) lt)) (λ within. there));
      within = omega arith;
      plain = λ within. blank_is_low (slice_index text place) there;
    }
