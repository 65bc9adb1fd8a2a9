-- A name that stands in full is read as the bytes from its place to its end.
use Rattle.std.proofs.Common.{◌≡◌, ◌∙◌, refl, sym, ap, ℕ, ◌+◌, ◌-◌, ◌<◌, ◌≤◌, Bool, true, false, if◌then◌else◌, Result, Ok, None, List, [], ◌∷◌, ◌++◌, length, take, drop, slice_range, arith, append_assoc}
use Rattle.std.proofs.lemmas.Bool.Decides.{nat_tests}
use Rattle.std.proofs.lemmas.List.{drop-drop, drop_more}
use Rattle.std.proofs.Math.Seq.{take-add}
use Rattle.std.specs.Prelude.{nat_eq, nat_le, nat_lt, slice_index}
use Rattle.wire.specs.declared.error.WireError.{WireError}
use Rattle.wire.specs.declared.error.WireError.TheVariants.{Short, BadLabel}
use Rattle.wire.specs.declared.parts.Part.{Part}
use Rattle.wire.specs.declared.parts.Part.TheVariants.{End, Label}
use Rattle.wire.specs.Parts.{part_at, message_faults}
use Rattle.wire.specs.Plain.{IsPlain}
use Rattle.wire.proofs.Walks.{LettersWalk, letters_begin, letters_label, letters_done}

-- ---- pieces of a list

abbrev range : List ℕ → ℕ → ℕ → List ℕ
range xs from to = slice_range xs from to

join : (xs : List ℕ) (a b c : ℕ) → a ≤ b → b ≤ c → range xs a c ≡ range xs a b ++ range xs b c
join xs a b c first second =
    let whole : c - a ≡ (b - a) + (c - b) = omega arith in
    let at : a + (b - a) ≡ b = omega arith in
    ap (λ (n : ℕ). take n (drop a xs)) whole
    ∙ (take-add (b - a) (c - b) (drop a xs)
    ∙ ap (λ (l : List ℕ). range xs a b ++ take (c - b) l) (drop-drop (b - a) a xs ∙ ap (λ (n : ℕ). drop n xs) at))

one : (xs : List ℕ) (p : ℕ) → p < length xs → range xs p (p + 1) ≡ slice_index xs p ∷ []
one xs p less =
    let single : p + 1 - p ≡ 1 = omega arith in
    ap (λ (n : ℕ). take n (drop p xs)) single ∙ ap (take 1) (drop_more xs p 0 less)

none : (xs : List ℕ) (p : ℕ) → range xs p p ≡ []
none xs p = let empty : p - p ≡ 0 = omega arith in ap (λ (n : ℕ). take n (drop p xs)) empty

-- ---- the parts of the name

test : (b : Bool) (x y : Result Part WireError) → b ≡ true → (if b then x else y) ≡ x
test b x y h = ap (λ (c : Bool). if c then x else y) h

test_no : (b : Bool) (x y : Result Part WireError) → b ≡ false → (if b then x else y) ≡ y
test_no b x y h = ap (λ (c : Bool). if c then x else y) h

label_part : (bytes : List ℕ) (place size : ℕ) → size ≡ slice_index bytes place → place < length bytes → 0 < size → size < 64 → Ok (Label size) ≡ part_at bytes (length bytes) Short BadLabel place
label_part bytes place size is less some few =
    let inside : nat_le (length bytes) place ≡ false = grind (arith, nat_tests) in
    let more : nat_eq (slice_index bytes place) 0 ≡ false = grind (arith, nat_tests) in
    let short : nat_lt (slice_index bytes place) 64 ≡ true = grind (arith, nat_tests) in
    ap (λ (n : ℕ). Ok (Label n)) is
    ∙ (sym (test (nat_lt (slice_index bytes place) 64) _ _ short) ∙ (sym (test_no (nat_eq (slice_index bytes place) 0) _ _ more) ∙ sym (test_no (nat_le (length bytes) place) _ _ inside)))

end_part : (bytes : List ℕ) (place : ℕ) → slice_index bytes place ≡ 0 → place < length bytes → Ok End ≡ part_at bytes (length bytes) Short BadLabel place
end_part bytes place is less =
    let inside : nat_le (length bytes) place ≡ false = grind (arith, nat_tests) in
    let zero : nat_eq (slice_index bytes place) 0 ≡ true = grind (arith, nat_tests) in
    sym (test (nat_eq (slice_index bytes place) 0) _ _ zero) ∙ sym (test_no (nat_le (length bytes) place) _ _ inside)

-- ---- the walk

-- The labels up to a place stand there as they are spelt.
pub record PlainWalk (bytes : List ℕ) (at place room : ℕ) : Type 0 where
  pub begins : at ≤ place
  pub walk : LettersWalk bytes message_faults (length bytes) at at (range bytes at place) at place (length bytes) Short room None

pub plain_begins : (bytes : List ℕ) (at : ℕ) → PlainWalk bytes at at 255
plain_begins bytes at = record {
  begins = omega arith;
  walk = letters_begin bytes message_faults (length bytes) at at (range bytes at at) (omega arith) (none bytes at);
}

pub plain_goes_on : (bytes : List ℕ) (at place room size : ℕ) → PlainWalk bytes at place room → size ≡ slice_index bytes place → place < length bytes → 0 < size → size < 64 → size + 2 ≤ room → size ≤ length bytes - place - 1
    → PlainWalk bytes at (place + (1 + size)) (room - (size + 1))
plain_goes_on bytes at place room size w is less some few room_is fits =
    let begins = w.begins in
    let past : place + 1 + size ≡ place + (1 + size) = omega arith in
    let first = join bytes at place (place + (1 + size)) (omega arith) (omega arith) in
    let second = join bytes place (place + 1) (place + (1 + size)) (omega arith) (omega arith) in
    let label : range bytes place (place + (1 + size)) ≡ size ∷ range bytes (place + 1) (place + 1 + size) =
    second ∙ (ap (λ (l : List ℕ). l ++ range bytes (place + 1) (place + (1 + size))) (one bytes place less ∙ ap (λ (n : ℕ). n ∷ []) (sym is)) ∙ ap (λ (n : ℕ). size ∷ range bytes (place + 1) n) (sym past)) in
    let put : range bytes at (place + (1 + size)) ≡ (range bytes at place ++ size ∷ []) ++ range bytes (place + 1) (place + 1 + size) =
    first ∙ (ap (λ (l : List ℕ). range bytes at place ++ l) label ∙ sym (append_assoc (range bytes at place) (size ∷ []) (range bytes (place + 1) (place + 1 + size)))) in
    record {
      begins = omega arith;
      walk = letters_label bytes message_faults (length bytes) at at (range bytes at place) (range bytes at (place + (1 + size))) at place (length bytes) Short room None w.walk size (Ok (Label size))
          (label_part bytes place size is less some few) refl room_is fits less some few put;
    }

pub plain_ends : (bytes : List ℕ) (at place room : ℕ) → PlainWalk bytes at place room → slice_index bytes place ≡ 0 → place < length bytes → IsPlain bytes at (place + 1)
plain_ends bytes at place room w is less =
    let begins = w.begins in
    let put : range bytes at (place + 1) ≡ range bytes at place ++ 0 ∷ [] =
    join bytes at place (place + 1) (omega arith) (omega arith) ∙ ap (λ (l : List ℕ). range bytes at place ++ l) (one bytes place less ∙ ap (λ (n : ℕ). n ∷ []) is) in
    let done = letters_done bytes message_faults (length bytes) at at (range bytes at place) (range bytes at (place + 1)) at place (length bytes) Short room None w.walk (Ok End) (end_part bytes place is less) refl put in
    record {
      begins = omega arith;
      ends = omega arith;
      spells = done.0;
      is = done.1;
    }
