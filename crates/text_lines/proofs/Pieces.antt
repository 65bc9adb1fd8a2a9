-- The first piece of a text.
use Rattle.std.proofs.Common.{◌≡◌, ◌⊎◌, inl, inr, ◌++◌, ℕ, zero, suc, ◌+◌, ◌<◌, Bool, true, false, not, cond, ◌==◌, List, [], ◌∷◌, length, length-drop, take_all, drop_of_length-le, take, drop, refl, sym, ap, ◌∙◌, arith}
use Rattle.std.proofs.lemmas.Bool.Decides.{nat_tests}
use Rattle.std.specs.List.{position_or_len, before_first, after_first}
use Rattle.text_lines.specs.Lines.{parted, onto_first, without_empty, is_blank, is_line_end, words, IsFirstLine}

last : (ends : ℕ → Bool) (c : ℕ) (t : Bool) → cond t ([] ∷ []) ((c ∷ []) ∷ []) ≡ take (cond (not t) 1 0) (c ∷ []) ∷ parted ends (drop (cond (not t) 1 0 + 1) (c ∷ []))
last ends c true = refl
last ends c false = refl

onto : (ends : ℕ → Bool) (c : ℕ) (xs : List ℕ) (k n m : ℕ) → n ≡ suc k → m ≡ suc (k + 1) → parted ends xs ≡ take k xs ∷ parted ends (drop (k + 1) xs)
    → onto_first c (parted ends xs) ≡ take n (c ∷ xs) ∷ parted ends (drop m (c ∷ xs))
onto ends c xs k n m en em e = rw (en, em) (ap (onto_first c) e)

more : (ends : ℕ → Bool) (c : ℕ) (xs : List ℕ) (k : ℕ) (t : Bool) → parted ends xs ≡ take k xs ∷ parted ends (drop (k + 1) xs)
    → cond t ([] ∷ parted ends xs) (onto_first c (parted ends xs)) ≡ take (cond (not t) (1 + k) 0) (c ∷ xs) ∷ parted ends (drop (cond (not t) (1 + k) 0 + 1) (c ∷ xs))
more ends c xs k true e = refl
more ends c xs k false e = onto ends c xs k (1 + k) (1 + k + 1) (omega arith) (omega arith) e

pub first_parted : (ends : ℕ → Bool) (c : ℕ) (cs : List ℕ) → parted ends (c ∷ cs) ≡ before_first ends (c ∷ cs) ∷ parted ends (after_first ends (c ∷ cs))
first_parted ends c [] = last ends c (ends c)
first_parted ends c (d ∷ cs) = more ends c (d ∷ cs) (position_or_len ends (d ∷ cs)) (ends c) (first_parted ends d cs)

pub pieces_of : (ends : ℕ → Bool) (xs piece behind : List ℕ) → 0 < length xs → piece ≡ before_first ends xs → behind ≡ after_first ends xs → parted ends xs ≡ piece ∷ parted ends behind
pieces_of ends [] piece behind h a b = absurd (omega arith)
pieces_of ends (c ∷ cs) piece behind h a b = rw (a, b) (first_parted ends c cs)

-- an empty piece is no word
pub no_word : (xs piece behind : List ℕ) → 0 < length xs → piece ≡ before_first is_blank xs → behind ≡ after_first is_blank xs → length piece ≡ 0 → words xs ≡ words behind
no_word xs (c ∷ cs) behind h a b e = absurd (omega arith)
no_word xs [] behind h a b e = ap without_empty (pieces_of is_blank xs [] behind h a b)

-- and another is one
pub one_word : (xs piece behind : List ℕ) → 0 < length xs → piece ≡ before_first is_blank xs → behind ≡ after_first is_blank xs → 0 < length piece → words xs ≡ piece ∷ words behind
one_word xs [] behind h a b e = absurd (omega arith)
one_word xs (c ∷ cs) behind h a b e = ap without_empty (pieces_of is_blank xs (c ∷ cs) behind h a b)

pub piece_shorter : (ends : ℕ → Bool) (xs behind : List ℕ) → 0 < length xs → behind ≡ after_first ends xs → length behind < length xs
piece_shorter ends xs behind h e = rw e (omega (arith, length-drop (position_or_len ends xs + 1) xs))

pub over_zero : (n : ℕ) → false ≡ (n == 0) → 0 < n
over_zero zero e = absurd (grind (arith, nat_tests, e))
over_zero (suc n) e = omega arith

pub is_zero : (n : ℕ) → true ≡ (n == 0) → n ≡ 0
is_zero zero e = refl
is_zero (suc n) e = absurd (grind (arith, nat_tests, e))

-- where nothing ends a piece, it is all there is
pub whole_piece : (ends : ℕ → Bool) (xs : List ℕ) → position_or_len ends xs ≡ length xs → (xs ≡ before_first ends xs) × ([] ≡ after_first ends xs)
whole_piece ends xs e = (
  sym (ap (λ (n : ℕ). take n xs) e ∙ take_all (length xs) xs (omega arith)),
  sym (drop_of_length-le xs (omega (arith, e))),
)

-- ---- a text is its first line and what stands behind

abbrev Split : List ℕ → List ℕ → List ℕ → Type 0
Split xs line behind = (xs ≡ line ++ 10 ∷ behind) ⊎ ((xs ≡ line) × (behind ≡ []))

longer : (c : ℕ) (xs line behind : List ℕ) → Split xs line behind → Split (c ∷ xs) (c ∷ line) behind
longer c xs line behind (inl e) = inl (ap (λ (l : List ℕ). c ∷ l) e)
longer c xs line behind (inr (e, n)) = inr (ap (λ (l : List ℕ). c ∷ l) e, n)

split_onto : (c : ℕ) (xs : List ℕ) (k n m : ℕ) → n ≡ suc k → m ≡ suc (k + 1) → Split xs (take k xs) (drop (k + 1) xs)
    → Split (c ∷ xs) (take n (c ∷ xs)) (drop m (c ∷ xs))
split_onto c xs k n m en em h = rw (en, em) (longer c xs (take k xs) (drop (k + 1) xs) h)

is_ten : (c : ℕ) → true ≡ (c == 10) → c ≡ 10
is_ten c e = grind (arith, nat_tests, e)

split_more : (c : ℕ) (xs : List ℕ) (k : ℕ) (t : Bool) → t ≡ (c == 10) → Split xs (take k xs) (drop (k + 1) xs)
    → Split (c ∷ xs) (take (cond (not t) (1 + k) 0) (c ∷ xs)) (drop (cond (not t) (1 + k) 0 + 1) (c ∷ xs))
split_more c xs k true e h = inl (ap (λ (n : ℕ). n ∷ xs) (is_ten c e))
split_more c xs k false e h = split_onto c xs k (1 + k) (1 + k + 1) (omega arith) (omega arith) h

split_first : (xs : List ℕ) → Split xs (before_first is_line_end xs) (after_first is_line_end xs)
split_first [] = inr (refl, refl)
split_first (c ∷ cs) = split_more c cs (position_or_len is_line_end cs) (is_line_end c) refl (split_first cs)

-- The first line of a text that is not empty.
pub first_line_of : (xs line behind : List ℕ) → 0 < length xs → line ≡ before_first is_line_end xs → behind ≡ after_first is_line_end xs → IsFirstLine xs line behind
first_line_of xs line behind h a b = record { first = pieces_of is_line_end xs line behind h a b; splits = rw (a, b) (split_first xs) }

pub no_text : (xs : List ℕ) → length xs ≡ 0 → xs ≡ []
no_text [] e = refl
no_text (c ∷ cs) e = absurd (omega (arith, e))
