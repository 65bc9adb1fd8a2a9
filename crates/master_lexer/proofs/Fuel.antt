-- A text's entries are read lexeme by lexeme: the count of steps in the definition never runs out.
use Rattle.std.proofs.Common.{◌≡◌, ℕ, zero, suc, ◌+◌, ◌<◌, ◌≤◌, Bool, true, false, List, [], ◌∷◌, length, refl, ap, arith, length-drop, Option, Some, None}
use Rattle.std.proofs.lemmas.Bool.Decides.{nat_tests}
use Rattle.master_lexer.specs.Lexemes.{plain, quoted, broken, Lexeme, gap, line_end, opens, closes, item, first, first_quoted}
use Rattle.master_lexer.specs.Entries.{Text, lead, ended, next_entry, with_word, from_lexeme, text_within, text_from}

quoted-shorter : (n : Option ℕ) (cs : List ℕ) → length (first_quoted n cs).after < suc (length cs)
quoted-shorter None cs = omega arith
quoted-shorter (Some n) cs = grind (arith, length-drop)

pub first-shorter : (c : ℕ) (cs : List ℕ) → length (first (c ∷ cs)).after < length (c ∷ cs)
first-shorter c cs = grind (arith, nat_tests, length-drop, quoted-shorter)

same_go : (f g : ℕ → Bool → List ℕ → Text) (line : ℕ) (inside : Bool) (x : Lexeme) (cs : List ℕ) → ((n : ℕ) (b : Bool) → f n b cs ≡ g n b cs) → from_lexeme f line inside x cs ≡ from_lexeme g line inside x cs
same_go f g line inside gap cs h = h line inside
same_go f g line true line_end cs h = h (line + 1) true
same_go f g line false line_end cs h = ap (next_entry (line + 1) (lead cs)) (h (line + 1) false)
same_go f g line true opens cs h = refl
same_go f g line false opens cs h = h line true
same_go f g line true closes cs h = h line false
same_go f g line false closes cs h = refl
same_go f g line inside (item (plain w)) cs h = ap (with_word (plain w)) (h line inside)
same_go f g line inside (item (quoted w)) cs h = ap (with_word (quoted w)) (h line inside)
same_go f g line inside (item broken) cs h = refl

enough : (n m line : ℕ) (inside : Bool) (cs : List ℕ) → length cs ≤ n → length cs ≤ m → text_within n line inside cs ≡ text_within m line inside cs
enough n m line inside [] h k = refl
enough zero m line inside (c ∷ cs) h k = absurd (omega arith)
enough (suc n) zero line inside (c ∷ cs) h k = absurd (omega arith)
enough (suc n) (suc m) line inside (c ∷ cs) h k =
    let s : length (first (c ∷ cs)).after < length (c ∷ cs) = first-shorter c cs in
    same_go (text_within n) (text_within m) line inside (first (c ∷ cs)).lexeme (first (c ∷ cs)).after
    (λ l b. enough n m l b (first (c ∷ cs)).after (omega arith) (omega arith))

pub text-end : (line : ℕ) (inside : Bool) → text_from line inside [] ≡ ended inside
unfolding text_from
text-end line inside = refl

at_first : (line : ℕ) (inside : Bool) (c : ℕ) (cs : List ℕ) → text_from line inside (c ∷ cs) ≡ from_lexeme text_from line inside (first (c ∷ cs)).lexeme (first (c ∷ cs)).after
unfolding text_from
at_first line inside c cs =
    let s : length (first (c ∷ cs)).after < length (c ∷ cs) = first-shorter c cs in
    same_go (text_within (length cs)) text_from line inside (first (c ∷ cs)).lexeme (first (c ∷ cs)).after
    (λ l b. enough (length cs) (length (first (c ∷ cs)).after) l b (first (c ∷ cs)).after (omega arith) (omega arith))

pub text-first : (line : ℕ) (inside : Bool) (cs : List ℕ) (x : Lexeme) (after : List ℕ) → 0 < length cs → x ≡ (first cs).lexeme → after ≡ (first cs).after → text_from line inside cs ≡ from_lexeme text_from line inside x after
text-first line inside [] x after h e k = absurd (omega arith)
text-first line inside (c ∷ cs) x after h e k = rw (e, k) (at_first line inside c cs)

pub ruleset text_steps = (text-first, text-end)
