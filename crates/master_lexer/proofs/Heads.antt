-- What the first lexeme says of the text, and the text of its first lexeme.
use Rattle.std.proofs.Common.{◌≡◌, ℕ, suc, ◌<◌, ◌≤◌, ◌==◌, Bool, true, false, ◌⊎◌, inl, inr, cond, List, [], ◌∷◌, ◌++◌, length, take, drop, refl, sym, ap, ◌∙◌, arith, add-one, Option, Some, None}
use Rattle.std.proofs.Math.Seq.{take-append_seam, drop-append_seam}
use Rattle.std.proofs.lemmas.List.{take-append-drop, length-take-le}
use Rattle.std.proofs.lemmas.Bool.Decides.{nat_tests}
use Rattle.master_lexer.specs.Lexemes.{plain, quoted, broken, Lexeme, gap, line_end, opens, closes, item, First, first, first_quoted, is_blank, ends_word, word_size, quote_size, line_size, one_more}
use Rattle.master_lexer.specs.Parts.{IsGap, IsWordAt}

abbrev pub IsFirst : List ℕ → Lexeme → List ℕ → Type 0
IsFirst cs gap after = IsGap cs after
IsFirst cs line_end after = cs ≡ 10 ∷ after
IsFirst cs opens after = cs ≡ 40 ∷ after
IsFirst cs closes after = cs ≡ 41 ∷ after
IsFirst cs (item (plain w)) after = IsWordAt cs (plain w) after
IsFirst cs (item (quoted w)) after = IsWordAt cs (quoted w) after
IsFirst cs (item broken) after = Unit {0}

pub record IsHead (cs : List ℕ) (x : Lexeme) (after : List ℕ) : Type 0 where
  pub nonempty : 0 < length cs
  pub starts : x ≡ (first cs).lexeme
  pub rest : after ≡ (first cs).after

line_size-fits : (cs : List ℕ) → line_size cs ≤ length cs
line_size-fits [] = omega arith
line_size-fits (c ∷ cs) = grind (arith, line_size-fits cs)

word_size-fits : (b : Bool) (cs : List ℕ) → word_size b cs ≤ length cs
word_size-fits b [] = omega arith
word_size-fits true (c ∷ cs) = grind (arith, word_size-fits false cs)
word_size-fits false (c ∷ cs) = grind (arith, word_size-fits (c == 92) cs)

blank_is : (c : ℕ) → is_blank c ≡ true → (c ≡ 32) ⊎ ((c ≡ 9) ⊎ (c ≡ 13))
blank_is c h = grind (arith, nat_tests)

more_is : (o : Option ℕ) (n : ℕ) → one_more o ≡ Some n → (k : ℕ) × (o ≡ Some k) × (n ≡ suc k)
more_is None n e = cc
more_is (Some k) n e = (k, refl, grind arith)

past_end : (b : Bool) (o : Option ℕ) (n : ℕ) → cond b None o ≡ Some n → o ≡ Some n
past_end true o n e = cc
past_end false o n e = e

abbrev QuoteStands : List ℕ → ℕ → Type 0
QuoteStands cs n = (cs ≡ take n cs ++ 34 ∷ drop (suc n) cs) × (n < length cs)

stands_later : (c : ℕ) (cs : List ℕ) (k : ℕ) → QuoteStands cs k → QuoteStands (c ∷ cs) (suc k)
stands_later c cs k h = (ap (λ xs. c ∷ xs) h.0, omega arith)

at_quote_by : (c : ℕ) (cs : List ℕ) (n : ℕ) (b : Bool) (o : Option ℕ) → (c == 34) ≡ b → cond b (Some 0) (one_more o) ≡ Some n → ((k : ℕ) → o ≡ Some k → QuoteStands cs k) → QuoteStands (c ∷ cs) n
at_quote_by c cs n true o t e later =
    let z : n ≡ 0 = cc in let q : c ≡ 34 = grind (arith, nat_tests) in
    rw z (ap (λ x. x ∷ cs) q, omega arith)
at_quote_by c cs n false o t e later =
    let m : (k : ℕ) × (o ≡ Some k) × (n ≡ suc k) = more_is o n e in
    rw m.2 (stands_later c cs m.0 (later m.0 m.1))

at_quote : (c : ℕ) (cs : List ℕ) (n : ℕ) → cond (c == 34) (Some 0) (one_more (quote_size (c == 92) cs)) ≡ Some n → ((k : ℕ) → quote_size (c == 92) cs ≡ Some k → QuoteStands cs k) → QuoteStands (c ∷ cs) n
at_quote c cs n e later = at_quote_by c cs n (c == 34) (quote_size (c == 92) cs) refl e later

quote_stands : (b : Bool) (cs : List ℕ) (n : ℕ) → quote_size b cs ≡ Some n → QuoteStands cs n
quote_stands b [] n e = cc
quote_stands true (c ∷ cs) n e =
    let m : (k : ℕ) × (quote_size false cs ≡ Some k) × (n ≡ suc k) = more_is (quote_size false cs) n (past_end (c == 10) (one_more (quote_size false cs)) n e) in
    rw m.2 (stands_later c cs m.0 (quote_stands false cs m.0 m.1))
quote_stands false (c ∷ cs) n e = at_quote c cs n (past_end (c == 10) (cond (c == 34) (Some 0) (one_more (quote_size (c == 92) cs))) n e) (λ k q. quote_stands (c == 92) cs k q)

comment_head : (t rest : List ℕ) → line_size (t ++ rest) ≡ length t → IsHead (59 ∷ (t ++ rest)) gap rest
comment_head t rest e = record { nonempty = omega arith; starts = refl; rest = rw e (sym (drop-append_seam t rest)) }

blank_head : (c : ℕ) (rest : List ℕ) → (c ≡ 32) ⊎ ((c ≡ 9) ⊎ (c ≡ 13)) → IsHead (c ∷ rest) gap rest
blank_head c rest (inl e) = rw e (record { nonempty = omega arith; starts = refl; rest = refl })
blank_head c rest (inr (inl e)) = rw e (record { nonempty = omega arith; starts = refl; rest = refl })
blank_head c rest (inr (inr e)) = rw e (record { nonempty = omega arith; starts = refl; rest = refl })

pub gap_head : (cs rest : List ℕ) → IsGap cs rest → IsHead cs gap rest
gap_head cs rest (inl h) = rw h.1 (blank_head h.0 rest (blank_is h.0 h.2))
gap_head cs rest (inr h) = rw h.1 (comment_head h.0 rest h.2)

-- a byte that ends no word begins one
begins : (c : ℕ) (cs : List ℕ) → ends_word c ≡ false → first (c ∷ cs) ≡ record { lexeme = item (plain (take (word_size false (c ∷ cs)) (c ∷ cs))); after = drop (word_size false (c ∷ cs)) (c ∷ cs) }
begins c cs h = grind (arith, nat_tests)

begins_so : (c : ℕ) (cs : List ℕ) (n : ℕ) → ends_word c ≡ false → word_size false (c ∷ cs) ≡ n → first (c ∷ cs) ≡ record { lexeme = item (plain (take n (c ∷ cs))); after = drop n (c ∷ cs) }
begins_so c cs n h e = begins c cs h ∙ ap (λ (k : ℕ). let f : First = record { lexeme = item (plain (take k (c ∷ cs))); after = drop k (c ∷ cs) } in f) e

sized_begins : (c : ℕ) (cs : List ℕ) (n : ℕ) → word_size false (c ∷ cs) ≡ suc n → ends_word c ≡ false
sized_begins c cs n e = grind arith

pub plain_head : (w rest cs : List ℕ) → IsWordAt cs (plain w) rest → IsHead cs (item (plain w)) rest
plain_head [] rest cs h = absurd (omega (arith, h.1))
plain_head (c ∷ w) rest cs h =
    let e : word_size false (c ∷ (w ++ rest)) ≡ suc (length w) = rw h.0 at h.2 in
    let f : first (c ∷ (w ++ rest)) ≡ record { lexeme = item (plain (c ∷ take (length w) (w ++ rest))); after = drop (length w) (w ++ rest) }
    = begins_so c (w ++ rest) (suc (length w)) (sized_begins c (w ++ rest) (length w) e) e in
    rw h.0 (record {
      nonempty = omega arith;
      starts = ap (λ x. item (plain (c ∷ x))) (sym (take-append_seam w rest)) ∙ sym (ap (λ (x : First). x.lexeme) f);
      rest = sym (drop-append_seam w rest) ∙ sym (ap (λ (x : First). x.after) f);
    })

drop_past : (w rest : List ℕ) → drop (suc (length w)) (w ++ 34 ∷ rest) ≡ rest
drop_past [] rest = refl
drop_past (c ∷ w) rest = drop_past w rest

pub quoted_head : (w rest cs : List ℕ) → IsWordAt cs (quoted w) rest → IsHead cs (item (quoted w)) rest
quoted_head w rest cs h = rw h.0 (record { nonempty = omega arith; starts = rw (h.1, take-append_seam w (34 ∷ rest)) refl; rest = rw h.1 (rw add-one (sym (drop_past w rest))) })

quoted_says : (cs : List ℕ) (o : Option ℕ) → o ≡ quote_size false cs → IsFirst (34 ∷ cs) (first_quoted o cs).lexeme (first_quoted o cs).after
quoted_says cs None e = tt
quoted_says cs (Some n) e =
    let h : QuoteStands cs n = quote_stands false cs n (sym e) in
    let l : length (take n cs) ≡ n = length-take-le n cs (omega arith) in
    rw (add-one, ← h.0) (refl, rw l (sym e))

plain_says : (c : ℕ) (cs : List ℕ) → ends_word c ≡ false → IsWordAt (c ∷ cs) (plain (take (word_size false (c ∷ cs)) (c ∷ cs))) (drop (word_size false (c ∷ cs)) (c ∷ cs))
plain_says c cs h =
    let l : length (take (word_size false (c ∷ cs)) (c ∷ cs)) ≡ word_size false (c ∷ cs) = length-take-le (word_size false (c ∷ cs)) (c ∷ cs) (word_size-fits false (c ∷ cs)) in
    (sym (take-append-drop (word_size false (c ∷ cs)) (c ∷ cs)), grind arith, sym l)

is_byte : (c b : ℕ) → (c == b) ≡ true → c ≡ b
is_byte c b h = grind (arith, nat_tests)

comment_says : (cs : List ℕ) → IsGap (59 ∷ cs) (drop (line_size cs) cs)
comment_says cs = inr (
  take (line_size cs) cs,
  ap (λ x. 59 ∷ x) (sym (take-append-drop (line_size cs) cs)),
  rw (take-append-drop (line_size cs) cs) (sym (length-take-le (line_size cs) cs (line_size-fits cs))),
)

-- the tests of `first`, each with its outcome
by_tests : (c : ℕ) (cs : List ℕ) (a b d e f g : Bool) → (c == 10) ≡ a → (c == 40) ≡ b → (c == 41) ≡ d → (c == 59) ≡ e → (c == 34) ≡ f → is_blank c ≡ g
    → let x = cond a (record { lexeme = line_end; after = cs })
    (cond b (record { lexeme = opens; after = cs })
    (cond d (record { lexeme = closes; after = cs })
    (cond e (record { lexeme = gap; after = drop (line_size cs) cs })
    (cond f (first_quoted (quote_size false cs) cs)
    (cond g (record { lexeme = gap; after = cs })
    (record { lexeme = item (plain (take (word_size false (c ∷ cs)) (c ∷ cs))); after = drop (word_size false (c ∷ cs)) (c ∷ cs) })))))) in
    IsFirst (c ∷ cs) x.lexeme x.after
by_tests c cs true b d e f g k1 k2 k3 k4 k5 k6 = ap (λ x. x ∷ cs) (is_byte c 10 k1)
by_tests c cs false true d e f g k1 k2 k3 k4 k5 k6 = ap (λ x. x ∷ cs) (is_byte c 40 k2)
by_tests c cs false false true e f g k1 k2 k3 k4 k5 k6 = ap (λ x. x ∷ cs) (is_byte c 41 k3)
by_tests c cs false false false true f g k1 k2 k3 k4 k5 k6 = rw (is_byte c 59 k4) (comment_says cs)
by_tests c cs false false false false true g k1 k2 k3 k4 k5 k6 = rw (is_byte c 34 k5) (quoted_says cs (quote_size false cs) refl)
by_tests c cs false false false false false true k1 k2 k3 k4 k5 k6 = inl (c, refl, k6)
by_tests c cs false false false false false false k1 k2 k3 k4 k5 k6 = plain_says c cs (grind arith)

pub first_says : (c : ℕ) (cs : List ℕ) → IsFirst (c ∷ cs) (first (c ∷ cs)).lexeme (first (c ∷ cs)).after
first_says c cs = by_tests c cs (c == 10) (c == 40) (c == 41) (c == 59) (c == 34) (is_blank c) refl refl refl refl refl refl
