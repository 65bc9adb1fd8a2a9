-- A text spells exactly the tokens that are read in it.
use Rattle.std.proofs.Common.{◌≡◌, ◌≢◌, ℕ, zero, suc, ◌<◌, ◌≤◌, Bool, true, false, ◌&&◌, nat_eq, nat_le, List, [], ◌∷◌, drop, refl, sym, ap, subst, ◌∙◌, arith, inl, inr, ◌⊎◌}
use Rattle.std.proofs.lemmas.Bool.Decides.{nat_tests}
use Rattle.dname.specs.Text.{Token, Dot, Byte, Bad, is_digit, tokens, tokens_behind, first_token, from_digits}
use Rattle.dname.specs.Spelling.{IsPlain, IsDigit, Spells, nothing, dot, plain, escaped, number, AreBytes}

-- ---- the text and its tokens

plain_read : (b : ℕ) (rest : List ℕ) → IsPlain b → tokens (b ∷ rest) ≡ Byte b ∷ tokens rest
plain_read b rest h = let a = h.least in let z = h.most in let x = h.no_dot in let y = h.no_backslash in grind (arith, nat_tests)

escaped_read : (b : ℕ) (rest : List ℕ) → ¬ IsDigit b → tokens (92 ∷ b ∷ rest) ≡ Byte b ∷ tokens rest
escaped_read b rest h = grind (arith, nat_tests)

number_read : (d e f : ℕ) (rest : List ℕ) → IsDigit d → IsDigit e → IsDigit f → from_digits d e f ≤ 255 → tokens (92 ∷ d ∷ e ∷ f ∷ rest) ≡ Byte (from_digits d e f) ∷ tokens rest
number_read d e f rest hd he hf h = grind (arith, nat_tests)

pub spells_read : (cs : List ℕ) (ts : List Token) → Spells cs ts → tokens cs ≡ ts
spells_read _ _ (nothing cs ts ec et) = ap tokens ec ∙ sym et
spells_read _ _ (dot cs rest ts later ec et s) = ap tokens ec ∙ (ap (λ (x : List Token). Dot ∷ x) (spells_read rest later s) ∙ sym et)
spells_read _ _ (plain cs rest ts later b h ec et s) = ap tokens ec ∙ (plain_read b rest h ∙ (ap (λ (x : List Token). Byte b ∷ x) (spells_read rest later s) ∙ sym et))
spells_read _ _ (escaped cs rest ts later b h ec et s) = ap tokens ec ∙ (escaped_read b rest h ∙ (ap (λ (x : List Token). Byte b ∷ x) (spells_read rest later s) ∙ sym et))
spells_read _ _ (number cs rest ts later d e f hd he hf h ec et s) =
    ap tokens ec ∙ (number_read d e f rest hd he hf h ∙ (ap (λ (x : List Token). Byte (from_digits d e f) ∷ x) (spells_read rest later s) ∙ sym et))

pub told : (b : Bool) → (b ≡ true) ⊎ (b ≡ false)
told true = inl refl
told false = inr refl

abbrev pub NoBad : List Token → Type 0
NoBad [] = Unit {0}
NoBad (Dot ∷ ts) = NoBad ts
NoBad (Byte b ∷ ts) = NoBad ts
NoBad (Bad ∷ ts) = ⊥

-- The first token of a text, by cases.
data First (c : ℕ) (cs : List ℕ) (p : Token × ℕ) : Type 0 where
  is_dot : c ≡ 46 → p ≡ (Dot, 0) → First c cs p
  is_plain : IsPlain c → p ≡ (Byte c, 0) → First c cs p
  is_escaped : (b : ℕ) (rest : List ℕ) → ¬ IsDigit b → c ≡ 92 → cs ≡ b ∷ rest → p ≡ (Byte b, 1) → First c cs p
  is_number : (d e f : ℕ) (rest : List ℕ) → IsDigit d → IsDigit e → IsDigit f → from_digits d e f ≤ 255 → c ≡ 92 → cs ≡ d ∷ e ∷ f ∷ rest → p ≡ (Byte (from_digits d e f), 3) → First c cs p
  is_bad : p.0 ≡ Bad → First c cs p

number_says : (c d : ℕ) (cs : List ℕ) → c ≡ 92 → is_digit d ≡ true → First c (d ∷ cs) (first_token c (d ∷ cs))
number_says c d [] e t = is_bad (grind (arith, nat_tests))
number_says c d (x ∷ []) e t = is_bad (grind (arith, nat_tests))
number_says c d (x ∷ y ∷ zs) e t =
    elim (told (is_digit x && is_digit y && nat_le (from_digits d x y) 255)) [
      | inl h ↦ is_number d x y zs (grind (arith, nat_tests)) (grind (arith, nat_tests)) (grind (arith, nat_tests)) (grind (arith, nat_tests)) e refl (grind (arith, nat_tests))
      | inr h ↦ is_bad (grind (arith, nat_tests))
    ]

escaped_says : (c : ℕ) (cs : List ℕ) → c ≡ 92 → First c cs (first_token c cs)
escaped_says c [] e = is_bad (grind (arith, nat_tests))
escaped_says c (d ∷ cs) e =
    elim (told (is_digit d)) [
      | inl t ↦ number_says c d cs e t
      | inr f ↦ is_escaped d cs (λ h. let t : is_digit d ≡ true = grind (arith, nat_tests) in cc) e refl (grind (arith, nat_tests))
    ]

plain_says : (c : ℕ) (cs : List ℕ) → c ≢ 92 → First c cs (first_token c cs)
plain_says c cs n =
    elim (told (nat_eq c 46)) [
      | inl t ↦ is_dot (grind (arith, nat_tests)) (grind (arith, nat_tests))
      | inr f ↦ elim (told (nat_le 33 c && nat_le c 126)) [
        | inl t ↦ is_plain (record { least = grind (arith, nat_tests); most = grind (arith, nat_tests); no_dot = grind (arith, nat_tests); no_backslash = n }) (grind (arith, nat_tests))
        | inr g ↦ is_bad (grind (arith, nat_tests))
      ]
    ]

first_says : (c : ℕ) (cs : List ℕ) → First c cs (first_token c cs)
first_says c cs = elim (told (nat_eq c 92)) [ inl t ↦ escaped_says c cs (grind (arith, nat_tests)) | inr f ↦ plain_says c cs (grind (arith, nat_tests)) ]

abbrev Goes : ℕ → List ℕ → Token × ℕ → Type 0
Goes c cs p = NoBad (p.0 ∷ tokens_behind p.1 cs) → (NoBad (tokens_behind p.1 cs) → Spells (drop p.1 cs) (tokens_behind p.1 cs)) → Spells (c ∷ cs) (p.0 ∷ tokens_behind p.1 cs)

goes : (c : ℕ) (cs : List ℕ) (p : Token × ℕ) → First c cs p → Goes c cs p
goes c cs p (is_dot ec ep) = subst (λ (q : Token × ℕ). Goes c cs q) (sym ep) (λ h k. dot (c ∷ cs) cs _ _ (ap (λ (x : ℕ). x ∷ cs) ec) refl (k h))
goes c cs p (is_plain hp ep) = subst (λ (q : Token × ℕ). Goes c cs q) (sym ep) (λ h k. plain (c ∷ cs) cs _ _ c hp refl refl (k h))
goes c cs p (is_escaped b rest n ec es ep) = subst (λ (q : Token × ℕ). Goes c cs q) (sym ep)
    (λ h k. escaped (c ∷ cs) rest _ _ b n (λ i. ec i ∷ es i) refl (subst (λ (x : List ℕ). Spells x (tokens_behind 1 cs)) (ap (drop 1) es) (k h)))
goes c cs p (is_number d e f rest hd he hf h255 ec es ep) = subst (λ (q : Token × ℕ). Goes c cs q) (sym ep)
    (λ h k. number (c ∷ cs) rest _ _ d e f hd he hf h255 (λ i. ec i ∷ es i) refl (subst (λ (x : List ℕ). Spells x (tokens_behind 3 cs)) (ap (drop 3) es) (k h)))
goes c cs p (is_bad e) = λ h k. absurd (subst (λ (t : Token). NoBad (t ∷ tokens_behind p.1 cs)) e h)

spells_behind : (k : ℕ) (cs : List ℕ) → NoBad (tokens_behind k cs) → Spells (drop k cs) (tokens_behind k cs)
spells_behind zero [] h = nothing [] [] refl refl
spells_behind (suc k) [] h = nothing [] [] refl refl
spells_behind (suc k) (c ∷ cs) h = spells_behind k cs h
spells_behind zero (c ∷ cs) h = goes c cs (first_token c cs) (first_says c cs) h (λ more. spells_behind (first_token c cs).1 cs more)

pub spells : (cs : List ℕ) → NoBad (tokens cs) → Spells cs (tokens cs)
spells cs h = spells_behind 0 cs h

pub never_bad : (cs : List ℕ) (ts : List Token) → Spells cs ts → NoBad ts
never_bad _ _ (nothing cs ts ec et) = subst (λ (x : List Token). NoBad x) (sym et) tt
never_bad _ _ (dot cs rest ts later ec et s) = subst (λ (x : List Token). NoBad x) (sym et) (never_bad rest later s)
never_bad _ _ (plain cs rest ts later b h ec et s) = subst (λ (x : List Token). NoBad x) (sym et) (never_bad rest later s)
never_bad _ _ (escaped cs rest ts later b h ec et s) = subst (λ (x : List Token). NoBad x) (sym et) (never_bad rest later s)
never_bad _ _ (number cs rest ts later d e f hd he hf h ec et s) = subst (λ (x : List Token). NoBad x) (sym et) (never_bad rest later s)

abbrev pub Small : List Token → Type 0
Small [] = Unit {0}
Small (Dot ∷ ts) = Small ts
Small (Byte b ∷ ts) = (b < 256) × Small ts
Small (Bad ∷ ts) = Small ts

pub small : (cs : List ℕ) (ts : List Token) → Spells cs ts → AreBytes cs → Small ts
small _ _ (nothing cs ts ec et) h = subst (λ (x : List Token). Small x) (sym et) tt
small _ _ (dot cs rest ts later ec et s) h =
    let k : AreBytes (46 ∷ rest) = subst (λ (x : List ℕ). AreBytes x) ec h in subst (λ (x : List Token). Small x) (sym et) (small rest later s k.1)
small _ _ (plain cs rest ts later b p ec et s) h =
    let k : AreBytes (b ∷ rest) = subst (λ (x : List ℕ). AreBytes x) ec h in subst (λ (x : List Token). Small x) (sym et) (k.0, small rest later s k.1)
small _ _ (escaped cs rest ts later b n ec et s) h =
    let k : AreBytes (92 ∷ b ∷ rest) = subst (λ (x : List ℕ). AreBytes x) ec h in subst (λ (x : List Token). Small x) (sym et) (k.1.0, small rest later s k.1.1)
small _ _ (number cs rest ts later d e f hd he hf m ec et s) h =
    let k : AreBytes (92 ∷ d ∷ e ∷ f ∷ rest) = subst (λ (x : List ℕ). AreBytes x) ec h in subst (λ (x : List Token). Small x) (sym et) (omega arith, small rest later s k.1.1.1.1)
