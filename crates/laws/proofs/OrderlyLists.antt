-- Open queries by their numbers, and what is among a step's actions.
use Rattle.std.proofs.Common.{◌≡◌, ℕ, ◌⊎◌, inl, inr, Bool, true, false, cond, List, [], ◌∷◌, Contains, refl, sym, ap, ◌∙◌, arith, eq-eqb, eqb-true, ne_eqb}
use Rattle.lru.proofs.Splits.{Contains-cons, Contains-nil}
use Rattle.runs.specs.States.{Action, Served, Nobody, Own, OpenQuery, Open, AreApart}
use Rattle.runs.specs.Runs.{is_ask, asks_among, is_for}

-- One query has a number.
pub one_number : (qs : List Open) → AreApart qs → (p q : Open) → Contains qs p → Contains qs q → p.number ≡ q.number → p ≡ q
one_number [] apart p q there here e = absurd (Contains-nil p there)
one_number (x ∷ qs) apart p q there here e = by (one_number qs apart.1 p q) (Contains-cons x qs p there) (Contains-cons x qs q here)
  where
    by : (Contains qs p → Contains qs q → p.number ≡ q.number → p ≡ q) → (x ≡ p) ⊎ Contains qs p → (x ≡ q) ⊎ Contains qs q → p ≡ q
    by more (inl a) (inl b) = sym a ∙ b
    by more (inl a) (inr d) = absurd (apart.0 q d (sym e ∙ ap (λ (o : Open). o.number) (sym a)))
    by more (inr c) (inl b) = absurd (apart.0 p c (e ∙ ap (λ (o : Open). o.number) (sym b)))
    by more (inr c) (inr d) = more c d e

pub same_number : {k n : ℕ} → OpenQuery k ≡ OpenQuery n → k ≡ n
same_number e = cc

pub is_for_it : (k : ℕ) (served : Served) → served ≡ OpenQuery k → is_for k served ≡ true
is_for_it k served e = ap (is_for k) e ∙ eq-eqb k k refl

pub is_for_other : (k : ℕ) (served : Served) → (served ≡ OpenQuery k → ⊥) → is_for k served ≡ false
is_for_other k Nobody other = refl
is_for_other k Own other = refl
is_for_other k (OpenQuery n) other = ne_eqb n k (λ e. other (ap OpenQuery e))

pub is_for_true : (k : ℕ) (served : Served) → is_for k served ≡ true → served ≡ OpenQuery k
is_for_true k Nobody e = absurd (cc)
is_for_true k Own e = absurd (cc)
is_for_true k (OpenQuery n) e = ap OpenQuery (eqb-true n k e)

-- ---- asks that are counted

pub no_ask_given : (out : List Action) (action : Action) → asks_among out ≡ 0 → Contains out action → is_ask action ≡ true → ⊥
no_ask_given [] action none c e = Contains-nil action c
no_ask_given (x ∷ out) action none c e = by (no_ask_given out action) (Contains-cons x out action c)
  where
    one_if : Bool → ℕ
    one_if b = cond b 1 0

    more : asks_among out ≡ 0
    more = omega (arith, none)

    here : is_ask x ≡ true → ⊥
    here y = let one : one_if (is_ask x) ≡ 1 = ap one_if y in omega (arith, none)

    by : (asks_among out ≡ 0 → Contains out action → is_ask action ≡ true → ⊥) → (x ≡ action) ⊎ Contains out action → ⊥
    by rest (inl is) = here (ap is_ask is ∙ e)
    by rest (inr d) = rest more d e
