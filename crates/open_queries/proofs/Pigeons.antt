-- Where so many different keys are all in a list, it is as long.
use Rattle.std.proofs.Common.{◌≡◌, ◌≢◌, ℕ, zero, suc, ◌<◌, ◌≤◌, inl, inr, List, [], ◌∷◌, length, refl, sym, ◌∙◌, ap, arith}
use Rattle.std.specs.List.{Contains}
use Rattle.slab.proofs.SlabLemmas.{Contains-cons, Contains-cons_cases}

module _ {T : Type 0} (key : T → ℕ) where
  -- A list without one member: it is one shorter, and those of other keys stay.
  pub record Without (q : T) (qs : List T) : Type 0 where
    pub rest : List T
    pub fewer : length qs ≡ suc (length rest)
    pub stays : (p : T) → Contains qs p → key p ≢ key q → Contains rest p

  without_head : (x q : T) (xs : List T) → x ≡ q → Without q (x ∷ xs)
  without_head x q xs same = record {
    rest = xs;
    fewer = refl;
    stays = λ p there other. elim (Contains-cons_cases x p xs there) [ inl is ↦ absurd (other (ap key (sym is ∙ same))) | inr later ↦ later ];
  }

  without_later : (x q : T) (xs : List T) → Without q xs → Without q (x ∷ xs)
  without_later x q xs w = record {
    rest = x ∷ w.rest;
    fewer = ap suc w.fewer;
    stays = λ p there other. elim (Contains-cons_cases x p xs there) [ inl is ↦ (0, omega arith, is) | inr later ↦ Contains-cons x p w.rest (w.stays p later other) ];
  }

  pub without : (qs : List T) (q : T) → Contains qs q → Without q qs
  without [] q there = absurd (omega (arith, there.1))
  without (x ∷ xs) q there = elim (Contains-cons_cases x q xs there) [ inl is ↦ without_head x q xs is | inr later ↦ without_later x q xs (without xs q later) ]

  pub as_many : (n : ℕ) (f : ℕ → ℕ) (qs : List T) → ((i j : ℕ) → i < n → j < n → f i ≡ f j → i ≡ j) → ((k : ℕ) → k < n → (q : T) × Contains qs q × (key q ≡ f k)) → n ≤ length qs
  as_many zero f qs apart all = omega arith
  as_many (suc n) f qs apart all =
      let last = all n (omega arith) in
      let w = without qs last.0 last.1 in
      let fewer = w.fewer in
      let below : n ≤ length w.rest =
      as_many n f w.rest (λ i j within inside. apart i j (omega arith) (omega arith))
      (λ k within. let it = all k (omega arith) in
      (it.0, w.stays it.0 it.1 (λ same. let e : k ≡ n = apart k n (omega arith) (omega arith) (sym it.2 ∙ same ∙ last.2) in absurd (omega arith)), it.2))
      in
      omega arith
