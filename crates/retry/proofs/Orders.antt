-- A stable sort by penalties gives the addresses with penalty 0, then those with penalty 1, and so on.
use Rattle.std.proofs.Common.{◌≡◌, ℕ, zero, suc, ◌≤◌, ◌<◌, Bool, true, false, cond, ◌⊎◌, Ordering, Less, Equal, Greater, nat_eq, List, [], ◌∷◌, ◌++◌, length, filter, get_or, refl, sym, ap, ◌∙◌, arith, eq-eqb, ne_eqb, eqb-true, not, ◌&&◌, is_lt, nat_cmp, eq-or-lt_of_le, inl, inr}
use Rattle.std.specs.List.Sorted.{IsNonDecreasingBy, IsSortedByKey, IsStableByKey}
use Rattle.std.proofs.lemmas.List.Sorted.{IsNonDecreasingBy-from_sort}
use Rattle.std.specs.Cmp.{ranks}
use Rattle.std.specs.Ordering.{MatchOrdering}
use Rattle.rdata.specs.declared.addr.Addr.{Addr}
use Rattle.retry.specs.Plans.{with_penalty, with_penalties_to, by_penalty, IsByPenalty}

module _ (level : Addr → ℕ) where
  -- None is below this penalty.
  AreFrom : ℕ → List Addr → Type 0
  AreFrom p [] = Unit {0}
  AreFrom p (a ∷ xs) = (p ≤ level a) × AreFrom p xs

  Rising : List Addr → Type 0
  Rising [] = Unit {0}
  Rising (a ∷ xs) = AreFrom (level a) xs × Rising xs

  AreTo : ℕ → List Addr → Type 0
  AreTo p [] = Unit {0}
  AreTo p (a ∷ xs) = (level a ≤ p) × AreTo p xs

  none_with : (p q : ℕ) (xs : List Addr) → AreFrom p xs → q < p → with_penalty level q xs ≡ []
  unfolding AreFrom
  none_with p q [] h lt = refl
  none_with p q (a ∷ xs) h lt = let apart : nat_eq (level a) q ≡ false = ne_eqb (level a) q (λ e. absurd (above h.0 e)) in
      ap (λ b. cond b (a ∷ with_penalty level q xs) (with_penalty level q xs)) apart ∙ none_with p q xs h.1 lt
    where
      above : p ≤ level a → level a ≡ q → ⊥
      above le e = omega arith

  none_to : (p q : ℕ) (xs : List Addr) → AreFrom p xs → q < p → with_penalties_to level q xs ≡ []
  none_to p zero xs h lt = none_with p 0 xs h lt
  none_to p (suc q) xs h lt = let before : q < p = omega arith in λ i. none_to p q xs h before i ++ none_with p (suc q) xs h lt i

  with_here : (a : Addr) (xs : List Addr) (p : ℕ) → level a ≡ p → with_penalty level p (a ∷ xs) ≡ a ∷ with_penalty level p xs
  with_here a xs p e = ap (λ b. cond b (a ∷ with_penalty level p xs) (with_penalty level p xs)) (eq-eqb (level a) p e)

  with_past : (a : Addr) (xs : List Addr) (p : ℕ) → level a < p → with_penalty level p (a ∷ xs) ≡ with_penalty level p xs
  with_past a xs p lt = let apart : nat_eq (level a) p ≡ false = ne_eqb (level a) p (λ e. absurd (below e)) in
      ap (λ b. cond b (a ∷ with_penalty level p xs) (with_penalty level p xs)) apart
    where
      below : level a ≡ p → ⊥
      below e = omega arith

  last_of : (p : ℕ) (a : Addr) (xs : List Addr) → AreFrom (level a) xs → level a ≡ suc p → with_penalties_to level (suc p) (a ∷ xs) ≡ a ∷ with_penalties_to level (suc p) xs
  unfolding AreFrom
  last_of p a xs h e =
      let before : p < level a = omega arith in
      let own : level a ≤ level a = omega arith in
      let none : with_penalties_to level p (a ∷ xs) ≡ [] = none_to (level a) p (a ∷ xs) (own, h) before in
      let others : with_penalties_to level p xs ≡ [] = none_to (level a) p xs h before in
      (λ i. none i ++ with_here a xs (suc p) e i) ∙ ap (λ l. a ∷ (l ++ with_penalty level (suc p) xs)) (sym others)

  -- The least of them comes first.
  least_first : (p : ℕ) (a : Addr) (xs : List Addr) → AreFrom (level a) xs → level a ≤ p → with_penalties_to level p (a ∷ xs) ≡ a ∷ with_penalties_to level p xs
  least_first zero a xs h le = with_here a xs 0 (omega arith)
  least_first (suc p) a xs h le = elim (eq-or-lt_of_le le) [
    | inl e ↦ last_of p a xs h e
    | inr lt ↦ let le' : level a ≤ p = omega arith in
        λ i. least_first p a xs h le' i ++ with_past a xs (suc p) lt i
  ]

  none_of : (p : ℕ) → with_penalties_to level p [] ≡ []
  none_of zero = refl
  none_of (suc p) = ap (λ l. l ++ []) (none_of p)

  as_sorted : (p : ℕ) (xs : List Addr) → Rising xs → AreTo p xs → xs ≡ with_penalties_to level p xs
  unfolding Rising AreTo
  as_sorted p [] r t = sym (none_of p)
  as_sorted p (a ∷ xs) r t = ap (λ l. a ∷ l) (as_sorted p xs r.1 t.1) ∙ sym (least_first p a xs r.0 t.0)

  same_to : (xs ys : List Addr) → ((p : ℕ) → with_penalty level p xs ≡ with_penalty level p ys) → (p : ℕ) → with_penalties_to level p xs ≡ with_penalties_to level p ys
  same_to xs ys h zero = h 0
  same_to xs ys h (suc p) = λ i. same_to xs ys h p i ++ h (suc p) i

  all_from : (a : Addr) (xs : List Addr) → ((j : ℕ) (d : Addr) → j < length xs → level a ≤ level (get_or xs j d)) → AreFrom (level a) xs
  unfolding AreFrom
  all_from a [] h = tt
  all_from a (b ∷ xs) h = (h 0 b (omega arith), all_from a xs (λ j d lt. h (suc j) d (omega arith)))

  is_rising : (xs : List Addr) → IsNonDecreasingBy level xs → Rising xs
  unfolding Rising
  is_rising [] h = tt
  is_rising (a ∷ xs) h = (all_from a xs (λ j d lt. h 0 (suc j) d (omega arith) (omega arith)), is_rising xs (λ i j d le lt. h (suc i) (suc j) d (omega arith) (omega arith)))

  is_to : (p : ℕ) → ((a : Addr) → level a ≤ p) → (xs : List Addr) → AreTo p xs
  unfolding AreTo
  is_to p h [] = tt
  is_to p h (a ∷ xs) = (h a, is_to p h xs)

  -- What is sorted and stable is the one order by penalty.
  pub order_is : (given order : List Addr) → ((a : Addr) → level a ≤ 8) → IsByPenalty level given order → order ≡ by_penalty level given
  order_is given order h s = as_sorted 8 order (is_rising order s.rising) (is_to 8 h order) ∙ same_to order given s.each 8

  -- ---- what a stable sort by penalty says

  first_by : (p : ℕ) (a : Addr) (xs ys : List Addr) (y : Addr) → with_penalty level p (a ∷ xs) ≡ y ∷ ys → (with_penalty level p xs ≡ y ∷ ys → level y ≡ p)
      → (b : Bool) → nat_eq (level a) p ≡ b → level y ≡ p
  first_by p a xs ys y h more true e =
      let list : a ∷ with_penalty level p xs ≡ y ∷ ys = sym (ap (λ t. cond t (a ∷ with_penalty level p xs) (with_penalty level p xs)) e) ∙ h in
      let same : a ≡ y = cc in
      ap level (sym same) ∙ eqb-true (level a) p e
  first_by p a xs ys y h more false e = more (sym (ap (λ t. cond t (a ∷ with_penalty level p xs) (with_penalty level p xs)) e) ∙ h)

  first_has : (p : ℕ) (xs ys : List Addr) (y : Addr) → with_penalty level p xs ≡ y ∷ ys → level y ≡ p
  first_has p [] ys y h = cc
  first_has p (a ∷ xs) ys y h = first_by p a xs ys y h (first_has p xs ys y) (nat_eq (level a) p) refl

  ties_by : (a b : ℕ) → not (is_lt (nat_cmp a b)) && not (is_lt (nat_cmp b a)) ≡ nat_eq b a
  ties_by a b = by (nat_cmp a b) (nat_cmp b a) (ranks a b) (ranks b a)
    where
      apart : (a < b) ⊎ (b < a) → b ≡ a → ⊥
      apart (inl h) e = omega arith
      apart (inr h) e = omega arith

      by : (r q : Ordering) → MatchOrdering r (a < b) (a ≡ b) (b < a) → MatchOrdering q (b < a) (b ≡ a) (a < b) → not (is_lt r) && not (is_lt q) ≡ nat_eq b a
      by Less q h k = sym (ne_eqb b a (λ e. absurd (apart (inl h) e)))
      by Equal Less h k = sym (ne_eqb b a (λ e. absurd (apart (inr k) e)))
      by Equal Equal h k = sym (eq-eqb b a k)
      by Equal Greater h k = sym (eq-eqb b a (sym h))
      by Greater Less h k = sym (ne_eqb b a (λ e. absurd (apart (inr k) e)))
      by Greater Equal h k = sym (eq-eqb b a k)
      by Greater Greater h k = let never : ⊥ = omega arith in absurd never

  tied : (x : Addr) (p : ℕ) (xs : List Addr) → level x ≡ p → filter (λ y. not (is_lt (nat_cmp (level x) (level y))) && not (is_lt (nat_cmp (level y) (level x)))) xs ≡ with_penalty level p xs
  tied x p [] e = refl
  tied x p (y ∷ xs) e = λ i. cond ((ties_by (level x) (level y) ∙ ap (nat_eq (level y)) e) i) (y ∷ tied x p xs e i) (tied x p xs e i)

  same_each : (p : ℕ) (given order : List Addr) → IsStableByKey level nat_cmp given order → with_penalty level p order ≡ with_penalty level p given
  same_each p given order stable = by (with_penalty level p order) (with_penalty level p given) refl refl
    where
      from : (x : Addr) → level x ≡ p → with_penalty level p order ≡ with_penalty level p given
      from x e = sym (tied x p order e) ∙ (stable x ∙ tied x p given e)

      by : (us vs : List Addr) → with_penalty level p order ≡ us → with_penalty level p given ≡ vs → with_penalty level p order ≡ with_penalty level p given
      by [] [] d e = d ∙ sym e
      by (u ∷ us) vs d e = from u (first_has p order us u d)
      by [] (v ∷ vs) d e = from v (first_has p given vs v e)

  pub from_sort : (given order : List Addr) → IsSortedByKey level nat_cmp order → IsStableByKey level nat_cmp given order → IsByPenalty level given order
  from_sort given order sorted stable = record { rising = IsNonDecreasingBy-from_sort level order sorted; each = λ p. same_each p given order stable }
