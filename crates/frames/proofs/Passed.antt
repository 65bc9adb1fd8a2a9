-- The names that were passed over, and why.
use Rattle.std.proofs.Common.{◌≡◌, ℕ, zero, suc, ◌+◌, ◌-◌, ◌≤◌, ◌<◌, Bool, true, false, ◌&&◌, ◌||◌, ◌⊎◌, inl, inr, nat_le, Some, None, List, [], ◌∷◌, length, get_or, take, drop, slice_get, Contains, refl, sym, ap, ◌∙◌, subst, arith}
use Rattle.std.specs.List.{list_any}
use Rattle.std.proofs.lemmas.Bool.{leb-true, cases_lt}
use Rattle.std.proofs.lemmas.List.{take_all, length-drop}
use Rattle.std.proofs.lemmas.Option.{slice_get-get_or}
use Rattle.lru.proofs.Splits.{Contains-head, Contains-tail, Contains-cons, Contains-nil}
use Rattle.dname.specs.Labels.{Name, is_under}
use Rattle.dname.proofs.Under.{under_is}
use Rattle.frames.specs.Frames.{Frame, Failed, deepest, has_failed, is_skipped, HasFailed, IsPassedOver, place_from, next_place, next_name}
use Rattle.frames.proofs.Marks.{has_failed_is}
use Rattle.frames.proofs.Members.{by_test, first_of, second_of, other_or}
use Rattle.frames.proofs.Places.{place_least}

-- ---- lists

none_taken : {X : Type 0} (k : ℕ) (x : X) → Contains (take k []) x → ⊥
none_taken zero x c = Contains-nil x c
none_taken (suc k) x c = Contains-nil x c

-- A member of a list's front stands before a place, or from there on.
split_take : {X : Type 0} (i k n : ℕ) (xs : List X) (x : X) → n ≡ i + k → Contains (take n xs) x → Contains (take i xs) x ⊎ Contains (take k (drop i xs)) x
split_take {X} zero k n xs x e c = let same : n ≡ k = omega arith in inr (subst (λ (j : ℕ). Contains (take j xs) x) same c)
split_take (suc i) k n [] x e c = absurd (none_taken n x c)
split_take (suc i) k zero (y ∷ xs) x e c = absurd (omega arith)
split_take {X} (suc i) k (suc n) (y ∷ xs) x e c = elim (Contains-cons y (take n xs) x c) [
  | inl is ↦ inl (subst (λ (z : X). Contains (y ∷ take i xs) z) is (Contains-head y (take i xs)))
  | inr d ↦ elim (split_take i k n xs x (omega arith) d) [
    | inl f ↦ inl (Contains-tail y (take i xs) x f)
    | inr b ↦ inr b
  ]
]

pub any_of : {X : Type 0} (p : X → Bool) (xs : List X) → list_any p xs ≡ true → (x : X) × Contains xs x × (p x ≡ true)
any_of p [] h = absurd (cc)
any_of {X} p (x ∷ xs) h = by_test (p x) (λ e. (x, Contains-head x xs, e)) (λ e. later (any_of p xs (sym (other_or (list_any p xs) e) ∙ h)))
  where
    later : (y : X) × Contains xs y × (p y ≡ true) → (y : X) × Contains (x ∷ xs) y × (p y ≡ true)
    later (y, c, t) = (y, Contains-tail x xs y c, t)

-- ---- the names before the place are skipped

module _ (skips : Name → Bool) where
  skipped_before : (at k : ℕ) (ns : List Name) (n : Name) → place_from skips at ns ≡ at + k → Contains (take k ns) n → skips n ≡ true
  skipped_before at k [] n is c = absurd (none_taken k n c)
  skipped_before at zero (m ∷ ns) n is c = absurd (Contains-nil n c)
  skipped_before at (suc k) (m ∷ ns) n is c = by_test (skips m)
      (λ e. elim (Contains-cons m (take k ns) n c) [
        | inl same ↦ ap skips (sym same) ∙ e
        | inr d ↦ skipped_before (at + 1) k ns n (sym (first_of (place_from skips (at + 1) ns) at e) ∙ (is ∙ omega arith)) d
      ])
      (λ e. absurd (apart (sym (second_of (place_from skips (at + 1) ns) at e) ∙ is)))
    where
      apart : at ≡ at + suc k → ⊥
      apart e = omega arith

-- ---- why

either : (b c : Bool) → (b || c) ≡ true → (b ≡ true) ⊎ (c ≡ true)
either true c h = inl refl
either false c h = inr h

module _ (fs : Failed) (f : Frame) where
  pub passed_over : (n : Name) → is_skipped fs f n ≡ true → IsPassedOver fs f n
  passed_over n h = elim (either (is_under n f.zone || nat_le deepest f.nesting) (has_failed fs n (f.nesting + 1)) h) [
    | inl e ↦ elim (either (is_under n f.zone) (nat_le deepest f.nesting) e) [
      | inl u ↦ inl (under_is n f.zone u)
      | inr d ↦ inr (inl (leb-true deepest f.nesting d))
    ]
    | inr e ↦ inr (inr (has_failed_is fs n (f.nesting + 1) e))
  ]

  -- Of the names before the next place each was tried or is passed over.
  pub passed : (n : Name) → Contains (take (next_place fs f) f.names) n → Contains (take f.tried f.names) n ⊎ IsPassedOver fs f n
  passed n c =
      let least = place_least (is_skipped fs f) f.tried (drop f.tried f.names) in
      let is : next_place fs f ≡ f.tried + (next_place fs f - f.tried) = omega arith in
      elim (split_take f.tried (next_place fs f - f.tried) (next_place fs f) f.names n is c) [
        | inl d ↦ inl d
        | inr d ↦ inr (passed_over n (skipped_before (is_skipped fs f) f.tried (next_place fs f - f.tried) (drop f.tried f.names) n is d))
      ]

  at_end : next_name fs f ≡ None → length f.names ≤ next_place fs f
  at_end none = elim (cases_lt (next_place fs f) (length f.names)) [
    | inl lt ↦ absurd (let (m, is) = some lt in (let both = sym none ∙ is in cc))
    | inr le ↦ le
  ]
    where
      some : next_place fs f < length f.names → (m : Name) × (slice_get f.names (next_place fs f) ≡ Some m)
      some lt = (get_or f.names (next_place fs f) [], slice_get-get_or f.names (next_place fs f) [] lt)

  -- Where no name is left, each whose turn was to come is passed over.
  pub spent : (n : Name) → next_name fs f ≡ None → Contains (drop f.tried f.names) n → IsPassedOver fs f n
  spent n none c =
      let least = place_least (is_skipped fs f) f.tried (drop f.tried f.names) in
      let end = at_end none in
      let rest = length-drop f.tried f.names in
      let is : next_place fs f ≡ f.tried + (next_place fs f - f.tried) = omega arith in
      let enough : length (drop f.tried f.names) ≤ next_place fs f - f.tried = omega arith in
      passed_over n (skipped_before (is_skipped fs f) f.tried (next_place fs f - f.tried) (drop f.tried f.names) n is
      (subst (λ (l : List Name). Contains l n) (sym (take_all (next_place fs f - f.tried) (drop f.tried f.names) enough)) c))
