-- The place of the first name that is not skipped.
use Rattle.std.proofs.Common.{◌≡◌, ℕ, zero, suc, ◌+◌, ◌≤◌, ◌<◌, min, Bool, true, false, ◌||◌, nat_le, Some, None, List, [], ◌∷◌, length, drop, get_or, slice_get, Contains, refl, sym, ap, ◌∙◌, subst, arith}
use Rattle.std.proofs.lemmas.Bool.{leb-false}
use Rattle.std.proofs.lemmas.List.{drop_all}
use Rattle.std.proofs.lemmas.List.Elements.{Contains-get_or}
use Rattle.std.proofs.lemmas.Option.{slice_get_within, get_or_from_slice_get, slice_get-get_or}
use Rattle.dname.specs.Labels.{Name, is_under, IsAtOrUnder}
use Rattle.dname.proofs.Under.{is_under_holds}
use Rattle.frames.specs.Frames.{Frame, Failed, deepest, has_failed, is_skipped, place_from, next_place, next_name, after_name}
use Rattle.frames.proofs.Members.{by_test, first_of, second_of, true_or_false}

some_is : {X : Type 0} {x y : X} → Some x ≡ Some y → x ≡ y
some_is e = cc

none_is : {X P : Type 0} {x : X} → None ≡ Some x → P
none_is e = cc

-- ---- lists from a place on

get_drop : {X : Type 0} (i : ℕ) (xs : List X) → slice_get xs i ≡ slice_get (drop i xs) 0
get_drop zero [] = refl
get_drop zero (x ∷ xs) = refl
get_drop (suc i) [] = refl
get_drop (suc i) (x ∷ xs) = get_drop i xs

drop_next : {X : Type 0} (i j : ℕ) (xs : List X) (x : X) (ys : List X) → j ≡ suc i → drop i xs ≡ x ∷ ys → drop j xs ≡ ys
drop_next {X} i j xs x ys e h = subst (λ (k : ℕ). drop k xs ≡ ys) (sym e) (by i xs h)
  where
    by : (i : ℕ) (xs : List X) → drop i xs ≡ x ∷ ys → drop (suc i) xs ≡ ys
    by zero [] h = cc
    by zero (z ∷ zs) h = cc
    by (suc i) [] h = cc
    by (suc i) (z ∷ zs) h = by i zs h

drop_here : {X : Type 0} (i j : ℕ) (xs : List X) (x : X) → j ≡ suc i → slice_get xs i ≡ Some x → drop i xs ≡ x ∷ drop j xs
drop_here {X} i j xs x e h = subst (λ (k : ℕ). drop i xs ≡ x ∷ drop k xs) (sym e) (by i xs h)
  where
    by : (i : ℕ) (xs : List X) → slice_get xs i ≡ Some x → drop i xs ≡ x ∷ drop (suc i) xs
    by i [] h = none_is h
    by zero (z ∷ zs) h = let same : z ≡ x = some_is h in ap (λ (y : X). y ∷ zs) same
    by (suc i) (z ∷ zs) h = by i zs h

-- ---- the place

module _ (skips : Name → Bool) where
  pub chosen : (names ns : List Name) (at : ℕ) (n : Name) → drop at names ≡ ns → slice_get names (place_from skips at ns) ≡ Some n → skips n ≡ false
  chosen names [] at n d h = none_is (sym (get_drop at names ∙ ap (λ (l : List Name). slice_get l 0) d) ∙ h)
  chosen names (m ∷ ns) at n d h = by_test (skips m)
      (λ e. chosen names ns (at + 1) n (drop_next at (at + 1) names m ns (omega arith) d)
      (ap (slice_get names) (sym (first_of (place_from skips (at + 1) ns) at e)) ∙ h))
      (λ e. subst (λ (x : Name). skips x ≡ false) (some_is (here e)) e)
    where
      here : skips m ≡ false → Some m ≡ Some n
      here e = sym (get_drop at names ∙ ap (λ (l : List Name). slice_get l 0) d) ∙ (ap (slice_get names) (sym (second_of (place_from skips (at + 1) ns) at e)) ∙ h)

  pub place_least : (at : ℕ) (ns : List Name) → at ≤ place_from skips at ns
  place_least at [] = omega arith
  place_least at (n ∷ ns) = by_test (skips n)
      (λ e. subst (λ (p : ℕ). at ≤ p) (sym (first_of (place_from skips (at + 1) ns) at e)) (let more = place_least (at + 1) ns in omega arith))
      (λ e. subst (λ (p : ℕ). at ≤ p) (sym (second_of (place_from skips (at + 1) ns) at e)) (omega arith))

  -- A name that is skipped, at its place.
  pub place_past : (names : List Name) (at : ℕ) (n : Name) → at < length names → n ≡ get_or names at n → skips n ≡ true
      → place_from skips at (drop at names) ≡ place_from skips (at + 1) (drop (at + 1) names)
  place_past names at n lt is e =
      let there : slice_get names at ≡ Some n = slice_get-get_or names at n lt ∙ ap Some (sym is) in
      ap (place_from skips at) (drop_here at (at + 1) names n (omega arith) there) ∙ first_of (place_from skips (at + 1) (drop (at + 1) names)) at e

  -- A name that is not.
  pub place_here : (names : List Name) (at : ℕ) (n : Name) → at < length names → n ≡ get_or names at n → skips n ≡ false → place_from skips at (drop at names) ≡ at
  place_here names at n lt is e =
      let there : slice_get names at ≡ Some n = slice_get-get_or names at n lt ∙ ap Some (sym is) in
      ap (place_from skips at) (drop_here at (at + 1) names n (omega arith) there) ∙ second_of (place_from skips (at + 1) (drop (at + 1) names)) at e

  pub place_end : (names : List Name) (at : ℕ) → length names ≤ at → place_from skips at (drop at names) ≡ at
  place_end names at le = ap (place_from skips at) (drop_all at names le)

none_of_three : (a b c : Bool) → (a || b || c) ≡ false → (a ≡ false) × (b ≡ false) × (c ≡ false)
none_of_three true b c h = true_or_false refl h
none_of_three false true c h = true_or_false refl h
none_of_three false false c h = (refl, refl, h)

module _ (fs : Failed) (f : Frame) (n : Name) (is : next_name fs f ≡ Some n) where
  not_skipped : is_skipped fs f n ≡ false
  not_skipped = chosen (is_skipped fs f) f.names (drop f.tried f.names) f.tried n refl is

  parts : (is_under n f.zone ≡ false) × (nat_le deepest f.nesting ≡ false) × (has_failed fs n (f.nesting + 1) ≡ false)
  parts = none_of_three (is_under n f.zone) (nat_le deepest f.nesting) (has_failed fs n (f.nesting + 1)) not_skipped

  pub name_member : Contains f.names n
  name_member = subst (Contains f.names) (get_or_from_slice_get f.names (next_place fs f) n n is) (Contains-get_or f.names (next_place fs f) n (slice_get_within f.names (next_place fs f) n is))

  pub name_outside : IsAtOrUnder n f.zone → ⊥
  name_outside u = true_or_false (is_under_holds n f.zone u) parts.0

  pub name_shallow : f.nesting < 3
  name_shallow = leb-false 3 f.nesting parts.1

  pub name_untried : has_failed fs n (f.nesting + 1) ≡ false
  name_untried = parts.2

  pub name_turn : (f.tried ≤ next_place fs f) × ((after_name fs f).tried ≡ next_place fs f + 1)
  name_turn =
      let within : next_place fs f < length f.names = slice_get_within f.names (next_place fs f) n is in
      (place_least (is_skipped fs f) f.tried (drop f.tried f.names), least (next_place fs f) (length f.names) within)
    where
      least : (p q : ℕ) → p < q → min (p + 1) q ≡ p + 1
      least p q h = omega arith
