-- Members of lists.
use Rattle.std.proofs.Common.{◌≡◌, ◌+◌, List, [], ◌∷◌, ◌++◌, length, inl, inr, ◌⊎◌, refl, subst, arith}
use Rattle.std.specs.Prelude.{Contains}
use Rattle.std.specs.List.{flat_map}
use Rattle.zone.proofs.LawLists.{none_in, first_in, later_in, in_cases}

-- A member of two lists behind one another.
pub both_cases : {X : Type 0} (xs ys : List X) (x : X) → Contains (xs ++ ys) x → Contains xs x ⊎ Contains ys x
both_cases [] ys x m = inr m
both_cases (z ∷ xs) ys x m = elim (in_cases z x (xs ++ ys) m) as (λ h. Contains (z ∷ xs) x ⊎ Contains ys x) [
  | inl same ↦ inl (subst (Contains (z ∷ xs)) same (first_in z xs))
  | inr more ↦ elim (both_cases xs ys x more) as (λ h. Contains (z ∷ xs) x ⊎ Contains ys x) [ inl here ↦ inl (later_in z x xs here) | inr there ↦ inr there ]
]

-- A member of what each element gives.
pub flat_from : {X Y : Type 0} (f : X → List Y) (xs : List X) (y : Y) → Contains (flat_map f xs) y → (x : X) × Contains xs x × Contains (f x) y
flat_from f [] y m = absurd (none_in y m)
flat_from f (x ∷ xs) y m = elim (both_cases (f x) (flat_map f xs) y m) as (λ h. (z : _) × Contains (x ∷ xs) z × Contains (f z) y) [
  | inl here ↦ (x, first_in x xs, here)
  | inr there ↦ let (z, stands, is) = flat_from f xs y there in (z, later_in x z xs stands, is)
]

pub only_one : {X : Type 0} (x y : X) → Contains (x ∷ []) y → x ≡ y
only_one x y m = elim (in_cases x y [] m) as (λ h. x ≡ y) [ inl same ↦ same | inr none ↦ absurd (none_in y none) ]

pub longer : {X : Type 0} (xs : List X) (x : X) → length (xs ++ x ∷ []) ≡ length xs + 1
longer [] x = refl
longer (y ∷ xs) x = let more = longer xs x in omega (arith, more)

pub front_in : {X : Type 0} (xs ys : List X) (x : X) → Contains xs x → Contains (xs ++ ys) x
front_in [] ys x m = absurd (none_in x m)
front_in (z ∷ xs) ys x m = elim (in_cases z x xs m) as (λ h. Contains (z ∷ (xs ++ ys)) x) [
  | inl same ↦ subst (Contains (z ∷ (xs ++ ys))) same (first_in z (xs ++ ys))
  | inr more ↦ later_in z x (xs ++ ys) (front_in xs ys x more)
]
