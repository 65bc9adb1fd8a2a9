-- Members of a list, and tests of its records.
use Rattle.std.proofs.Common.{◌≡◌, ℕ, zero, suc, ◌+◌, ◌<◌, Bool, true, false, ◌||◌, ◌⊎◌, inl, inr, List, [], ◌∷◌, length, take, get_or, refl, sym, ◌∙◌, ap, arith}
use Rattle.std.specs.Prelude.{Contains}
use Rattle.std.specs.List.{list_any}
use Rattle.std.proofs.lemmas.List.Folds.{Any-from_list_any, list_any-from_Any, list_any_more}

pub here : {X : Type 0} (x : X) (xs : List X) → Contains (x ∷ xs) x
here x xs = (0, omega arith, refl)

pub there : {X : Type 0} (x : X) (xs : List X) (y : X) → Contains xs y → Contains (x ∷ xs) y
there x xs y (k, lt, e) = (suc k, omega arith, e)

pub member_cases : {X : Type 0} (x : X) (xs : List X) (y : X) → Contains (x ∷ xs) y → (x ≡ y) ⊎ Contains xs y
member_cases x xs y (zero, lt, e) = inl e
member_cases x xs y (suc k, lt, e) = inr (k, omega arith, e)

pub no_member : {X : Type 0} (y : X) → Contains [] y → ⊥
no_member y (k, lt, e) = omega arith

-- Some member passes the test.
pub passing : {X : Type 0} (p : X → Bool) (xs : List X) → list_any p xs ≡ true → (x : X) × Contains xs x × (p x ≡ true)
passing p xs h = let (k, x, lt, e, t) = Any-from_list_any p xs h in (x, (k, lt, e), t)

pub passes : {X : Type 0} (p : X → Bool) (xs : List X) (x : X) → Contains xs x → p x ≡ true → list_any p xs ≡ true
passes p xs x (k, lt, e) t = list_any-from_Any p xs (k, x, lt, e, t)

pub same_tests : (a b : Bool) → (a ≡ true → b ≡ true) → (b ≡ true → a ≡ true) → a ≡ b
same_tests true true f g = refl
same_tests true false f g = sym (f refl)
same_tests false true f g = g refl
same_tests false false f g = refl

-- A step and the end of a loop that looks for a record by key.
pub any_step : {X : Type 0} (p : X → Bool) (xs : List X) (i : ℕ) (x : X) (old new : Bool) → i < length xs → x ≡ get_or xs i x → old ≡ list_any p (take i xs) → new ≡ (old || p x) → new ≡ list_any p (take (i + 1) xs)
any_step p xs i x old new lt ex eo en = en ∙ (ap (λ (b : Bool). b || p x) eo ∙ (ap (λ (y : _). list_any p (take i xs) || p y) ex ∙ sym (list_any_more p xs i x lt)))
