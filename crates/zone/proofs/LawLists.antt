-- Members of a list, tests over it, and the ends of one list.
use Rattle.std.proofs.Common.{◌≡◌, ℕ, zero, suc, ◌≤◌, ◌⊎◌, inl, inr, ⊎_elim, Bool, true, false, ◌||◌, List, [], ◌∷◌, ◌++◌, length, refl, sym, ◌∙◌, ap, subst, arith, append_assoc, length-append}
use Rattle.std.specs.Prelude.{Contains, filter, map, find, Some, cond}
use Rattle.std.specs.List.{list_any}
use Rattle.std.proofs.lemmas.Bool.{or_left, or_right}
use Rattle.dname.specs.Labels.{IsAtOrUnder}

pub none_in : {X : Type 0} (x : X) → Contains [] x → ⊥
none_in x h = let e = h.1 in absurd (omega arith)

pub first_in : {X : Type 0} (x : X) (xs : List X) → Contains (x ∷ xs) x
first_in x xs = (zero, omega arith, refl)

pub later_in : {X : Type 0} (x y : X) (xs : List X) → Contains xs y → Contains (x ∷ xs) y
later_in x y xs h = (suc h.0, (let e = h.1 in omega arith), h.2)

pub in_cases : {X : Type 0} (x y : X) (xs : List X) → Contains (x ∷ xs) y → (x ≡ y) ⊎ Contains xs y
in_cases x y xs (zero, lt, e) = inl e
in_cases x y xs (suc k, lt, e) = inr (k, omega arith, e)

-- A member that passes a test.
abbrev pub Passes : {X : Type 0} → (X → Bool) → List X → Type 0
Passes {X} p xs = (x : X) × Contains xs x × (p x ≡ true)

pub any_from : {X : Type 0} (p : X → Bool) (xs : List X) (x : X) → Contains xs x → p x ≡ true → list_any p xs ≡ true
any_from p [] x h e = absurd (none_in x h)
any_from p (y ∷ xs) x h e = ⊎_elim (λ q. or_left (p y) (list_any p xs) (ap p q ∙ e)) (λ k. or_right (p y) (list_any p xs) (any_from p xs x k e)) (in_cases y x xs h)

pass_cases : {X : Type 0} (p : X → Bool) (y : X) (xs : List X) (b : Bool) → p y ≡ b → (b || list_any p xs) ≡ true → (list_any p xs ≡ true → Passes p xs) → Passes p (y ∷ xs)
pass_cases p y xs true e h k = (y, first_in y xs, e)
pass_cases p y xs false e h k = let m = k h in (m.0, later_in y m.0 xs m.1, m.2)

pub any_of : {X : Type 0} (p : X → Bool) (xs : List X) → list_any p xs ≡ true → Passes p xs
any_of p [] h = absurd (cc)
any_of p (y ∷ xs) h = pass_cases p y xs (p y) refl h (any_of p xs)

pub same_tests : (x y : Bool) → (x ≡ true → y ≡ true) → (y ≡ true → x ≡ true) → x ≡ y
same_tests true y f g = sym (f refl)
same_tests false true f g = g refl
same_tests false false f g = refl

-- Of two ends of one list one is the end of the other.
pub ends_meet : (f g b c : List (List ℕ)) → f ++ b ≡ g ++ c → IsAtOrUnder b c ⊎ IsAtOrUnder c b
ends_meet [] g b c e = inl (g, e)
ends_meet (l ∷ f) [] b c e = inr (l ∷ f, sym e)
ends_meet (l ∷ f) (m ∷ g) b c e = ends_meet f g b c cc

pub over_one : (a b c : List (List ℕ)) → IsAtOrUnder a b → IsAtOrUnder a c → IsAtOrUnder b c ⊎ IsAtOrUnder c b
over_one a b c h k = ends_meet h.0 k.0 b c (sym h.1 ∙ k.1)

pub at_itself : (a : List (List ℕ)) → IsAtOrUnder a a
at_itself a = ([], refl)

pub one_under : (l : List ℕ) (a b : List (List ℕ)) → IsAtOrUnder a b → IsAtOrUnder (l ∷ a) b
one_under l a b h = (l ∷ h.0, ap (λ (x : List (List ℕ)). l ∷ x) h.1)

-- A name under another is it, or its parent is under the other.
pub under_cases : (l : List ℕ) (a b : List (List ℕ)) → IsAtOrUnder (l ∷ a) b → ((l ∷ a) ≡ b) ⊎ IsAtOrUnder a b
under_cases l a b ([], e) = inl e
under_cases l a b (m ∷ f, e) = inr (f, cc)

pub under_under : (a b c : List (List ℕ)) → IsAtOrUnder a b → IsAtOrUnder b c → IsAtOrUnder a c
under_under a b c h k = (h.0 ++ k.0, h.1 ∙ (ap (λ (x : List (List ℕ)). h.0 ++ x) k.1 ∙ sym (append_assoc h.0 k.0 c)))

pub under_length : (a b : List (List ℕ)) → IsAtOrUnder a b → length b ≤ length a
under_length a b h = omega (arith, ap length h.1, length-append h.0 b)

-- Names over one name, of one length, are one.
pub same_over : (a b c : List (List ℕ)) → IsAtOrUnder a b → IsAtOrUnder a c → length b ≡ length c → b ≡ c
same_over a b c h k e = ⊎_elim (λ u. by_length b c u e) (λ u. sym (by_length c b u (sym e))) (over_one a b c h k)
  where
    by_length : (x y : List (List ℕ)) → IsAtOrUnder x y → length x ≡ length y → x ≡ y
    by_length x y ([], p) q = p
    by_length x y (l ∷ f, p) q = absurd (omega (arith, ap length p, length-append f y))

-- Members of what a filter, a map and a search give.
filter_split : {X : Type 0} (p : X → Bool) (y x : X) (xs : List X) (b : Bool) → p y ≡ b → (Contains (filter p xs) x → Contains xs x × (p x ≡ true))
    → Contains (cond b (y ∷ filter p xs) (filter p xs)) x → Contains (y ∷ xs) x × (p x ≡ true)
filter_split p y x xs true e k h = ⊎_elim (λ q. (subst (λ w. Contains (y ∷ xs) w) q (first_in y xs), sym (ap p q) ∙ e)) (λ m. let n = k m in (later_in y x xs n.0, n.1)) (in_cases y x (filter p xs) h)
filter_split p y x xs false e k h = let n = k h in (later_in y x xs n.0, n.1)

pub filter_of : {X : Type 0} (p : X → Bool) (xs : List X) (x : X) → Contains (filter p xs) x → Contains xs x × (p x ≡ true)
filter_of p [] x h = absurd (none_in x h)
filter_of p (y ∷ xs) x h = filter_split p y x xs (p y) refl (filter_of p xs x) h

filter_more : {X : Type 0} (p : X → Bool) (y x : X) (xs : List X) (b : Bool) → p y ≡ b → p x ≡ true → Contains (y ∷ xs) x → (Contains xs x → Contains (filter p xs) x) → Contains (cond b (y ∷ filter p xs) (filter p xs)) x
filter_more p y x xs true e t h k = ⊎_elim (λ q. subst (λ w. Contains (y ∷ filter p xs) w) q (first_in y (filter p xs))) (λ m. later_in y x (filter p xs) (k m)) (in_cases y x xs h)
filter_more p y x xs false e t h k = ⊎_elim (λ q. absurd (let f : p x ≡ false = sym (ap p q) ∙ e in cc)) k (in_cases y x xs h)

pub filter_in : {X : Type 0} (p : X → Bool) (xs : List X) (x : X) → Contains xs x → p x ≡ true → Contains (filter p xs) x
filter_in p [] x h t = absurd (none_in x h)
filter_in p (y ∷ xs) x h t = filter_more p y x xs (p y) refl t h (λ m. filter_in p xs x m t)

pub map_of : {X Y : Type 0} (f : X → Y) (xs : List X) (y : Y) → Contains (map f xs) y → (x : X) × Contains xs x × (f x ≡ y)
map_of f [] y h = absurd (none_in y h)
map_of f (x ∷ xs) y h = ⊎_elim (λ q. (x, first_in x xs, q)) (λ m. let n = map_of f xs y m in (n.0, later_in x n.0 xs n.1, n.2)) (in_cases (f x) y (map f xs) h)

pub map_in : {X Y : Type 0} (f : X → Y) (xs : List X) (x : X) → Contains xs x → Contains (map f xs) (f x)
map_in f [] x h = absurd (none_in x h)
map_in f (w ∷ xs) x h = ⊎_elim (λ q. subst (λ v. Contains (map f (w ∷ xs)) (f v)) q (first_in (f w) (map f xs))) (λ m. later_in (f w) (f x) (map f xs) (map_in f xs x m)) (in_cases w x xs h)

find_split : {X : Type 0} (p : X → Bool) (y x : X) (xs : List X) (b : Bool) → p y ≡ b → (find p xs ≡ Some x → Contains xs x × (p x ≡ true)) → cond b (Some y) (find p xs) ≡ Some x → Contains (y ∷ xs) x × (p x ≡ true)
find_split p y x xs true e k h = let q : y ≡ x = cc in (subst (λ w. Contains (y ∷ xs) w) q (first_in y xs), sym (ap p q) ∙ e)
find_split p y x xs false e k h = let n = k h in (later_in y x xs n.0, n.1)

pub find_of : {X : Type 0} (p : X → Bool) (xs : List X) (x : X) → find p xs ≡ Some x → Contains xs x × (p x ≡ true)
find_of p [] x h = absurd (cc)
find_of p (y ∷ xs) x h = find_split p y x xs (p y) refl (find_of p xs x) h
