-- A test of the members of a list, one after the other.
use Rattle.std.proofs.Common.{◌≡◌, ℕ, ◌+◌, ◌<◌, ◌≤◌, Bool, false, List, [], ◌∷◌, ◌++◌, length, take, get_or, refl, sym, ◌∙◌, ap, subst}
use Rattle.std.specs.List.{list_any}
use Rattle.std.proofs.lemmas.Bool.{or_parts, or_from}
use Rattle.std.proofs.lemmas.List.{take_all, take_more}

-- No member passes it, one more member on.
any_push : {X : Type 0} (p : X → Bool) (xs : List X) (x : X) → list_any p xs ≡ false → p x ≡ false → list_any p (xs ++ x ∷ []) ≡ false
any_push p [] x h k = or_from (p x) false k refl
any_push p (y ∷ xs) x h k = let m = or_parts (p y) (list_any p xs) h in or_from (p y) (list_any p (xs ++ x ∷ [])) m.0 (any_push p xs x m.1 k)

pub any_more : {X : Type 0} (p : X → Bool) (xs : List X) (i : ℕ) (x : X) → i < length xs → x ≡ get_or xs i x → list_any p (take i xs) ≡ false → p x ≡ false
    → list_any p (take (i + 1) xs) ≡ false
any_more p xs i x lt e h k = subst (λ ys. list_any p ys ≡ false) (sym (take_more xs i x lt)) (any_push p (take i xs) (get_or xs i x) h (ap p (sym e) ∙ k))

pub any_none : {X : Type 0} (p : X → Bool) (xs : List X) (i : ℕ) → length xs ≤ i → list_any p (take i xs) ≡ false → false ≡ list_any p xs
any_none p xs i past h = sym h ∙ ap (list_any p) (take_all i xs past)
