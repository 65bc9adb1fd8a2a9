-- Whether two names are one does not depend on their order.
use Rattle.std.proofs.Common.{◌≡◌, ℕ, Bool, true, false, List, refl, sym, ◌∙◌}
use Rattle.std.proofs.lemmas.Bool.{false_from_ne_true, both_ways}
use Rattle.dname.specs.Labels.{same_name}
use Rattle.dname.specs.Laws.{same_name-exact, same_name-equal}

swapped : (m n : List (List ℕ)) → same_name m n ≡ true → same_name n m ≡ true
swapped m n h = same_name-equal n m (sym (same_name-exact m n h))

apart : (m n : List (List ℕ)) → same_name m n ≡ false → same_name n m ≡ false
apart m n h = false_from_ne_true (same_name n m) (λ t. both_ways (same_name m n) h (swapped n m t))

by_value : (m n : List (List ℕ)) (b : Bool) → same_name m n ≡ b → same_name m n ≡ same_name n m
by_value m n true h = h ∙ sym (swapped m n h)
by_value m n false h = h ∙ sym (apart m n h)

pub same_swapped : (m n : List (List ℕ)) → same_name m n ≡ same_name n m
same_swapped m n = by_value m n (same_name m n) refl
