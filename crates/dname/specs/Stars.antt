-- Where the label `*` stands in a name (RFC 4592, section 2.1.1).
use Rattle.std.specs.Prelude.{ℕ, Bool, false, ◌||◌, nat_eq, List, [], ◌∷◌}
use Rattle.std.specs.Cmp.Lexicographic.{pointwise}
use Rattle.dname.specs.Labels.{star}

abbrev pub is_star : List ℕ → Bool
is_star l = pointwise nat_eq l star

-- One of the labels is `*`.
abbrev pub has_star : List (List ℕ) → Bool
has_star [] = false
has_star (l ∷ ls) = is_star l || has_star ls

-- The first label is `*`: a wildcard.
abbrev pub is_wildcard : List (List ℕ) → Bool
is_wildcard [] = false
is_wildcard (l ∷ ls) = is_star l

-- A label other than the first is `*`.
abbrev pub has_inner_star : List (List ℕ) → Bool
has_inner_star [] = false
has_inner_star (l ∷ ls) = has_star ls
