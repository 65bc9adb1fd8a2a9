-- The domains in which names lie.
use Rattle.std.specs.Prelude.{ℕ, ◌-◌, List, [], ◌∷◌, length, drop}

-- The name above a name; above the root there is none but itself.
abbrev pub above : List (List ℕ) → List (List ℕ)
above [] = []
above (l ∷ []) = l ∷ []
above (l ∷ m ∷ ls) = m ∷ ls

-- The last two labels of a name, and the root's, or all of a shorter one.
abbrev pub last_labels : List (List ℕ) → List (List ℕ)
last_labels name = drop (length name - 3) name

-- The domain in which a name lies: the last two labels of the name above it.
abbrev pub domain_of : List (List ℕ) → List (List ℕ)
domain_of name = last_labels (above name)
