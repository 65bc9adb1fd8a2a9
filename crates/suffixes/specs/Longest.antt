-- What is looked for among the notes of a message, and what a name adds to them.
use Rattle.std.specs.Prelude.{ℕ, zero, suc, ◌+◌, Option, Some, None, List, [], ◌∷◌, length}
use Rattle.message_grammar.specs.Packing.{Note, find, noted}
use Rattle.suffixes.specs.declared.earlier.Found.{Found}

-- A suffix that was found for the name behind one more label of this length.
abbrev pub one_more : ℕ → Option Found → Option Found
one_more size None = None
one_more size (Some f) = Some (record { labels = f.labels + 1; bytes = f.bytes + 1 + size; place = f.place })

-- The suffix itself where it has a place, else a shorter one.
abbrev pub here_or : Option ℕ → Option Found → Option Found
here_or None shorter = shorter
here_or (Some place) shorter = Some (record { labels = 0; bytes = 0; place = place })

-- The longest suffix of a name, other than the root, among the notes, at its earliest place.
abbrev pub longest : List Note → List (List ℕ) → Option Found
longest notes [] = None
longest notes (l ∷ []) = None
longest notes (l ∷ m ∷ rest) = here_or (find notes (l ∷ m ∷ rest)) (one_more (length l) (longest notes (m ∷ rest)))

-- The notes of the suffixes that begin with the first labels of a name at a place.
abbrev pub first_notes : ℕ → ℕ → List (List ℕ) → List Note
first_notes zero at name = []
first_notes (suc k) at [] = []
first_notes (suc k) at (l ∷ []) = []
first_notes (suc k) at (l ∷ m ∷ rest) = noted (l ∷ m ∷ rest) at (first_notes k (at + 1 + length l) (m ∷ rest))
