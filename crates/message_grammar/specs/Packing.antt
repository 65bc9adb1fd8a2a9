-- Message compression as a function of the names written before (RFC 1035, section 4.1.4).
use Rattle.std.specs.Prelude.{ℕ, ◌+◌, ◌/◌, ◌%◌, nat_lt, if◌then◌else◌, Option, Some, None, List, [], ◌∷◌, ◌++◌, length}
use Rattle.dname.specs.Labels.{same_name}

-- A suffix of a name, in lower case and never the root, and the place of the first label of it that is
-- written there.
pub record Note : Type 0 where
  pub suffix : List (List ℕ)
  pub place : ℕ

-- The earliest place of a suffix among the notes, which stand in the order in which they were written.
abbrev pub find : List Note → List (List ℕ) → Option ℕ
find [] name = None
find (n ∷ notes) name = if same_name n.suffix name then Some n.place else find notes name

-- A pointer reaches places below 2^14.
abbrev pub pointer_limit : ℕ
pointer_limit = 16384

-- A pointer: two top bits set, then fourteen bits of offset.
abbrev pub pointer : ℕ → List ℕ
pointer place = (192 + place / 256) ∷ (place % 256) ∷ []

-- A pointer where there is a place, else these bytes.
abbrev pub pointer_or : Option ℕ → List ℕ → List ℕ
pointer_or None text = text
pointer_or (Some place) text = pointer place

-- A name under the notes: the labels before the longest suffix that was noted, then a pointer to its
-- earliest place; written in full where no suffix was noted.
abbrev pub packed : List Note → List (List ℕ) → List ℕ
packed notes [] = []
packed notes (l ∷ []) = 0 ∷ []
packed notes (l ∷ m ∷ rest) = pointer_or (find notes (l ∷ m ∷ rest)) (length l ∷ (l ++ packed notes (m ∷ rest)))

-- A suffix noted, where a pointer can reach its place.
abbrev pub noted : List (List ℕ) → ℕ → List Note → List Note
noted suffix place later = if nat_lt place pointer_limit then record { suffix = suffix; place = place } ∷ later else []

-- No more notes where a pointer stands.
abbrev pub notes_or : Option ℕ → List Note → List Note
notes_or None notes = notes
notes_or (Some place) notes = []

-- What a name that is packed at a place adds to the notes: each suffix whose first label is written there.
abbrev pub packed_notes : List Note → ℕ → List (List ℕ) → List Note
packed_notes notes at [] = []
packed_notes notes at (l ∷ []) = []
packed_notes notes at (l ∷ m ∷ rest) =
    notes_or (find notes (l ∷ m ∷ rest)) (noted (l ∷ m ∷ rest) at (packed_notes notes (at + 1 + length l) (m ∷ rest)))

-- What a name in full adds to the notes: all its suffixes.
abbrev pub full_notes : ℕ → List (List ℕ) → List Note
full_notes at [] = []
full_notes at (l ∷ []) = []
full_notes at (l ∷ m ∷ rest) = noted (l ∷ m ∷ rest) at (full_notes (at + 1 + length l) (m ∷ rest))
