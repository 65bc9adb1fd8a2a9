-- How the notes of a message are kept: the suffixes of one name share its bytes.
use Rattle.std.specs.Prelude.{◌≡◌, ℕ, ◌+◌, ◌<◌, ◌≤◌, List, [], length, take, drop, map, get_or, slice_index}
use Rattle.std.specs.List.{All}
use Rattle.dname.specs.Wire.{labels_of, IsWire}
use Rattle.message_grammar.specs.Packing.{Note}
use Rattle.suffixes.specs.declared.earlier.Noted.{Noted}

-- The bytes of a suffix among those of the names.
abbrev pub kept_bytes : List ℕ → Noted → List ℕ
kept_bytes names n = take n.size (drop n.start names)

-- The note that an entry stands for.
abbrev pub note_of : List ℕ → Noted → Note
note_of names n = record { suffix = labels_of (kept_bytes names n); place = n.place }

abbrev pub notes_of : List ℕ → List Noted → List Note
notes_of names notes = map (note_of names) notes

-- An entry whose bytes are a suffix in wire form, at a place in a pointer's reach, with four branches.
pub record IsKept (names : List ℕ) (n : Noted) : Type 0 where
  pub fits : n.start + n.size ≤ length names
  pub wire : IsWire (kept_bytes names n)
  pub reach : n.place < 16384
  pub branches : length n.next ≡ 4

abbrev pub AreKept : List ℕ → List Noted → Type 0
AreKept names notes = All (IsKept names) notes

-- The bytes of the notes, and those of the note at an index.
abbrev pub texts_of : List ℕ → List Noted → List (List ℕ)
texts_of names notes = map (kept_bytes names) notes

abbrev pub bytes_at : List ℕ → List Noted → ℕ → List ℕ
bytes_at names notes k = get_or (texts_of names notes) k []

-- The size of the note at an index.
abbrev pub size_at : List Noted → ℕ → ℕ
size_at notes k = slice_index (map (λ n. n.size) notes) k
