-- Message compression in the words of RFC 1035, section 4.1.4: which bytes stand for the names of a message, said of
-- the bytes alone. A message whose names are all in full, or one that points to another place than the first, or to
-- a suffix that is not the longest, is not compressed so.
use Rattle.std.specs.Prelude.{◌≡◌, ℕ, ◌+◌, ◌<◌, ◌≤◌, List, [], ◌∷◌, ◌++◌, length, slice_get, Some, Contains}
use Rattle.std.specs.Int.{bytes_high_first}
use Rattle.dname.specs.Labels.{folded_label, root, wire, IsAtOrUnder}
use Rattle.message_grammar.specs.Names.{IsLabelAt, IsPointerAt, Stands}
use Rattle.message_grammar.specs.Packing.{pointer_limit}
use Rattle.message_grammar.specs.Pieces.{Flat, plain_bytes, packed_name, asked_name, full_name, Piece, flat_piece, sized_group}
use Rattle.message_grammar.specs.Places.{IsAt}
use Rattle.message_grammar.specs.Messages.{Message, message_pieces}

-- These labels stand in a row, each where the one before it ends.
abbrev pub LabelsAt : List ℕ → ℕ → List (List ℕ) → ℕ → Type 0
LabelsAt bytes at [] end = end ≡ at
LabelsAt bytes at (l ∷ ls) end = IsLabelAt bytes at l × LabelsAt bytes (at + 1 + length l) ls end

-- At `at` stands a label that was written for the name that begins at `name`, not one behind its pointer.
pub record IsWrittenFor (bytes : List ℕ) (name at : ℕ) : Type 0 where
  pub before : List (List ℕ)
  pub row : LabelsAt bytes name before at
  pub label : List ℕ
  pub here : IsLabelAt bytes at label

-- A prior occurrence of a suffix: at `target`, where a pointer reaches, stands a label that was written for one of
-- the names that begin at these places, and what is read from there on is this suffix. The root has none.
pub record IsOccurrence (bytes names : List ℕ) (suffix : List (List ℕ)) (target : ℕ) : Type 0 where
  pub reach : target < pointer_limit
  pub name : ℕ
  pub prior : Contains names name
  pub written : IsWrittenFor bytes name target
  pub end : ℕ
  pub reads : Stands folded_label bytes target target suffix end

-- How a name goes on behind its first labels: the rest of it is the root, and ends the name by its zero byte; or it
-- is what stands at a prior occurrence, the first there is, and a pointer leads to it.
pub data RestAt (bytes names : List ℕ) (at : ℕ) (rest : List (List ℕ)) (end : ℕ) : Type 0 where
  in_full : rest ≡ root → slice_get bytes at ≡ Some 0 → end ≡ at + 1 → RestAt bytes names at rest end
  by_pointer : (target : ℕ) → IsPointerAt bytes at target → IsOccurrence bytes names rest target
      → ((other : ℕ) → IsOccurrence bytes names rest other → target ≤ other) → end ≡ at + 2 → RestAt bytes names at rest end

-- A name is compressed there: its first labels, and then the longest suffix of it that occurred before, as a pointer.
pub record IsCompressedAt (bytes names : List ℕ) (at : ℕ) (name : List (List ℕ)) (end : ℕ) : Type 0 where
  pub first : List (List ℕ)
  pub rest : List (List ℕ)
  pub whole : name ≡ first ++ rest
  pub behind : ℕ
  pub row : LabelsAt bytes at first behind
  pub goes_on : RestAt bytes names behind rest end
  pub longest : (suffix : List (List ℕ)) (target : ℕ) → IsAtOrUnder name suffix → length rest < length suffix
      → IsOccurrence bytes names suffix target → ⊥

-- A piece stands there: the name of a question and the target of an SRV are in full, all others compressed.
abbrev pub FlatPackedAt : List ℕ → List ℕ → ℕ → Flat → ℕ → Type 0
FlatPackedAt bytes names at (plain_bytes text) end = IsAt bytes at text end
FlatPackedAt bytes names at (packed_name name) end = IsCompressedAt bytes names at name end
FlatPackedAt bytes names at (asked_name labels) end = IsAt bytes at (wire labels) end
FlatPackedAt bytes names at (full_name name) end = IsAt bytes at (wire name) end

-- The places of the names to which later ones may point: the target of an SRV is none.
abbrev pub names_behind : List ℕ → ℕ → Flat → List ℕ
names_behind names at (plain_bytes text) = names
names_behind names at (packed_name name) = names ++ at ∷ []
names_behind names at (asked_name labels) = names ++ at ∷ []
names_behind names at (full_name name) = names

-- `FlatsPackedAt bytes names at pieces later end`: a row of pieces; `later` are the places of the names through it.
abbrev pub FlatsPackedAt : List ℕ → List ℕ → ℕ → List Flat → List ℕ → ℕ → Type 0
FlatsPackedAt bytes names at [] later end = (later ≡ names) × (end ≡ at)
FlatsPackedAt bytes names at (f ∷ fs) later end =
    (mid : ℕ) × FlatPackedAt bytes names at f mid × FlatsPackedAt bytes (names_behind names at f) mid fs later end

-- A group behind its length.
pub record GroupPackedAt (bytes names : List ℕ) (at : ℕ) (group : List Flat) (later : List ℕ) (end : ℕ) : Type 0 where
  pub size : ℕ
  pub length_first : IsAt bytes at (bytes_high_first 2 size) (at + 2)
  pub packed : FlatsPackedAt bytes names (at + 2) group later end
  pub fills : end ≡ at + 2 + size

abbrev pub PiecesPackedAt : List ℕ → List ℕ → ℕ → List Piece → ℕ → Type 0
PiecesPackedAt bytes names at [] end = end ≡ at
PiecesPackedAt bytes names at (flat_piece f ∷ ps) end =
    (mid : ℕ) × FlatPackedAt bytes names at f mid × PiecesPackedAt bytes (names_behind names at f) mid ps end
PiecesPackedAt bytes names at (sized_group fs ∷ ps) end =
    (mid : ℕ) × (later : List ℕ) × GroupPackedAt bytes names at fs later mid × PiecesPackedAt bytes later mid ps end

-- The bytes are this message, with its names compressed.
abbrev pub IsCompressed : List ℕ → Message → Type 0
IsCompressed bytes m = PiecesPackedAt bytes [] 0 (message_pieces m) (length bytes)
