-- What it is that a row of pieces stands at a place of a message, from there to an end.
use Rattle.std.specs.Prelude.{◌≡◌, ℕ, ◌+◌, ◌<◌, ◌≤◌, List, [], ◌∷◌, length, take, drop}
use Rattle.std.specs.Int.{bytes_high_first}
use Rattle.message_grammar.specs.Names.{NameAt, SpeltAt, FullAt}
use Rattle.message_grammar.specs.Pieces.{Flat, plain_bytes, packed_name, asked_name, full_name, Piece, flat_piece, sized_group}

-- These bytes stand there.
pub record IsAt (bytes : List ℕ) (at : ℕ) (text : List ℕ) (end : ℕ) : Type 0 where
  pub there : at + length text ≤ length bytes
  pub is : take (length text) (drop at bytes) ≡ text
  pub last : end ≡ at + length text

abbrev pub FlatAt : List ℕ → ℕ → Flat → ℕ → Type 0
FlatAt bytes at (plain_bytes text) end = IsAt bytes at text end
FlatAt bytes at (packed_name name) end = NameAt bytes at name end
FlatAt bytes at (asked_name labels) end = SpeltAt bytes at labels end
FlatAt bytes at (full_name name) end = FullAt bytes at name end

abbrev pub FlatsAt : List ℕ → ℕ → List Flat → ℕ → Type 0
FlatsAt bytes at [] end = end ≡ at
FlatsAt bytes at (f ∷ fs) end = (mid : ℕ) × FlatAt bytes at f mid × FlatsAt bytes mid fs end

-- A group stands behind its length, and fills it.
pub record GroupAt (bytes : List ℕ) (at : ℕ) (group : List Flat) (end : ℕ) : Type 0 where
  pub size : ℕ
  pub fits : size < 65536
  pub length_first : IsAt bytes at (bytes_high_first 2 size) (at + 2)
  pub stands : FlatsAt bytes (at + 2) group end
  pub fills : end ≡ at + 2 + size

abbrev pub PieceAt : List ℕ → ℕ → Piece → ℕ → Type 0
PieceAt bytes at (flat_piece f) end = FlatAt bytes at f end
PieceAt bytes at (sized_group fs) end = GroupAt bytes at fs end

abbrev pub PiecesAt : List ℕ → ℕ → List Piece → ℕ → Type 0
PiecesAt bytes at [] end = end ≡ at
PiecesAt bytes at (p ∷ ps) end = (mid : ℕ) × PieceAt bytes at p mid × PiecesAt bytes mid ps end
