-- A message as a row of pieces, and the text that a row of pieces is written as.
use Rattle.std.specs.Prelude.{ℕ, ◌+◌, List, [], ◌∷◌, ◌++◌, length}
use Rattle.std.specs.Int.{bytes_high_first}
use Rattle.dname.specs.Labels.{folded_labels, wire}
use Rattle.message_grammar.specs.Packing.{Note, packed, packed_notes, full_notes}

-- A piece without a length of its own. A name that is packed is compressed, and its suffixes are noted; an
-- asked name, the name of a question, is written in full in its own letters, and its suffixes are noted in
-- lower case; a full name is written in full, and no pointer leads into it.
pub data Flat : Type 0 where
  plain_bytes : List ℕ → Flat
  packed_name : List (List ℕ) → Flat
  asked_name : List (List ℕ) → Flat
  full_name : List (List ℕ) → Flat

-- A sized group has its length in front, in 16 bits.
pub data Piece : Type 0 where
  flat_piece : Flat → Piece
  sized_group : List Flat → Piece

-- A number of 16 bits, and one of 32, the high byte first.
abbrev pub short_number : ℕ → Flat
short_number n = plain_bytes (bytes_high_first 2 n)

abbrev pub long_number : ℕ → Flat
long_number n = plain_bytes (bytes_high_first 4 n)

-- A text that is being written: where it starts in the message, its bytes so far, and the notes of the
-- whole message so far.
pub record Text : Type 0 where
  pub start : ℕ
  pub bytes : List ℕ
  pub notes : List Note

-- Where the next byte comes.
abbrev pub place_of : Text → ℕ
place_of t = t.start + length t.bytes

abbrev pub flat_bytes : List Note → Flat → List ℕ
flat_bytes notes (plain_bytes b) = b
flat_bytes notes (packed_name n) = packed notes n
flat_bytes notes (asked_name n) = wire n
flat_bytes notes (full_name n) = wire n

abbrev pub flat_notes : List Note → ℕ → Flat → List Note
flat_notes notes at (plain_bytes b) = []
flat_notes notes at (packed_name n) = packed_notes notes at n
flat_notes notes at (asked_name n) = full_notes at (folded_labels n)
flat_notes notes at (full_name n) = []

-- The text with a flat piece behind it.
unfoldable pub put_flat : Text → Flat → Text
put_flat t f = record {
  start = t.start;
  bytes = t.bytes ++ flat_bytes t.notes f;
  notes = t.notes ++ flat_notes t.notes (place_of t) f;
}

abbrev pub put_flats : Text → List Flat → Text
put_flats t [] = t
put_flats t (f ∷ fs) = put_flats (put_flat t f) fs

-- The text of a group, which starts behind its length.
abbrev pub group_of : Text → List Flat → Text
group_of t fs = put_flats (record { start = place_of t + 2; bytes = []; notes = t.notes }) fs

-- The text with a group behind it.
abbrev pub with_group : Text → Text → Text
with_group t group = record {
  start = t.start;
  bytes = t.bytes ++ (bytes_high_first 2 (length group.bytes) ++ group.bytes);
  notes = group.notes;
}

-- The text with a piece behind it.
unfoldable pub put : Text → Piece → Text
put t (flat_piece f) = put_flat t f
put t (sized_group fs) = with_group t (group_of t fs)

-- The text with a row of pieces behind it.
abbrev pub after : Text → List Piece → Text
after t [] = t
after t (p ∷ ps) = after (put t p) ps

-- A message of which nothing is written.
abbrev pub empty : Text
empty = record { start = 0; bytes = []; notes = [] }

-- The text of a row of pieces.
abbrev pub written : List Piece → List ℕ
written ps = (after empty ps).bytes
