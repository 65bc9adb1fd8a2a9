-- Where a note is found: notes of one size stand behind one another on paths, and the bits of a suffix tell its path.
use Rattle.std.specs.Prelude.{◌≡◌, ℕ, zero, suc, ◌+◌, ◌-◌, ◌/◌, ◌%◌, ◌<◌, ◌≤◌, if◌then◌else◌, nat_eq, List, [], length, map, get_or, slice_index}
use Rattle.suffixes.specs.declared.earlier.End.{End}
use Rattle.suffixes.specs.declared.earlier.End.TheVariants.{Nowhere, Behind, At}
use Rattle.suffixes.specs.declared.earlier.Noted.{Noted}
use Rattle.suffixes.specs.Kept.{texts_of, size_at}

-- Two bits of a byte: the low ones are at place 0.
abbrev pub two_bits : ℕ → ℕ → ℕ
two_bits byte place = (if nat_eq place 0 then byte else if nat_eq place 1 then byte / 4 else if nat_eq place 2 then byte / 16 else byte / 64) % 4

-- Which of four branches a suffix takes where it has passed so many notes.
abbrev pub branch : List ℕ → ℕ → ℕ
branch suffix depth = two_bits (slice_index suffix (depth / 4)) (depth % 4)

-- The number of the note that a branch at the note of a number leads to: 0 where there is none.
abbrev pub next_of : List Noted → ℕ → ℕ → ℕ
next_of notes zero w = 0
next_of notes (suc k) w = slice_index (get_or (map (λ n. n.next) notes) k []) w

-- The number of the note that a suffix comes to behind so many others, where its path begins at this one.
abbrev pub passed : List Noted → List ℕ → ℕ → ℕ → ℕ
passed notes suffix first zero = first
passed notes suffix first (suc depth) = next_of notes (passed notes suffix first depth) (branch suffix depth)

-- Each branch leads to a later note.
pub record AreLinked (notes : List Noted) : Type 0 where
  pub later : (n w : ℕ) → 0 < next_of notes n w → n < next_of notes n w
  pub within : (n w : ℕ) → next_of notes n w ≤ length notes

-- The table leads to notes of each size.
pub record AreFirsts (notes : List Noted) (firsts : List ℕ) : Type 0 where
  pub sizes : length firsts ≡ 256
  pub has : (z : ℕ) → 0 < slice_index firsts z → size_at notes (slice_index firsts z - 1) ≡ z
  pub within : (z : ℕ) → slice_index firsts z ≤ length notes

-- On the path of these bytes stands the note of an index that has them and is no later than this one.
pub record IsReached (texts : List (List ℕ)) (notes : List Noted) (firsts : List ℕ) (k : ℕ) (bytes : List ℕ) : Type 0 where
  pub index : ℕ
  pub depth : ℕ
  pub early : index ≤ k
  pub same : get_or texts index [] ≡ bytes
  pub stands : passed notes bytes (slice_index firsts (length bytes)) depth ≡ suc index

-- The first `count` of the notes stand on their paths, or earlier ones of the same suffix do.
pub record IsPut (texts : List (List ℕ)) (notes : List Noted) (firsts : List ℕ) (count : ℕ) : Type 0 where
  pub linked : AreLinked notes
  pub table : AreFirsts notes firsts
  pub reached : (k : ℕ) → k < count → IsReached texts notes firsts k (get_or texts k [])

abbrev pub ArePut : List ℕ → List Noted → List ℕ → Type 0
ArePut names notes firsts = IsPut (texts_of names notes) notes firsts (length notes)

-- A suffix that none of the notes has that it comes to before this depth.
abbrev pub IsMissed : List (List ℕ) → List Noted → ℕ → List ℕ → ℕ → Type 0
IsMissed texts notes first suffix depth = (d j : ℕ) → d < depth → passed notes suffix first d ≡ suc j → get_or texts j [] ≡ suffix → ⊥

-- A path ends at a note that has its suffix, and no earlier one on it has.
pub record EndsAt (texts : List (List ℕ)) (notes : List Noted) (first : ℕ) (suffix : List ℕ) (n : ℕ) : Type 0 where
  pub depth : ℕ
  pub comes : passed notes suffix first depth ≡ n
  pub some : 0 < n
  pub within : n ≤ length notes
  pub here : get_or texts (n - 1) [] ≡ suffix
  pub missed : IsMissed texts notes first suffix depth

-- A path ends behind a note whose branch leads to none, and no note on it has its suffix.
pub record EndsBehind (texts : List (List ℕ)) (notes : List Noted) (first : ℕ) (suffix : List ℕ) (n w : ℕ) : Type 0 where
  pub depth : ℕ
  pub comes : passed notes suffix first depth ≡ n
  pub some : 0 < n
  pub within : n ≤ length notes
  pub takes : w ≡ branch suffix depth
  pub none : next_of notes n w ≡ 0
  pub missed : IsMissed texts notes first suffix (suc depth)

-- Where the path of a suffix ends that begins at this note.
abbrev pub IsEndOf : List (List ℕ) → List Noted → ℕ → List ℕ → End → Type 0
IsEndOf texts notes first suffix Nowhere = first ≡ 0
IsEndOf texts notes first suffix (Behind n w) = EndsBehind texts notes first suffix n w
IsEndOf texts notes first suffix (At n) = EndsAt texts notes first suffix n
