-- A name at a place of a message (RFC 1035, sections 3.1 and 4.1.4).
use Rattle.std.specs.Prelude.{◌≡◌, ℕ, ◌+◌, ◌*◌, ◌<◌, ◌≤◌, List, [], ◌∷◌, length, take, drop, slice_get, Some}
use Rattle.dname.specs.Labels.{folded_label, wire}

-- A label at a place: its length byte, whose two top bits are clear, then its bytes, in the letters that
-- stand there.
pub record IsLabelAt (bytes : List ℕ) (at : ℕ) (label : List ℕ) : Type 0 where
  pub head : slice_get bytes at ≡ Some (length label)
  pub nonempty : 0 < length label
  pub short : length label < 64
  pub there : at + 1 + length label ≤ length bytes
  pub text : take (length label) (drop (at + 1) bytes) ≡ label

-- A pointer at a place: two bytes, the two top bits set, the other fourteen the offset from the message's
-- start.
pub record IsPointerAt (bytes : List ℕ) (at target : ℕ) : Type 0 where
  pub high : ℕ
  pub low : ℕ
  pub first : slice_get bytes at ≡ Some (192 + high)
  pub second : slice_get bytes (at + 1) ≡ Some low
  pub fits : high < 64
  pub is : target ≡ 256 * high + low

-- `Stands f bytes start at labels end`: in the part of a name that begins at `start`, from `at` on, stand
-- these labels, each as `f` sees it, and what lies in place ends at `end`. A part ends with the root's zero
-- byte or with a pointer to a place strictly before its start, where the next part begins: so every walk
-- ends.
pub data Stands (f : List ℕ → List ℕ) (bytes : List ℕ) : ℕ → ℕ → List (List ℕ) → ℕ → Type 0 where
  root_here : (start at end : ℕ) → slice_get bytes at ≡ Some 0 → end ≡ at + 1
      → Stands f bytes start at ([] ∷ []) end
  label_here : (start at end : ℕ) (written seen : List ℕ) (rest : List (List ℕ)) → IsLabelAt bytes at written → seen ≡ f written
      → Stands f bytes start (at + 1 + length written) rest end → Stands f bytes start at (seen ∷ rest) end
  pointer_here : (start at end target past : ℕ) (labels : List (List ℕ)) → IsPointerAt bytes at target → target < start
      → Stands f bytes target target labels past → end ≡ at + 2 → Stands f bytes start at labels end

-- A label as it is written.
abbrev pub as_written : List ℕ → List ℕ
as_written l = l

-- The labels that stand at a place, in the letters that stand there (also behind a pointer): at most 255
-- bytes with the length bytes and the closing zero (RFC 1035, section 2.3.4).
pub record SpeltAt (bytes : List ℕ) (at : ℕ) (labels : List (List ℕ)) (end : ℕ) : Type 0 where
  pub stands : Stands as_written bytes at at labels end
  pub short : length (wire labels) ≤ 255

-- The name that stands at a place: the same in lower case (RFC 1035, section 2.3.3).
pub record NameAt (bytes : List ℕ) (at : ℕ) (name : List (List ℕ)) (end : ℕ) : Type 0 where
  pub stands : Stands folded_label bytes at at name end
  pub short : length (wire name) ≤ 255

-- A name that stands there in full: its part starts at 0, as it were, so that no pointer can lead strictly before it.
pub record FullAt (bytes : List ℕ) (at : ℕ) (name : List (List ℕ)) (end : ℕ) : Type 0 where
  pub stands : Stands folded_label bytes 0 at name end
  pub short : length (wire name) ≤ 255
