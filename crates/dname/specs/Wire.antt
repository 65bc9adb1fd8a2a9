-- Names in wire form, as they are stored, and the labels that this form has.
use Rattle.std.specs.Prelude.{◌≡◌, ℕ, zero, suc, ◌+◌, ◌<◌, ◌≤◌, List, [], ◌∷◌, ◌++◌, length, take}
use Rattle.dname.specs.Labels.{wire, AreLabels, AreSpelled}

-- The labels of wire bytes, from the length byte on that comes after this number of bytes.
abbrev pub labels_after : ℕ → List ℕ → List (List ℕ)
labels_after _ [] = []
labels_after zero (b ∷ bs) = take b bs ∷ labels_after b bs
labels_after (suc k) (b ∷ bs) = labels_after k bs

-- The labels of wire bytes.
abbrev pub labels_of : List ℕ → List (List ℕ)
labels_of bs = labels_after 0 bs

-- Bytes that are the wire form of labels of which the last is the root's.
pub record IsWire (bs : List ℕ) : Type 0 where
  pub labels : AreLabels (labels_of bs)
  pub bytes : wire (labels_of bs) ≡ bs

-- The wire form of a name.
pub record IsNameWire (bs : List ℕ) : Type 0 where
  pub wire : IsWire bs
  pub short : length bs ≤ 255

-- The wire form of a name in any letters.
pub record IsSpellingWire (bs : List ℕ) : Type 0 where
  pub labels : AreSpelled (labels_of bs)
  pub bytes : wire (labels_of bs) ≡ bs
  pub short : length bs ≤ 255

-- The first label of wire bytes, and the wire bytes behind it.
pub record IsSplit (bs label rest : List ℕ) : Type 0 where
  pub wire : IsWire rest
  pub labels : labels_of bs ≡ label ∷ labels_of rest
  pub nonempty : 0 < length label
  pub short : length label < 64
  pub bytes : bs ≡ length label ∷ (label ++ rest)
  pub size : length bs ≡ 1 + length label + length rest
