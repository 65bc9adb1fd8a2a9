-- A domain name as its labels (RFC 1034, section 3.1): the first one first, in lower case (names are
-- compared without regard to case, RFC 1035, section 2.3.3), and the root's empty label last.
use Rattle.std.specs.Prelude.{◌≡◌, ℕ, ◌+◌, ◌<◌, ◌≤◌, Bool, ◌&&◌, ◌||◌, cond, nat_eq, nat_le, Option, Some, None, List, [], ◌∷◌, ◌++◌, length, map}
use Rattle.std.specs.Cmp.Lexicographic.{pointwise}

-- A label: its bytes.
abbrev pub Label : Type 0
Label = List ℕ

-- A name: its labels, the root's empty one last.
abbrev pub Name : Type 0
Name = List (List ℕ)

abbrev pub root : Name
root = [] ∷ []

-- The label `*` (RFC 1034, section 4.3.3).
abbrev pub star : Label
star = 42 ∷ []

-- The labels of a name without the root's.
abbrev pub before_root : List (List ℕ) → List (List ℕ)
before_root [] = []
before_root (l ∷ []) = []
before_root (l ∷ m ∷ ls) = l ∷ before_root (m ∷ ls)

-- The byte in lower case where it is a letter from A to Z, else the byte itself (RFC 1035, section 2.3.3).
abbrev pub folded : ℕ → ℕ
folded b = cond (nat_le 65 b && nat_le b 90) (b + 32) b

abbrev pub folded_label : List ℕ → List ℕ
folded_label l = map folded l

-- The labels of a spelling, each in lower case.
abbrev pub folded_labels : List (List ℕ) → List (List ℕ)
folded_labels ls = map folded_label ls

-- The bytes of a name in a message: each label behind its length (RFC 1035, section 3.1).
abbrev pub wire : List (List ℕ) → List ℕ
wire [] = []
wire (l ∷ ls) = length l ∷ (l ++ wire ls)

-- Bytes without a letter from A to Z.
abbrev pub AreFolded : List ℕ → Type 0
AreFolded [] = Unit {0}
AreFolded (b ∷ bs) = (b < 256) × (folded b ≡ b) × AreFolded bs

-- A label other than the root's: 1 to 63 bytes (RFC 1035, section 2.3.4).
pub record IsLabel (l : List ℕ) : Type 0 where
  pub nonempty : 0 < length l
  pub short : length l < 64
  pub bytes : AreFolded l

-- Labels of which the last is the root's and no other is empty.
abbrev pub AreLabels : List (List ℕ) → Type 0
AreLabels [] = ⊥
AreLabels (l ∷ []) = l ≡ []
AreLabels (l ∷ m ∷ ls) = IsLabel l × AreLabels (m ∷ ls)

-- Labels in any letters, of which the last is the root's and each other has 1 to 63 bytes.
abbrev pub AreSpelled : List (List ℕ) → Type 0
AreSpelled [] = ⊥
AreSpelled (l ∷ []) = l ≡ []
AreSpelled (l ∷ m ∷ ls) = (0 < length l) × (length l < 64) × AreSpelled (m ∷ ls)

-- A name: at most 255 bytes with the length bytes and the closing zero (RFC 1035, section 2.3.4).
pub record IsName (n : List (List ℕ)) : Type 0 where
  pub labels : AreLabels n
  pub short : length (wire n) ≤ 255

-- `a` is `b` or a name beneath it: the labels of `b` are the end of those of `a` (RFC 1034, section 3.1).
abbrev pub IsAtOrUnder : List (List ℕ) → List (List ℕ) → Type 0
IsAtOrUnder a b = (front : List (List ℕ)) × (a ≡ front ++ b)

-- The same name, as a test: equal in every byte of the wire form.
abbrev pub same_name : List (List ℕ) → List (List ℕ) → Bool
same_name a b = pointwise nat_eq (wire a) (wire b)

-- `is_under a b` tests `IsAtOrUnder a b` from the labels' first on.
abbrev pub is_under : List (List ℕ) → List (List ℕ) → Bool
is_under [] b = same_name [] b
is_under (l ∷ ls) b = same_name (l ∷ ls) b || is_under ls b

-- The name above: without its first label (the root has none above it).
abbrev pub parent_of : List (List ℕ) → Option (List (List ℕ))
parent_of [] = None
parent_of (l ∷ []) = None
parent_of (l ∷ m ∷ ls) = Some (m ∷ ls)
