-- The character-strings of a TXT record as they are kept: in wire form, each behind its length (RFC 1035, sections 3.3
-- and 3.3.14).
use Rattle.std.specs.Prelude.{◌≡◌, ℕ, ◌<◌, ◌≤◌, List, ◌∷◌, length}
use Rattle.std.specs.List.{AllByRecursion}
use Rattle.dname.specs.Labels.{wire}
use Rattle.dname.specs.Wire.{labels_of}

-- The strings that bytes hold, each behind its length, as the labels of a name stand.
abbrev pub strings_of : List ℕ → List (List ℕ)
strings_of bs = labels_of bs

abbrev pub IsShort : List ℕ → Type 0
IsShort s = length s ≤ 255

-- The wire form of character-strings, or of none.
pub record IsStringsWire (bs : List ℕ) : Type 0 where
  pub short : AllByRecursion IsShort (strings_of bs)
  pub bytes : wire (strings_of bs) ≡ bs

-- The wire form of one character-string or more.
pub record IsTextsWire (bs : List ℕ) : Type 0 where
  pub strings : IsStringsWire bs
  pub some : 0 < length (strings_of bs)

-- The first string of the wire form, and the wire form behind it.
pub record IsCut (bs string rest : List ℕ) : Type 0 where
  pub strings : strings_of bs ≡ string ∷ strings_of rest
  pub form : IsStringsWire rest
  pub short : length string ≤ 255
  pub size : length rest < length bs
