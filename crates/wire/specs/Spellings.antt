-- A name in its own letters, as it is stored: in lower case, and beside it the wire form if that differs.
use Rattle.std.specs.Prelude.{◌≡◌, ℕ, ◌≤◌, Result, Ok, Err, List, [], ◌∷◌, length}
use Rattle.dname.specs.Labels.{wire, folded_labels, AreSpelled}
use Rattle.dname.specs.Wire.{labels_of}
use Rattle.wire.specs.declared.error.WireError.{WireError}

pub record IsSpelt (bytes : List ℕ) (name : List (List ℕ)) : Type 0 where
  pub labels : AreSpelled (labels_of bytes)
  pub form : wire (labels_of bytes) ≡ bytes
  pub short : length bytes ≤ 255
  pub folds : name ≡ folded_labels (labels_of bytes)

-- The wire form: its own, or where there is none that of the name.
abbrev pub letters_of : List ℕ → List (List ℕ) → List ℕ
letters_of [] name = wire name
letters_of (b ∷ bs) name = b ∷ bs

-- The result of a walk over a name that gathered these letters: their labels, and the end of the name's own part.
abbrev pub spelt_by : List ℕ → Result ℕ WireError → Result (List (List ℕ) × ℕ) WireError
spelt_by letters (Ok end) = Ok (labels_of letters, end)
spelt_by letters (Err e) = Err e
