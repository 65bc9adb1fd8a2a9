-- Decimal numbers in a master file.
use Rattle.std.specs.Prelude.{ℕ, Bool, false, cond, nat_le, Result, Ok, Err, List, [], ◌∷◌}
use Rattle.decimal.specs.Digits.{are_digits, value_from}
use Rattle.masterfile.specs.declared.faults.FileKind.{FileKind}
use Rattle.masterfile.specs.declared.faults.FileKind.TheVariants.{BadNumber, BadData}

-- A number is one digit or more.
abbrev pub is_number : List ℕ → Bool
is_number [] = false
is_number (c ∷ cs) = are_digits (c ∷ cs)

abbrev pub within : ℕ → ℕ → Result ℕ FileKind
within limit n = cond (nat_le n limit) (Ok n) (Err BadNumber)

-- The number that a word writes: the fault of its form goes before that of its range.
abbrev pub number_of : ℕ → List ℕ → Result ℕ FileKind
number_of limit w = cond (is_number w) (within limit (value_from 0 w)) (Err BadData)
