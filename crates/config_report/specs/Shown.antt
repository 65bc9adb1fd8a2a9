-- Texts of files, as they are shown at a terminal.
use Rattle.std.specs.Prelude.{ℕ, ◌&&◌, cond, nat_eq, nat_le, List, [], ◌∷◌, flat_map}
use Rattle.dname.specs.Text.{number_text}

-- A tab or a printable byte as it is; of another one three digits behind a backslash.
abbrev pub shown_byte : ℕ → List ℕ
shown_byte b = cond (nat_eq b 9) (b ∷ []) (cond (nat_le 32 b && nat_le b 126) (b ∷ []) (number_text b))

abbrev pub shown_text : List ℕ → List ℕ
shown_text text = flat_map shown_byte text
