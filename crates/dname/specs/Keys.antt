-- Maps whose keys are names in wire form.
use Rattle.std.specs.Prelude.{ℕ, Option, List, nat_eq, Vec}
use Rattle.std.specs.Cmp.Lexicographic.{pointwise}
use Rattle.std.specs.HashMap as hash
use Rattle.std.specs.HashMap.{HashMap}
use Rattle.dname.specs.Labels.{wire}

-- The value that a map has for these bytes.
abbrev pub at_bytes : {X S Y : Type 0} → HashMap (Vec ℕ Y) X S → List ℕ → Option X
at_bytes {Y = Y} m bs = hash.get_by (λ (k : Vec ℕ Y). pointwise nat_eq bs k.items) m

-- The value that a map has for a name.
abbrev pub at_name : {X S Y : Type 0} → HashMap (Vec ℕ Y) X S → List (List ℕ) → Option X
at_name m n = at_bytes m (wire n)
