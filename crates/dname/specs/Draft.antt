-- A name that is being written: the labels that are closed, and the bytes of the open one.
use Rattle.std.specs.Prelude.{◌≡◌, ℕ, ◌+◌, ◌<◌, ◌≤◌, cond, nat_le, Result, Ok, Err, List, [], ◌∷◌, ◌++◌, length}
use Rattle.dname.specs.Labels.{wire, folded, IsLabel, AreFolded}
use Rattle.dname.specs.declared.builder.Overflow.{Overflow}
use Rattle.dname.specs.declared.builder.Overflow.TheVariants.{LongLabel, LongName, Memory}

pub record Draft : Type 0 where
  pub closed : List (List ℕ)
  pub opened : List ℕ

abbrev pub empty_draft : Draft
empty_draft = record { closed = []; opened = [] }

-- A draft with one more byte in its open label, or its refusal. A label has at most 63 bytes, and a name at most 255
-- with its length bytes and closing zero (RFC 1035, section 2.3.4). Where both are too long at one byte, the label's
-- refusal counts.
abbrev pub pushed : Draft → ℕ → Result Draft Overflow
pushed d b = cond (nat_le 63 (length d.opened)) (Err LongLabel) (cond (nat_le 254 (length (wire d.closed) + 1 + length d.opened)) (Err LongName)
    (Ok (record { closed = d.closed; opened = d.opened ++ folded b ∷ [] })))

-- A draft with its open label closed.
abbrev pub shut : Draft → Draft
shut d = record { closed = d.closed ++ d.opened ∷ []; opened = [] }

-- When a draft may refuse so: for this very refusal; out of memory at any time.
abbrev pub Refuses : Overflow → Result Draft Overflow → Type 0
Refuses Memory r = Unit {0}
Refuses LongLabel r = r ≡ Err LongLabel
Refuses LongName r = r ≡ Err LongName

-- Each label has 1 to 63 bytes.
abbrev pub AllLabels : List (List ℕ) → Type 0
AllLabels [] = Unit {0}
AllLabels (l ∷ ls) = IsLabel l × AllLabels ls

-- A draft that can still become a name.
pub record IsDraft (d : Draft) : Type 0 where
  pub labels : AllLabels d.closed
  pub folded_bytes : AreFolded d.opened
  pub short : length d.opened < 64
  pub room : length (wire d.closed) + 1 ≤ 255
  pub open_room : 0 < length d.opened → length (wire d.closed) + length d.opened + 2 ≤ 255
