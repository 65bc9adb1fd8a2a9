-- The asks that went out of a network, and which of them are left to be carried.
use Rattle.std.specs.Prelude.{◌≡◌, ℕ, ◌+◌, ◌-◌, ◌<◌, ◌≤◌, true, false, cond, nat_eq, Option, Some, None, List, [], ◌∷◌, length, take, option_map, slice_get, slice_set}
use Rattle.wire.specs.declared.via.Via.{Via}
use Rattle.score.specs.declared.sends.Mark.{Mark}

-- One that just went out is left.
abbrev pub left_mark : Via → Mark
left_mark way = record { way = way; is_left = true }

abbrev pub NoneLeft : List Mark → Type 0
NoneLeft [] = Unit {0}
NoneLeft (m ∷ ms) = (m.is_left ≡ false) × NoneLeft ms

-- How the asks are kept: of the first `passed` of them none is left.
pub record Passage : Type 0 where
  pub marks : List Mark
  pub passed : ℕ

-- The first ask has number 1.
abbrev pub place_of : ℕ → Option ℕ
place_of k = cond (nat_eq k 0) None (Some (k - 1))

abbrev pub mark_at : List Mark → ℕ → Option Mark
mark_at marks k = cond (nat_eq k 0) None (slice_get marks (k - 1))

-- How the ask of a number went out.
abbrev pub way_at : List Mark → ℕ → Option Via
way_at marks k = option_map (λ (m : Mark). m.way) (mark_at marks k)

abbrev pub taken : List Mark → ℕ → Option Mark → List Mark
taken marks i None = marks
taken marks i (Some m) = slice_set marks i (record m { is_left = false })

-- The ask of that number is left no more.
abbrev pub taken_off : List Mark → ℕ → List Mark
taken_off marks k = taken marks (k - 1) (mark_at marks k)

-- The lowest number of an ask that is left, where the first has number `n`.
abbrev pub lowest_from : ℕ → List Mark → Option ℕ
lowest_from n [] = None
lowest_from n (m ∷ ms) = cond m.is_left (Some n) (lowest_from (n + 1) ms)

abbrev pub lowest : List Mark → Option ℕ
lowest marks = lowest_from 1 marks

-- The lowest one stands at that place, behind so many of which none is left.
pub record IsLowest (marks : List Mark) (passed place : ℕ) : Type 0 where
  pub inside : place < length marks
  pub behind : passed ≤ place
  pub none : NoneLeft (take place marks)
  pub mark : Mark
  pub stands : slice_get marks place ≡ Some mark
  pub left : mark.is_left ≡ true
