-- A text parted into lines, and a line into words.
use Rattle.std.specs.Prelude.{◌≡◌, ◌⊎◌, ℕ, ◌==◌, Bool, ◌||◌, cond, List, [], ◌∷◌, ◌++◌}

abbrev pub is_blank : ℕ → Bool
is_blank c = c == 32 || c == 9

abbrev pub is_line_end : ℕ → Bool
is_line_end c = c == 10

abbrev pub onto_first : ℕ → List (List ℕ) → List (List ℕ)
onto_first c [] = (c ∷ []) ∷ []
onto_first c (p ∷ ps) = (c ∷ p) ∷ ps

-- The pieces that bytes of one kind end. The last piece may lack its end; no empty one stands behind the last end.
abbrev pub parted : (ℕ → Bool) → List ℕ → List (List ℕ)
parted ends [] = []
parted ends (c ∷ cs) = cond (ends c) ([] ∷ parted ends cs) (onto_first c (parted ends cs))

abbrev pub lines : List ℕ → List (List ℕ)
lines text = parted is_line_end text

-- The first line of a text that is not empty, and the text behind its end; the last line may lack its end.
pub record IsFirstLine (text line behind : List ℕ) : Type 0 where
  pub first : lines text ≡ line ∷ lines behind
  pub splits : (text ≡ line ++ 10 ∷ behind) ⊎ ((text ≡ line) × (behind ≡ []))

abbrev pub without_empty : List (List ℕ) → List (List ℕ)
without_empty [] = []
without_empty ([] ∷ ps) = without_empty ps
without_empty ((c ∷ cs) ∷ ps) = (c ∷ cs) ∷ without_empty ps

-- The words of a line: what stands between spaces and tabs.
abbrev pub words : List ℕ → List (List ℕ)
words line = without_empty (parted is_blank line)
