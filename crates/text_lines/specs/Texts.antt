-- What a text of lines says, line by line: the first line that is refused counts.
use Rattle.std.specs.Prelude.{◌≡◌, ◌⊎◌, ℕ, ◌+◌, ◌-◌, ◌^◌, ◌==◌, min, cond, Result, Ok, Err, List, [], ◌∷◌}
use Rattle.text_lines.specs.declared.fault.LineKind.{LineKind}
use Rattle.text_lines.specs.declared.fault.LineKind.TheVariants.{Memory}
use Rattle.text_lines.specs.declared.fault.LineError.{LineError}
use Rattle.text_lines.specs.Lines.{words}

-- The words of a line; one that begins with a semicolon says nothing.
abbrev pub stated_words : List ℕ → List (List ℕ)
stated_words [] = []
stated_words (c ∷ cs) = cond (c == 59) [] (words (c ∷ cs))

abbrev pub at_line : {X : Type 0} → ℕ → Result X LineKind → Result X LineError
at_line n (Ok x) = Ok x
at_line n (Err k) = Err (record { line = n; kind = k })

-- Lines are counted up to 2^64 - 1.
abbrev pub line_behind : ℕ → ℕ
line_behind n = min (n + 1) (2 ^ 64 - 1)

infixl 10 ◌>>◌
abbrev pub ◌>>◌ : {X Y : Type 0} → Result X LineError → (X → Result Y LineError) → Result Y LineError
Ok x >> f = f x
Err e >> f = Err e

-- What is said by lines from one of this number on: `said` by the words of one more, `finished` behind the last.
abbrev pub said_from : {X Y : Type 0} → (X → List (List ℕ) → Result X LineKind) → (X → Result Y LineKind) → ℕ → X → List (List ℕ) → Result Y LineError
said_from said finished n x [] = at_line n (finished x)
said_from said finished n x (l ∷ ls) = at_line n (said x (stated_words l)) >> λ next. said_from said finished (line_behind n) next ls

-- What is said of a refusal: it is the fault that stands there, or memory was wanting.
abbrev pub IsTextFault : {X : Type 0} → LineError → Result X LineError → Type 0
IsTextFault e r = (e.kind ≡ Memory) ⊎ (r ≡ Err e)
