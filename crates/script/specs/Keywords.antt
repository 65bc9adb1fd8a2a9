-- The words that scripts are made of, letters as they stand.
use Rattle.std.specs.Prelude.{ℕ, cond, codes, List, Option, Some, None}
use Rattle.std.specs.Str.{bytes_eq}
use Rattle.script.specs.declared.keyword.Keyword.{Keyword}
use Rattle.script.specs.declared.keyword.Keyword.TheVariants.{At, Ask, Raw, Carry, Truncate, Lose, Run, Tick}
use Rattle.script.specs.declared.keyword.Scope.{Scope}
use Rattle.script.specs.declared.keyword.Scope.TheVariants.{Whole, Asks}
use Rattle.script.specs.declared.mark.Mark.{Mark}
use Rattle.script.specs.declared.mark.Mark.TheVariants.{Tcp, Norec}

-- A line's first word.
abbrev pub keyword_of : List ℕ → Option Keyword
keyword_of w =
    cond (bytes_eq w (codes "at")) (Some At)
    (cond (bytes_eq w (codes "ask")) (Some Ask)
    (cond (bytes_eq w (codes "raw")) (Some Raw)
    (cond (bytes_eq w (codes "carry")) (Some Carry)
    (cond (bytes_eq w (codes "cut")) (Some Truncate)
    (cond (bytes_eq w (codes "lose")) (Some Lose)
    (cond (bytes_eq w (codes "run")) (Some Run)
    (cond (bytes_eq w (codes "tick")) (Some Tick) None)))))))

-- One that a script of asks may have: `at` or `ask`.
abbrev pub asking : Keyword → Option Keyword
asking At = Some At
asking Ask = Some Ask
asking _ = None

abbrev pub if_asking : Option Keyword → Option Keyword
if_asking (Some k) = asking k
if_asking None = None

-- A line's first word, in such a script.
abbrev pub keyword_in : Scope → List ℕ → Option Keyword
keyword_in Whole w = keyword_of w
keyword_in Asks w = if_asking (keyword_of w)

-- A word at a line's end.
abbrev pub mark_of : List ℕ → Option Mark
mark_of w = cond (bytes_eq w (codes "tcp")) (Some Tcp) (cond (bytes_eq w (codes "norec")) (Some Norec) None)
