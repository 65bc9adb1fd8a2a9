-- The first words of a world text's lines.
use Rattle.std.specs.Prelude.{ℕ, cond, codes, List, Option, Some, None}
use Rattle.std.specs.Str.{bytes_eq}
use Rattle.world_text.specs.declared.keyword.Keyword.{Keyword}
use Rattle.world_text.specs.declared.keyword.Keyword.TheVariants.{Zone, Local, Host, Hint}

-- The keyword that a word is, letters as they stand.
abbrev pub keyword_of : List ℕ → Option Keyword
keyword_of w =
    cond (bytes_eq w (codes "zone")) (Some Zone)
    (cond (bytes_eq w (codes "local")) (Some Local)
    (cond (bytes_eq w (codes "host")) (Some Host)
    (cond (bytes_eq w (codes "hint")) (Some Hint) None)))
