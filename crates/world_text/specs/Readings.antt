-- What a world text says, line by line.
use Rattle.std.specs.Prelude.{ℕ, cond, codes, Option, Some, None, Result, Ok, Err, List, [], ◌∷◌, ◌++◌}
use Rattle.std.specs.Str.{bytes_eq}
use Rattle.world_truth.specs.Worlds.{Address, Host}
use Rattle.text_lines.specs.declared.fault.LineKind.{LineKind}
use Rattle.text_lines.specs.declared.fault.LineKind.TheVariants.{OpenBlock}
use Rattle.text_lines.specs.declared.fault.LineError.{LineError}
use Rattle.text_lines.specs.Faults.{◌>>=◌}
use Rattle.text_lines.specs.Lines.{lines}
use Rattle.text_lines.specs.Texts.{stated_words, at_line, line_behind, ◌>>◌}
use Rattle.world_text.specs.WorldTexts.{Block}
use Rattle.world_text.specs.Places.{with_host}
use Rattle.world_text.specs.Statements.{Statement, opens, serves, starts, stated}

-- The blocks, servers and hints that a text names, in their order.
pub record Said : Type 0 where
  pub blocks : List Block
  pub hosts : List Host
  pub hints : List Address

-- Where a reader of a text stands.
pub data Reading : Type 0 where
  -- outside of blocks, after what was said
  outside : Said → Reading
  -- in a block, which has that text so far
  inside : Said → Block → Reading

-- ---- Outside of blocks.

-- What is said with a statement on the line of that number.
abbrev pub after : ℕ → Said → Option Statement → Reading
after n s None = outside s
after n s (Some (opens is_local origin)) = inside s (record { origin = origin; is_local = is_local; line = n; text = [] })
after n s (Some (serves host)) = outside (record s { hosts = with_host host s.hosts })
after n s (Some (starts address)) = outside (record s { hints = s.hints ++ address ∷ [] })

-- ---- Inside of a block.

abbrev pub with_block : Said → Block → Said
with_block s b = record s { blocks = s.blocks ++ b ∷ [] }

abbrev pub longer : Block → List ℕ → Block
longer b line = record b { text = b.text ++ (line ++ 10 ∷ []) }

-- ---- A text.

-- In a block, a line that is exactly `end` ends it, and any other one is of its text.
abbrev pub line_read : ℕ → Reading → List ℕ → Result Reading LineKind
line_read n (outside s) line = stated (stated_words line) >>= λ found. Ok (after n s found)
line_read n (inside s b) line = Ok (cond (bytes_eq line (codes "end")) (outside (with_block s b)) (inside s (longer b line)))

-- A block without its end is refused by the line that opens it.
abbrev pub finished : Reading → Result Said LineError
finished (outside s) = Ok s
finished (inside s b) = Err (record { line = b.line; kind = OpenBlock })

abbrev pub read_from : ℕ → Reading → List (List ℕ) → Result Said LineError
read_from n r [] = finished r
read_from n r (l ∷ ls) = at_line n (line_read n r l) >> λ next. read_from (line_behind n) next ls

abbrev pub nothing_yet : Said
nothing_yet = record { blocks = []; hosts = []; hints = [] }

abbrev pub said_in : List ℕ → Result Said LineError
said_in text = read_from 1 (outside nothing_yet) (lines text)
