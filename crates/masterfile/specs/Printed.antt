-- Records as a zone text (RFC 1035, section 5.1).
use Rattle.std.specs.Prelude.{ℕ, List, ◌++◌, flat_map, codes}
use Rattle.dname.specs.Text.{name_text}
use Rattle.rdata.specs.Text.{record_text}
use Rattle.rdata.specs.Records.{Record}

-- A record's line, with its end.
abbrev pub line_text : Record → List ℕ
line_text r = record_text r ++ codes "\n"

-- The origin's line, then a line a record.
abbrev pub file_text : List (List ℕ) → List Record → List ℕ
file_text origin rs = codes "$ORIGIN " ++ name_text origin ++ codes "\n" ++ flat_map line_text rs
