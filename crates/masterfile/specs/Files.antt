-- The records of a master file, or its first fault.
use Rattle.std.specs.Prelude.{◌≡◌, ℕ, Option, Some, None, Result, Ok, Err, List, [], ◌∷◌}
use Rattle.rdata.specs.Records.{Record}
use Rattle.master_lexer.specs.Entries.{Entry, entries_from}
use Rattle.masterfile.specs.declared.faults.FileKind.{FileKind}
use Rattle.masterfile.specs.declared.faults.FileKind.TheVariants.{Memory}
use Rattle.masterfile.specs.declared.faults.FileError.{FileError}
use Rattle.masterfile.specs.Faults.{onto}
use Rattle.masterfile.specs.Entries.{Context, entry_in}

abbrev pub start : List (List ℕ) → Context
start origin = record { origin = origin; owner = None; standing = None; stated = None }

-- The record of an entry that has one.
abbrev pub listed : Option Record → List Record
listed None = []
listed (Some r) = r ∷ []

abbrev pub with_record : Option Record → Result (List Record) FileError → Result (List Record) FileError
with_record None rs = rs
with_record (Some r) rs = onto r rs

-- An entry's fault has the line on which it starts; without one the later entries are read.
abbrev pub after_entry : (Context → Result (List Record) FileError) → ℕ → Result (Option Record × Context) FileKind → Result (List Record) FileError
after_entry go line (Ok found) = with_record found.0 (go found.1)
after_entry go line (Err kind) = Err (record { line = line; kind = kind })

abbrev pub read_from : Context → List Entry → Result (List Record) FileError
read_from c [] = Ok []
read_from c (e ∷ es) = after_entry (λ next. read_from next es) e.line (entry_in c e.lead e.words)

-- The records of a text whose first line has this number.
abbrev pub read_lines : List (List ℕ) → ℕ → List ℕ → Result (List Record) FileError
read_lines origin line text = read_from (start origin) (entries_from line text)

abbrev pub read_text : List (List ℕ) → List ℕ → Result (List Record) FileError
read_text origin text = read_lines origin 1 text

-- When `read` may refuse so: for the first fault, at its line; out of memory at any time.
abbrev pub IsFirstFault : FileKind → FileError → Result (List Record) FileError → Type 0
IsFirstFault Memory e read = Unit {0}
IsFirstFault kind e read = read ≡ Err e
