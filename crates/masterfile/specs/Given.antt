-- The result of a reader of fields, and the words that it leaves.
use Rattle.std.specs.Prelude.{◌≡◌, Result, Ok, Err, Option, List}
use Rattle.master_lexer.specs.Lexemes.{Word}
use Rattle.masterfile.specs.declared.faults.FileKind.{FileKind}
use Rattle.rdata.specs.Records.{Record}
use Rattle.masterfile.specs.declared.entries.Head.{Head}
use Rattle.masterfile.specs.Entries.{Context, Head as HeadSpec}
use Rattle.masterfile.specs.Faults.{FaultIn}

abbrev pub GivesRest : {X Y : Type 0} → (X → Y) → Result X FileKind → List Word → Result (Y × List Word) FileKind → Type 0
GivesRest view (Ok x) rest read = read ≡ Ok (view x, rest)
GivesRest view (Err e) rest read = FaultIn e read

-- A reader that takes no memory: each refusal is the fault that was read.
abbrev pub ReadsRest : {X Y : Type 0} → (X → Y) → Result X FileKind → List Word → Result (Y × List Word) FileKind → Type 0
ReadsRest view (Ok x) rest read = read ≡ Ok (view x, rest)
ReadsRest view (Err e) rest read = read ≡ Err e

abbrev pub same : {X : Type 0} → X → X
same x = x

-- A head, and the words that it leaves.
abbrev pub GivesHead : Result Head FileKind → List Word → Result HeadSpec FileKind → Type 0
GivesHead (Ok h) rest read = read ≡ Ok (record { ttl = h.ttl; kind = h.kind; rest = rest })
GivesHead (Err e) rest read = read ≡ Err e

-- The result of an entry, and the state that it leaves to the later ones.
abbrev pub GivesEntry : Result (Option Record) FileKind → Context → Result (Option Record × Context) FileKind → Type 0
GivesEntry (Ok r) after read = read ≡ Ok (r, after)
GivesEntry (Err e) after read = FaultIn e read

abbrev pub GivesContext : Result Unit FileKind → Context → Result Context FileKind → Type 0
GivesContext (Ok _) after read = read ≡ Ok after
GivesContext (Err e) after read = FaultIn e read
