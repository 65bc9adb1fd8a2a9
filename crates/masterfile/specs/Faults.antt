-- The faults of a master file, and readings one after the other.
use Rattle.std.specs.Prelude.{◌≡◌, ℕ, Result, Ok, Err, List, ◌∷◌, ◌++◌, codes, decimal}
use Rattle.masterfile.specs.declared.faults.FileError.{FileError}
use Rattle.masterfile.specs.declared.faults.FileKind.{FileKind}
use Rattle.masterfile.specs.declared.faults.FileKind.TheVariants.{UnknownType, BadName, BadNumber, NoTtl, NoOwner, OpenText, UnknownDirective, BadClass, BadData, Memory}

abbrev pub kind_number : FileKind → ℕ
kind_number UnknownType = 1
kind_number BadName = 2
kind_number BadNumber = 3
kind_number NoTtl = 4
kind_number NoOwner = 5
kind_number OpenText = 6
kind_number UnknownDirective = 7
kind_number BadClass = 8
kind_number BadData = 9
kind_number Memory = 10

abbrev pub kind_text : FileKind → List ℕ
kind_text UnknownType = codes "unknown type"
kind_text BadName = codes "bad name"
kind_text BadNumber = codes "number out of range"
kind_text NoTtl = codes "no TTL"
kind_text NoOwner = codes "no owner"
kind_text OpenText = codes "parenthesis or quote without its other half"
kind_text UnknownDirective = codes "unknown directive"
kind_text BadClass = codes "bad class"
kind_text BadData = codes "bad data"
kind_text Memory = codes "out of memory"

abbrev pub error_text : FileError → List ℕ
error_text e = codes "line " ++ decimal e.line ++ codes ": " ++ kind_text e.kind

-- The first reading decides: after a fault nothing is read.
infixl 10 ◌>>=◌
abbrev pub ◌>>=◌ : {A B : Type 0} → Result A FileKind → (A → Result B FileKind) → Result B FileKind
(Ok x) >>= f = f x
(Err e) >>= f = Err e

-- The first reading's result before those of the others, where they are read too.
abbrev pub onto : {X E : Type 0} → X → Result (List X) E → Result (List X) E
onto x (Ok xs) = Ok (x ∷ xs)
onto x (Err e) = Err e

-- When a reader may refuse so: for the fault that was read first; out of memory at any time.
abbrev pub FaultIn : {X : Type 0} → FileKind → Result X FileKind → Type 0
FaultIn Memory read = Unit {0}
FaultIn kind read = read ≡ Err kind
