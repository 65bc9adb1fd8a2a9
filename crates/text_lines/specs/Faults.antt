-- Refusals of a line, their numbers and words.
use Rattle.std.specs.Prelude.{◌≡◌, ◌⊎◌, ℕ, List, ◌++◌, Result, Ok, Err, codes, decimal}
use Rattle.dname.specs.declared.text.NameError.{NameError}
use Rattle.dname.specs.declared.text.NameError.TheVariants as name_error
use Rattle.text_lines.specs.declared.fault.LineError.{LineError}
use Rattle.text_lines.specs.declared.fault.LineKind.{LineKind}
use Rattle.text_lines.specs.declared.fault.LineKind.TheVariants.{UnknownWord, BadNumber, BadName, BadType, WordCount, BadHex, OpenBlock, BadAddress, Memory}

abbrev pub line_fault_number : LineKind → ℕ
line_fault_number UnknownWord = 1
line_fault_number BadNumber = 2
line_fault_number BadName = 3
line_fault_number BadType = 4
line_fault_number WordCount = 5
line_fault_number BadHex = 6
line_fault_number OpenBlock = 7
line_fault_number BadAddress = 8
line_fault_number Memory = 9

abbrev pub kind_text : LineKind → List ℕ
kind_text UnknownWord = codes "a first word that opens no line"
kind_text BadNumber = codes "a bad number"
kind_text BadName = codes "a bad name"
kind_text BadType = codes "a type that is not served"
kind_text WordCount = codes "a word missing or left over"
kind_text BadHex = codes "bad hexadecimal digits"
kind_text OpenBlock = codes "a block without its end"
kind_text BadAddress = codes "a bad address"
kind_text Memory = codes "out of memory"

abbrev pub error_text : LineError → List ℕ
error_text e = codes "line " ++ decimal e.line ++ codes ": " ++ kind_text e.kind

abbrev pub kind_of_name : NameError → LineKind
kind_of_name name_error.Memory = Memory
kind_of_name _ = BadName

-- What is said of a refusal: it is the fault that stands there, or memory was wanting.
abbrev pub IsLineFault : {X : Type 0} → LineKind → Result X LineKind → Type 0
IsLineFault e r = (e ≡ Memory) ⊎ (r ≡ Err e)

-- A step behind another: the first fault counts.
infixl 10 ◌>>=◌
abbrev pub ◌>>=◌ : {X Y : Type 0} → Result X LineKind → (X → Result Y LineKind) → Result Y LineKind
Ok x >>= f = f x
Err e >>= f = Err e
