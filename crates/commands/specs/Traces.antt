-- What is known where a trace was printed, and why none is.
use Rattle.std.specs.Prelude.{◌≡◌, ◌⊎◌, ℕ, List, Option, Some, None, Ok}
use Rattle.std.specs.Option.{option_or}
use Rattle.dname.specs.Labels.{Name}
use Rattle.dname.specs.Text.{name_of_text}
use Rattle.rdata.specs.Types.{type_named}
use Rattle.rdata.specs.declared.rtype.RType.{RType}
use Rattle.commands.specs.Asks.{fault_of_name, fault_of_type}
use Rattle.commands.specs.Servers.{HoldsConfig, IsNoServer}
use Rattle.commands.specs.declared.fault.Fault.{Fault}
use Rattle.commands.specs.declared.fault.Fault.TheVariants.{Memory}

-- The fault of the first of the words NAME and TYPE that has one.
abbrev pub word_fault : List ℕ → List ℕ → Option Fault
word_fault name kind = option_or (fault_of_name (name_of_text name)) (fault_of_type (type_named kind))

-- Running out of memory leaves all open.
abbrev pub IsWordFault : List ℕ → List ℕ → Fault → Type 0
IsWordFault name kind f = (word_fault name kind ≡ Some f) ⊎ (f ≡ Memory)

-- The words are a name and a type.
abbrev pub ReadsWords : List ℕ → List ℕ → Type 0
ReadsWords name kind = word_fault name kind ≡ None

-- The words and the file are read. What the lines say of a network is not told here.
abbrev pub IsTrace : Option (Option (List ℕ)) → List ℕ → List ℕ → List ℕ → Type 0
IsTrace known name kind text = ReadsWords name kind × HoldsConfig known

-- The words' faults count before those of the file. `held` is what is known to stand at a path.
abbrev pub IsNoTrace : (List ℕ → Option (Option (List ℕ))) → List ℕ → List ℕ → List ℕ → Fault → Type 0
IsNoTrace held path name kind f = IsWordFault name kind f ⊎ (ReadsWords name kind × IsNoServer held path f)
