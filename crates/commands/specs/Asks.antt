-- Why a query gets no reply.
use Rattle.std.specs.Prelude.{◌≡◌, ℕ, List, Option, Some, None, Result, Ok, Err}
use Rattle.std.specs.Option.{option_or}
use Rattle.dname.specs.Text.{name_of_text}
use Rattle.dname.specs.declared.text.NameError.{NameError}
use Rattle.rdata.specs.Types.{type_named}
use Rattle.rdata.specs.declared.rtype.RType.{RType}
use Rattle.commands.specs.Zones.{HoldsNoZone}
use Rattle.commands.specs.declared.fault.Fault.{Fault}
use Rattle.commands.specs.declared.fault.Fault.TheVariants.{File, Zone, Unreadable, BadName, BadType, Memory}

-- The fault of a word that is to be a name, or a type.
abbrev pub fault_of_name : Result (List (List ℕ)) NameError → Option Fault
fault_of_name (Ok n) = None
fault_of_name (Err e) = Some (BadName e)

abbrev pub fault_of_type : Option RType → Option Fault
fault_of_type (Some t) = None
fault_of_type None = Some BadType

-- The fault of the first of the words ORIGIN, NAME and TYPE that has one.
abbrev pub first_fault : List ℕ → List ℕ → List ℕ → Option Fault
first_fault origin name kind =
    option_or (fault_of_name (name_of_text origin)) (option_or (fault_of_name (name_of_text name)) (fault_of_type (type_named kind)))

-- No word has a fault, and the file holds no zone of the origin. `held` is what is known to stand at a path.
abbrev pub HasNoZone : (List ℕ → Option (Option (List ℕ))) → List ℕ → List ℕ → List ℕ → List ℕ → Fault → Type 0
HasNoZone held file origin name kind f =
    (first_fault origin name kind ≡ None) × ((o : List (List ℕ)) × (name_of_text origin ≡ Ok o) × HoldsNoZone held file o f)

-- The words' faults count before the file's. Running out of memory leaves all open.
abbrev pub IsAskFault : (List ℕ → Option (Option (List ℕ))) → List ℕ → List ℕ → List ℕ → List ℕ → Fault → Type 0
IsAskFault held file origin name kind (BadName e) = first_fault origin name kind ≡ Some (BadName e)
IsAskFault held file origin name kind BadType = first_fault origin name kind ≡ Some BadType
IsAskFault held file origin name kind (Unreadable path) = HasNoZone held file origin name kind (Unreadable path)
IsAskFault held file origin name kind (File path e) = HasNoZone held file origin name kind (File path e)
IsAskFault held file origin name kind (Zone path e) = HasNoZone held file origin name kind (Zone path e)
IsAskFault held file origin name kind Memory = Unit {0}
IsAskFault _ _ _ _ _ _ = ⊥
