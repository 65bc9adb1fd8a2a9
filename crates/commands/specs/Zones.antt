-- The records and the zone that a text holds, and why it holds none.
use Rattle.std.specs.Prelude.{◌≡◌, ℕ, List, Option, Some, None, Ok, Err}
use Rattle.rdata.specs.Records.{Record}
use Rattle.masterfile.specs.Files.{read_text}
use Rattle.zone.specs.Zones.{Zone as ZoneSpec}
use Rattle.zone.specs.Kept.{zone_with}
use Rattle.zone.specs.Faults.{fault_of}
use Rattle.commands.specs.Texts.{MayHold}
use Rattle.commands.specs.declared.fault.Fault.{Fault}
use Rattle.commands.specs.declared.fault.Fault.TheVariants.{File, Zone, Script, Block, World, Unreadable, BadName, BadType, Settings, Memory, Pool, Socket, Threads, Output}

-- The text is there, and it is read as these records.
abbrev pub HoldsRecords : Option (Option (List ℕ)) → List (List ℕ) → List Record → Type 0
HoldsRecords known origin records = (text : List ℕ) × MayHold known (Some text) × (read_text origin text ≡ Ok records)

-- The first of these that fails, told under the path that was asked for. `held` is what is known to stand at a path. Want
-- of memory leaves all open.
abbrev pub HoldsNoRecords : (List ℕ → Option (Option (List ℕ))) → List ℕ → List (List ℕ) → Fault → Type 0
HoldsNoRecords held file origin (Unreadable path) = (path.now ≡ file) × MayHold (held file) None
HoldsNoRecords held file origin (File path e) = (path.now ≡ file) × ((text : List ℕ) × MayHold (held file) (Some text) × (read_text origin text ≡ Err e))
HoldsNoRecords held file origin Memory = Unit {0}
HoldsNoRecords _ _ _ _ = ⊥

-- The text's records meet the rules of a zone.
abbrev pub HoldsZone : Option (Option (List ℕ)) → List (List ℕ) → ZoneSpec → Type 0
HoldsZone known origin zone =
    (records : List Record) × HoldsRecords known origin records × (fault_of (zone_with origin records) ≡ None) × (zone ≡ zone_with origin records)

abbrev pub HoldsNoZone : (List ℕ → Option (Option (List ℕ))) → List ℕ → List (List ℕ) → Fault → Type 0
HoldsNoZone held file origin (Unreadable path) = HoldsNoRecords held file origin (Unreadable path)
HoldsNoZone held file origin (File path e) = HoldsNoRecords held file origin (File path e)
HoldsNoZone held file origin (Zone path e) =
    (path.now ≡ file) × ((records : List Record) × HoldsRecords (held file) origin records × (fault_of (zone_with origin records) ≡ Some e))
HoldsNoZone held file origin Memory = Unit {0}
HoldsNoZone held file origin (BadName e) = ⊥
HoldsNoZone held file origin BadType = ⊥
HoldsNoZone held file origin Output = ⊥
HoldsNoZone held file origin Settings = ⊥
HoldsNoZone held file origin Socket = ⊥
HoldsNoZone held file origin (Pool e) = ⊥
HoldsNoZone held file origin Threads = ⊥
HoldsNoZone held file origin (Script path e) = ⊥
HoldsNoZone held file origin (Block path line e) = ⊥
HoldsNoZone held file origin (World path e) = ⊥
