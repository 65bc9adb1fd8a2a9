-- What is printed of a file, and why nothing is.
use Rattle.std.specs.Prelude.{◌≡◌, ℕ, List, ◌++◌, length, Option, Ok, Err, codes, decimal}
use Rattle.dname.specs.Text.{name_of_text}
use Rattle.rdata.specs.Records.{Record}
use Rattle.masterfile.specs.Printed.{file_text}
use Rattle.zone.specs.Zones.{Zone as ZoneSpec}
use Rattle.commands.specs.Zones.{HoldsRecords, HoldsNoRecords, HoldsZone, HoldsNoZone}
use Rattle.commands.specs.declared.fault.Fault.{Fault}
use Rattle.commands.specs.declared.fault.Fault.TheVariants.{File, Zone, Unreadable, BadName, Memory}

-- The number of records of the zone that the file holds.
abbrev pub CountsRecords : Option (Option (List ℕ)) → List ℕ → List ℕ → Type 0
CountsRecords known origin text = (o : List (List ℕ)) × (zone : ZoneSpec) × (name_of_text origin ≡ Ok o) × HoldsZone known o zone
    × (text ≡ codes "ok " ++ (decimal (length zone.records) ++ codes " records\n"))

-- The file's records, printed.
abbrev pub PrintsRecords : Option (Option (List ℕ)) → List ℕ → List ℕ → Type 0
PrintsRecords known origin text =
    (o : List (List ℕ)) × (records : List Record) × (name_of_text origin ≡ Ok o) × HoldsRecords known o records × (text ≡ file_text o records)

-- The word is no name, or the file holds no zone of that origin. `held` is what is known to stand at a path.
abbrev pub IsNoZone : (List ℕ → Option (Option (List ℕ))) → List ℕ → List ℕ → Fault → Type 0
IsNoZone held file origin (BadName e) = name_of_text origin ≡ Err e
IsNoZone held file origin (Unreadable path) = (o : List (List ℕ)) × (name_of_text origin ≡ Ok o) × HoldsNoZone held file o (Unreadable path)
IsNoZone held file origin (File path e) = (o : List (List ℕ)) × (name_of_text origin ≡ Ok o) × HoldsNoZone held file o (File path e)
IsNoZone held file origin (Zone path e) = (o : List (List ℕ)) × (name_of_text origin ≡ Ok o) × HoldsNoZone held file o (Zone path e)
IsNoZone held file origin Memory = Unit {0}
IsNoZone _ _ _ _ = ⊥

-- The word is no name, or the file holds no records.
abbrev pub IsNoFile : (List ℕ → Option (Option (List ℕ))) → List ℕ → List ℕ → Fault → Type 0
IsNoFile held file origin (BadName e) = name_of_text origin ≡ Err e
IsNoFile held file origin (Unreadable path) = (o : List (List ℕ)) × (name_of_text origin ≡ Ok o) × HoldsNoRecords held file o (Unreadable path)
IsNoFile held file origin (File path e) = (o : List (List ℕ)) × (name_of_text origin ≡ Ok o) × HoldsNoRecords held file o (File path e)
IsNoFile held file origin Memory = Unit {0}
IsNoFile _ _ _ _ = ⊥
