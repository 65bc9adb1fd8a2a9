-- What `check-config` leaves behind, and what it says.
use Rattle.std.specs.Prelude.{◌≡◌, ◌⊎◌, ℕ, ◌+◌, ◌-◌, ◌^◌, List, ◌++◌, Option, Some, None, Ok, Err, codes, decimal, fold, length, min}
use Rattle.std.specs.Io.KnownBytes.{Appends}
use Rattle.dname.specs.Labels.{Name}
use Rattle.rdata.specs.Records.{Record}
use Rattle.rdata.specs.Text.{ipv4_text}
use Rattle.masterfile.specs.Files.{read_text}
use Rattle.zone.specs.Zones.{Zone as ZoneSpec}
use Rattle.zone.specs.Kept.{zone_with}
use Rattle.zone.specs.declared.fault.ZoneError.{ZoneError}
use Rattle.config.specs.Configs.{Config, End, config_of}
use Rattle.config_report.specs.Reports.{file_report_text, line_report_text}
use Rattle.config_report.specs.Culprits.{zone_report_text}
use Rattle.config_report.specs.Notes.{notes_text, total_text}
use Rattle.commands.specs.Faults.{fault_line, status_of}
use Rattle.commands.specs.Servers.{AreZonesIn, IsStartFault, IsUnbound, IsUnmade}
use Rattle.commands.specs.Texts.{MayHold}
use Rattle.commands.specs.Zones.{HoldsRecords}
use Rattle.commands.specs.declared.fault.Fault.{Fault}
use Rattle.commands.specs.declared.fault.Fault.TheVariants.{File, Zone, Script, Block, World, Unreadable, BadName, BadType, Settings, Memory, Pool, Socket, Threads, Output}

-- ---- A file that is taken.

-- How many records the zones have, as far as 64 bits count.
abbrev pub records_in : List ZoneSpec → ℕ
records_in zones = fold (λ (n : ℕ) (z : ZoneSpec). min (n + length z.records) (2 ^ 64 - 1)) 0 zones

-- What may not be meant, and then what the file makes.
abbrev pub summary_text : Config → List ZoneSpec → List ℕ
summary_text c zones = notes_text c ++ total_text (length zones) (records_in zones) (length c.hints)

-- The text is the summary of the file with the zones that it names. `held` is what is known to stand at a path.
pub record IsSummary (held : List ℕ → Option (Option (List ℕ))) (config : Config) (text : List ℕ) : Type 0 where
  pub zones : List ZoneSpec
  pub local : AreZonesIn held config.locals zones
  pub is : text ≡ summary_text config zones

-- The text is the summary of the file at this path.
pub record PassesCheck (held : List ℕ → Option (Option (List ℕ))) (path text : List ℕ) : Type 0 where
  pub file : List ℕ
  pub there : MayHold (held path) (Some file)
  pub config : Config
  pub reads : config_of file ≡ Ok config
  pub is : IsSummary held config text

-- ---- A file that is refused.

-- What it is about, and a reason in the words of the system.
abbrev pub HasReason : List ℕ → List ℕ → Type 0
HasReason about words = (reason : List ℕ) × (words ≡ about ++ codes ": " ++ reason ++ codes "\n")

-- A line of the file that names an address and a port.
abbrev pub end_text : List ℕ → End → List ℕ
end_text word e = word ++ codes " " ++ ipv4_text e.address ++ codes " " ++ decimal e.port

-- The words are of such a line, `listen` or `metrics`.
abbrev pub TellsUnbound : List ℕ → Type 0
TellsUnbound words = (word : List ℕ) × ((word ≡ codes "listen") ⊎ (word ≡ codes "metrics")) × ((end : End) × HasReason (end_text word end) words)

-- The words that go with a fault: of a line of a file that stands at the fault's path, of records that stand there, or
-- of what the system says, in its words. Where memory is wanting nothing is said of them.
abbrev pub Explains : (List ℕ → Option (Option (List ℕ))) → Fault → List ℕ → Type 0
Explains held (Script path e) words = (text : List ℕ) × MayHold (held path.now) (Some text) × (words ≡ line_report_text path.now text e)
Explains held (File path e) words = (text : List ℕ) × MayHold (held path.now) (Some text) × (words ≡ file_report_text path.now text e)
Explains held (Zone path e) words =
    (origin : Name) × (records : List Record) × HoldsRecords (held path.now) origin records × (words ≡ zone_report_text path.now (zone_with origin records) e)
Explains held (Unreadable path) words = HasReason path.now words
Explains held Settings words = words ≡ codes "the resolver refuses what the file sets\n"
Explains held Socket words = TellsUnbound words
Explains held Memory words = Unit {0}
Explains held (BadName e) words = ⊥
Explains held BadType words = ⊥
Explains held (Block path line e) words = ⊥
Explains held (World path e) words = ⊥
Explains held (Pool e) words = ⊥
Explains held Threads words = ⊥
Explains held Output words = ⊥

-- A refusal has this fault and words of this kind, or memory was wanting.
abbrev pub Tells : Fault → (List ℕ → Type 0) → Fault → List ℕ → Type 0
Tells f says fault words = ((fault ≡ f) × says words) ⊎ (fault ≡ Memory)

-- The words are of the records of this text, which break that rule.
abbrev pub TellsRule : List ℕ → Name → List ℕ → ZoneError → List ℕ → Type 0
TellsRule path origin text e words = (records : List Record) × (read_text origin text ≡ Ok records) × (words ≡ zone_report_text path (zone_with origin records) e)

-- The words that go with a file of which no resolver is made, though its zones are read.
abbrev pub TellsUnmade : Fault → List ℕ → Type 0
TellsUnmade (Unreadable path) words = HasReason path.now words
TellsUnmade f words = words ≡ codes "the resolver refuses what the file sets\n"

-- The file is read and makes no resolver, or its sockets are not bound.
abbrev pub IsUnstarted : (List ℕ → Option (Option (List ℕ))) → Config → Fault → Type 0
IsUnstarted held config f = IsStartFault held config f ⊎ IsUnbound f

-- No resolver is made, or its sockets are not bound, and the words say so, whatever is known of paths.
abbrev pub TellsUnstarted : Config → Fault → List ℕ → Type 0
TellsUnstarted c f words = (IsUnmade c f ⊎ IsUnbound f) × ((held : List ℕ → Option (Option (List ℕ))) → Explains held f words)

-- The words were written, and the line of the fault, whose status was given; 4 where either could not be.
abbrev pub IsTold : Fault → List ℕ → Option (List ℕ) → Option (List ℕ) → Option (List ℕ) → Option (List ℕ) → ℕ → Type 0
IsTold f words out out2 err err2 n = ((n ≡ status_of f) × Appends out out2 words × Appends err err2 (fault_line f)) ⊎ (n ≡ 4)

-- ---- What comes of a command whose refusals have words.

-- What is done printed one of these texts; what is not has one of these faults, and words that go with it.
abbrev pub IsRunInWords : (List ℕ → Type 0) → (Fault → Type 0) → (Fault → List ℕ → Type 0) → Option (List ℕ) → Option (List ℕ) → Option (List ℕ) → Option (List ℕ) → ℕ → Type 0
IsRunInWords texts faults explains out out2 err err2 n =
    ((text : List ℕ) × texts text × (((n ≡ 0) × Appends out out2 text × (err2 ≡ err)) ⊎ (n ≡ 4)))
    ⊎ ((f : Fault) × (words : List ℕ) × faults f × explains f words × IsTold f words out out2 err err2 n)
