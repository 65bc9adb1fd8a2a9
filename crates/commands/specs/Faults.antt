-- The faults of commands: their lines, their exit statuses, and which refusal is which fault.
use Rattle.std.specs.Prelude.{◌≡◌, ◌⊎◌, ℕ, List, ◌++◌, Option, codes, decimal}
use Rattle.std.specs.Io.KnownBytes.{Appends}
use Rattle.std.specs.Borrow.{Bor}
use Rattle.dname.specs.Text.{fault_number}
use Rattle.dname.specs.declared.text.NameError.{NameError}
use Rattle.dname.specs.declared.text.NameError.TheVariants.{Memory as name_memory}
use Rattle.masterfile.specs.Faults.{kind_number}
use Rattle.masterfile.specs.declared.faults.FileKind.{FileKind}
use Rattle.masterfile.specs.declared.faults.FileKind.TheVariants.{Memory as kind_memory}
use Rattle.masterfile.specs.declared.faults.FileError.{FileError}
use Rattle.zone.specs.Faults.{fault_number as zone_number}
use Rattle.zone.specs.declared.fault.ZoneError.{ZoneError}
use Rattle.zone.specs.declared.fault.ZoneError.TheVariants.{Memory as zone_memory}
use Rattle.text_lines.specs.Faults.{line_fault_number}
use Rattle.text_lines.specs.declared.fault.LineKind.{LineKind}
use Rattle.text_lines.specs.declared.fault.LineKind.TheVariants.{Memory as line_memory}
use Rattle.text_lines.specs.declared.fault.LineError.{LineError}
use Rattle.worlds.specs.Refusals.{world_fault_number}
use Rattle.worlds.specs.declared.fault.WorldError.{WorldError}
use Rattle.worlds.specs.declared.fault.WorldError.TheVariants.{Memory as world_memory}
use Rattle.pool.specs.Faults.{pool_fault_number}
use Rattle.pool.specs.declared.fault.PoolError.{PoolError}
use Rattle.pool.specs.declared.fault.PoolError.TheVariants as threads
use Rattle.world_text.specs.declared.world_fault.WorldFault.{WorldFault}
use Rattle.world_text.specs.declared.world_fault.WorldFault.TheVariants as of
use Rattle.commands.specs.declared.fault.Fault.{Fault}
use Rattle.commands.specs.declared.fault.Fault.TheVariants.{File, Zone, Script, Block, World, Unreadable, BadName, BadType, Settings, Memory, Pool, Socket, Threads, Output}

-- What stands behind `error: `.
abbrev pub fault_text : Fault → List ℕ
fault_text (File path e) = path.now ++ codes ":" ++ decimal e.line ++ codes ": file " ++ decimal (kind_number e.kind)
fault_text (Zone path e) = path.now ++ codes ": zone " ++ decimal (zone_number e)
fault_text (Script path e) = path.now ++ codes ":" ++ decimal e.line ++ codes ": script " ++ decimal (line_fault_number e.kind)
fault_text (Block path line e) = path.now ++ codes ":" ++ decimal line ++ codes ": zone " ++ decimal (zone_number e)
fault_text (World path e) = path.now ++ codes ": world " ++ decimal (world_fault_number e)
fault_text (Unreadable path) = path.now ++ codes ": unreadable"
fault_text (BadName e) = codes "name " ++ decimal (fault_number e)
fault_text BadType = codes "type"
fault_text Settings = codes "settings"
fault_text Memory = codes "memory"
fault_text Socket = codes "socket"
fault_text (Pool e) = codes "pool " ++ decimal (pool_fault_number e)
fault_text Threads = codes "threads"
fault_text Output = codes "output"

-- 1 where the input is refused, 3 when out of memory, 4 for what the system refuses: a file, a socket, a thread, output.
abbrev pub status_of : Fault → ℕ
status_of (Unreadable path) = 4
status_of Memory = 3
status_of Socket = 4
status_of Threads = 4
status_of Output = 4
status_of _ = 1

-- The line of a fault.
abbrev pub fault_line : Fault → List ℕ
fault_line f = codes "error: " ++ fault_text f ++ codes "\n"

-- The line of a fault was written, and its status given; 4 where it could not be.
abbrev pub IsReported : Fault → Option (List ℕ) → Option (List ℕ) → ℕ → Type 0
IsReported f err err2 n = ((n ≡ status_of f) × Appends err err2 (fault_line f)) ⊎ (n ≡ 4)

-- Running out of memory is one fault, wherever it was met.
abbrev pub kind_fault : Bor (List ℕ) → FileError → FileKind → Fault
kind_fault path e kind_memory = Memory
kind_fault path e kind = File path e

abbrev pub file_fault : Bor (List ℕ) → FileError → Fault
file_fault path e = kind_fault path e e.kind

abbrev pub zone_fault : Bor (List ℕ) → ZoneError → Fault
zone_fault path zone_memory = Memory
zone_fault path e = Zone path e

abbrev pub line_kind_fault : Bor (List ℕ) → LineError → LineKind → Fault
line_kind_fault path e line_memory = Memory
line_kind_fault path e kind = Script path e

abbrev pub line_fault : Bor (List ℕ) → LineError → Fault
line_fault path e = line_kind_fault path e e.kind

abbrev pub block_fault : Bor (List ℕ) → ℕ → ZoneError → Fault
block_fault path line zone_memory = Memory
block_fault path line e = Block path line e

abbrev pub rule_fault : Bor (List ℕ) → WorldError → Fault
rule_fault path world_memory = Memory
rule_fault path e = World path e

abbrev pub world_fault : Bor (List ℕ) → WorldFault → Fault
world_fault path (of.Line e) = line_fault path e
world_fault path (of.File e) = file_fault path e
world_fault path (of.Zone line e) = block_fault path line e
world_fault path (of.World e) = rule_fault path e
world_fault path of.Memory = Memory

abbrev pub name_fault : NameError → Fault
name_fault name_memory = Memory
name_fault e = BadName e

abbrev pub pool_fault : PoolError → Fault
pool_fault threads.Memory = Memory
pool_fault threads.Differs = Pool threads.Differs
pool_fault threads.Forgot = Pool threads.Forgot
pool_fault threads.Stranger = Pool threads.Stranger
