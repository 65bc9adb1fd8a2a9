-- Which refusal of a world text a refusal of its parts is. Running out of memory is one, wherever it was met.
use Rattle.std.specs.Prelude.{ℕ, List, ◌++◌, codes, decimal}
use Rattle.zone.specs.Faults.{fault_text as zone_text}
use Rattle.text_lines.specs.Faults.{error_text as line_text}
use Rattle.masterfile.specs.Faults.{error_text as file_text}
use Rattle.worlds.specs.Refusals.{world_fault_text}
use Rattle.zone.specs.declared.fault.ZoneError.{ZoneError}
use Rattle.zone.specs.declared.fault.ZoneError.TheVariants.{Memory as zone_memory}
use Rattle.text_lines.specs.declared.fault.LineKind.{LineKind}
use Rattle.text_lines.specs.declared.fault.LineKind.TheVariants.{Memory as line_memory}
use Rattle.text_lines.specs.declared.fault.LineError.{LineError}
use Rattle.masterfile.specs.declared.faults.FileKind.{FileKind}
use Rattle.masterfile.specs.declared.faults.FileKind.TheVariants.{Memory as file_memory}
use Rattle.masterfile.specs.declared.faults.FileError.{FileError}
use Rattle.worlds.specs.declared.fault.WorldError.{WorldError}
use Rattle.worlds.specs.declared.fault.WorldError.TheVariants.{Memory as rule_memory}
use Rattle.world_text.specs.declared.world_fault.WorldFault.{WorldFault}
use Rattle.world_text.specs.declared.world_fault.WorldFault.TheVariants.{Line, File, Zone, World, Memory}

abbrev pub line_fault : LineError → LineKind → WorldFault
line_fault e line_memory = Memory
line_fault e kind = Line e

abbrev pub file_fault : FileError → FileKind → WorldFault
file_fault e file_memory = Memory
file_fault e kind = File e

abbrev pub zone_fault : ℕ → ZoneError → WorldFault
zone_fault line zone_memory = Memory
zone_fault line e = Zone line e

abbrev pub rule_fault : WorldError → WorldFault
rule_fault rule_memory = Memory
rule_fault e = World e

-- The words of a refusal.
abbrev pub fault_text : WorldFault → List ℕ
fault_text (Line e) = line_text e
fault_text (File e) = file_text e
fault_text (Zone line e) = codes "line " ++ decimal line ++ codes ": " ++ zone_text e
fault_text (World e) = world_fault_text e
fault_text Memory = codes "out of memory"
