use Rattle.std.proofs.Common.{◌≡◌, ◌++◌, take, drop, string_bytes}
use Rattle.std.specs.List.{flat_map}
use Rattle.masterfile.specs.Printed.{line_text}
use Rattle.masterfile.proofs.KeptRecords.{AreKept}
use Rattle.masterfile.proofs.printed.print.Given as goal

abbrev pub invariant-loop-record : goal.invariant-loop-record
invariant-loop-record g l = record {
  text : string_bytes l.out ≡ string_bytes l.initial.out ++ flat_map line_text (take l.record-index l.records);
  kept : AreKept (drop l.record-index l.records) → AreKept l.records;
}
