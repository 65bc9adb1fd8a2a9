-- The records so far are written.
use Rattle.std.proofs.Common.{◌≡◌, ◌++◌, take, string_bytes}
use Rattle.std.specs.List.{flat_map}
use Rattle.reply_lines.specs.Lines.{record_line}
use Rattle.reply_lines.proofs.reply.put_records.Given as goal

abbrev pub invariant-loop-rr : goal.invariant-loop-rr
invariant-loop-rr g l = string_bytes l.out ≡ string_bytes l.initial.out ++ flat_map (record_line l.section) (take l.rr-index l.records)
