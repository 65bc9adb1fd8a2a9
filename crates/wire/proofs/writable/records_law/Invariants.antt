use Rattle.std.proofs.Common.{take}
use Rattle.std.specs.List.{AllByRecursion}
use Rattle.message_grammar.specs.Messages.{IsRecord}
use Rattle.wire.proofs.writable.records_law.Given as goal

abbrev pub invariant-loop-rr : goal.invariant-loop-rr
invariant-loop-rr g l = AllByRecursion IsRecord (take l.rr-index l.records)
