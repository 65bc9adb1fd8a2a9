use Rattle.std.proofs.Common.{take}
use Rattle.std.specs.List.{AllByRecursion}
use Rattle.rdata.specs.Rows.{plain_rows}
use Rattle.message_grammar.specs.Messages.{IsRecord}
use Rattle.wire.proofs.writable.rows_law.Given as goal

abbrev pub invariant-loop-index : goal.invariant-loop-index
invariant-loop-index g l = AllByRecursion IsRecord (plain_rows l.owner l.ttl (take l.index l.values))
