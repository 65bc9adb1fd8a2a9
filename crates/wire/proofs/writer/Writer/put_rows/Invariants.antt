use Rattle.std.proofs.Common.{◌≡◌, take}
use Rattle.std.specs.Prelude.{flat_map}
use Rattle.std.specs.List.{AllByRecursion}
use Rattle.rdata.specs.Rows.{plain_rows}
use Rattle.message_grammar.specs.Pieces.{after}
use Rattle.message_grammar.specs.Messages.{record_pieces, IsRecord}
use Rattle.wire.proofs.writer.Writer.put_rows.Given as goal

abbrev pub invariant-loop-index : goal.invariant-loop-index
invariant-loop-index g l =
    (l.self ≡ after l.initial.self (flat_map record_pieces (plain_rows l.owner l.ttl (take l.index l.values)))) × AllByRecursion IsRecord (plain_rows l.owner l.ttl (take l.index l.values))
