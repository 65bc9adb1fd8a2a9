use Rattle.std.proofs.Common.{◌≡◌, take}
use Rattle.std.specs.Prelude.{flat_map}
use Rattle.std.specs.List.{AllByRecursion}
use Rattle.message_grammar.specs.Pieces.{after}
use Rattle.message_grammar.specs.Messages.{record_pieces, IsRecord}
use Rattle.wire.proofs.writer.Writer.put_records.Given as goal

abbrev pub invariant-loop-rr : goal.invariant-loop-rr
invariant-loop-rr g l =
    (l.self ≡ after l.initial.self (flat_map record_pieces (take l.rr-index l.records))) × AllByRecursion IsRecord (take l.rr-index l.records)
