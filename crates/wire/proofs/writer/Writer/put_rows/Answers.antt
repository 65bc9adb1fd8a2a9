use Rattle.std.proofs.Common.{inr, ◌∙◌, ap, List, sym, ◌<◌, length, arith}
use Rattle.std.proofs.lemmas.List.{take-map}
use Rattle.std.specs.Prelude.{flat_map}
use Rattle.rdata.specs.Kept.{datum}
use Rattle.rdata.specs.Records.{Record}
use Rattle.rdata.specs.Rows.{plain_row, plain_rows}
use Rattle.message_grammar.specs.Pieces.{after}
use Rattle.message_grammar.specs.Messages.{record_pieces, IsRecord}
use Rattle.wire.proofs.SetRows.{pieces_on, all_on}
use Rattle.wire.proofs.Putting.{stopped}
use Rattle.wire.proofs.writer.Writer.put_rows.Goals as goal

pub loop-index-preserved : goal.loop-index-preserved
loop-index-preserved g c =
    let inside : c.loop-index.index < length c.args.values.now = omega (arith, c.loop-index-test.true, c.len-index-end.ensures.len) in (
      pieces_on record_pieces (plain_row c.args.owner.now c.args.ttl) c.args.self.now c.loop-index.self c.put_row.new.self c.args.values.now c.loop-index.index (datum c.get.result.now)
          c.loop-index.invariant.0 inside c.get.ensures c.in_ok-put_row.ensures.written,
      all_on IsRecord (plain_row c.args.owner.now c.args.ttl) c.args.values.now c.loop-index.index (datum c.get.result.now) c.loop-index.invariant.1 inside c.get.ensures c.in_ok-put_row.ensures.fits,
    )

pub returns-then-is_over : goal.returns-then-is_over
returns-then-is_over g c =
    inr (stopped record_pieces c.args.limit c.args.self.now c.loop-index.self (plain_rows c.args.owner.now c.args.ttl c.args.values.now) c.loop-index.index
    (c.loop-index.invariant.0 ∙ ap (λ (l : List Record). after c.args.self.now (flat_map record_pieces l)) (sym (take-map (plain_row c.args.owner.now c.args.ttl) c.loop-index.index c.args.values.now)))
    (c.is_over.ensures.0 c.if-is_over.true))
