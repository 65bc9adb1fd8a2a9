use Rattle.std.proofs.Common.{inr}
use Rattle.message_grammar.specs.Messages.{record_pieces, IsRecord}
use Rattle.wire.proofs.Writing.{row_on}
use Rattle.wire.proofs.Fitting.{all_more}
use Rattle.wire.proofs.Putting.{stopped}
use Rattle.wire.proofs.writer.Writer.put_records.Goals as goal

pub loop-rr-preserved : goal.loop-rr-preserved
loop-rr-preserved g c = (
  row_on record_pieces c.args.self.now c.loop-rr.self c.put_record.new.self c.args.records.now c.loop-rr.rr-index c.rr-item.result c.loop-rr.invariant.0
      c.loop-rr-test.true c.rr-item.is c.in_ok-put_record.ensures.written,
  all_more IsRecord c.args.records.now c.loop-rr.rr-index c.rr-item.result c.loop-rr.invariant.1 c.loop-rr-test.true c.rr-item.is
      c.in_ok-put_record.ensures.fits,
)

pub returns-then-is_over : goal.returns-then-is_over
returns-then-is_over g c =
    inr (stopped record_pieces c.args.limit c.args.self.now c.loop-rr.self c.args.records.now c.loop-rr.rr-index c.loop-rr.invariant.0 (c.is_over.ensures.0 c.if-is_over.true))
