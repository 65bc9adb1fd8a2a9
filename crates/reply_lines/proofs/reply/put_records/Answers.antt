-- One record more.
use Rattle.reply_lines.specs.Lines.{record_line}
use Rattle.reply_lines.proofs.Printed.{printed_more}
use Rattle.reply_lines.proofs.reply.put_records.Goals as goal

pub loop-rr-preserved : goal.loop-rr-preserved
loop-rr-preserved g c =
    printed_more (record_line c.args.section.now) _ _ c.rr-item.result _ _ _ c.loop-rr-test.true c.rr-item.is c.loop-rr.invariant c.in_ok-put_record.ensures
