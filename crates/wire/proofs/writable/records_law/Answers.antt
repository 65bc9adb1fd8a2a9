use Rattle.message_grammar.specs.Messages.{IsRecord}
use Rattle.wire.proofs.Fitting.{all_more}
use Rattle.wire.proofs.writable.records_law.Goals as goal

pub loop-rr-preserved : goal.loop-rr-preserved
loop-rr-preserved g c = all_more IsRecord c.args.records.now c.loop-rr.rr-index c.rr-item.result c.loop-rr.invariant c.loop-rr-test.true c.rr-item.is c.record_law.ensures
