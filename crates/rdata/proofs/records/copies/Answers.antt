use Rattle.std.proofs.Common.{◌∙◌}
use Rattle.std.proofs.lemmas.List.{take_all}
use Rattle.rdata.proofs.Copies.{copied_more}
use Rattle.rdata.proofs.records.copies.Goals as goal

pub loop-record-preserved : goal.loop-record-preserved
loop-record-preserved g c =
    copied_more c.args.records.now c.loop-record.items.items c.push.new.self.items c.loop-record.record-index c.in_ok-clone.field-0 c.record-item.result
    c.loop-record-test.true c.loop-record.invariant c.in_ok-push.ensures.items c.in_ok-clone.ensures.cases c.record-item.is

pub returns : goal.returns
returns g c = c.loop-record.invariant ∙ take_all c.loop-record.record-index c.args.records.now c.loop-record-test.false
