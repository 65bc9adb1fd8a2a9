use Rattle.std.proofs.Common.{◌∙◌, sym}
use Rattle.rdata.proofs.Capped.{set_more, set_whole}
use Rattle.rdata.proofs.records.set_all.Goals as goal

pub loop-record-preserved : goal.loop-record-preserved
loop-record-preserved g c =
    set_more c.args.ttl c.args.records.now c.loop-record.records c.loop-record.record-index c.record-item.result _
    c.loop-record-test.true c.loop-record.invariant c.record-item.is (c.record.view_is ∙ sym c.record-item.is)

pub returns : goal.returns
returns g c = set_whole c.args.ttl c.args.records.now c.loop-record.records c.loop-record.record-index c.loop-record-test.false c.loop-record.invariant

pub invariant_of-record : goal.invariant_of-record
invariant_of-record g c = c.requires
