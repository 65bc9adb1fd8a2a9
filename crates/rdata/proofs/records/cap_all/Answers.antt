use Rattle.std.proofs.Common.{◌∙◌, sym}
use Rattle.rdata.proofs.Capped.{cap_more, cap_fits, cap_whole}
use Rattle.rdata.proofs.records.cap_all.Goals as goal

pub loop-record-preserved : goal.loop-record-preserved
loop-record-preserved g c =
    cap_more c.args.most c.args.records.now c.loop-record.records c.loop-record.record-index c.min-record-inside.result c.record-item.result _
    c.loop-record-test.true c.loop-record.invariant c.record-item.is (c.record.view_is ∙ sym c.record-item.is) c.min-record-inside.ensures

pub returns : goal.returns
returns g c = cap_whole c.args.most c.args.records.now c.loop-record.records c.loop-record.record-index c.loop-record-test.false c.loop-record.invariant

pub invariant_of-record : goal.invariant_of-record
invariant_of-record g c = cap_fits c.args.most c.record.inside.ttl c.min-record-inside.result c.min-record-inside.ensures c.record.invariant
