use Rattle.std.proofs.Common.{arith}
use Rattle.rdata.specs.Kept.{datum}
use Rattle.rdata.proofs.SetRows.{rows_more, rows_whole}
use Rattle.rdata.proofs.record_set.RecordSet.to_records.Goals as goal

pub loop-index-preserved : goal.loop-index-preserved
loop-index-preserved g c =
    rows_more c.self.inside.owner c.self.inside.ttl c.self.inside.values c.args.self.now c.loop-index.records c.push.new.self c.loop-index.index (datum c.get.result.now) c.in_ok-row.field-0
    c.self.view_is (omega (arith, c.loop-index-test.true, c.len-index-end.ensures.len)) c.loop-index.invariant c.in_ok-push.ensures.ok c.in_ok-row.ensures c.get.ensures

pub returns : goal.returns
returns g c =
    rows_whole c.self.inside.owner c.self.inside.ttl c.self.inside.values c.args.self.now c.loop-index.records c.loop-index.index
    c.self.view_is (omega (arith, c.loop-index-test.false, c.len-index-end.ensures.len)) c.loop-index.invariant
