use Rattle.std.proofs.Common.{◌<◌, length, arith}
use Rattle.rdata.specs.Kept.{datum}
use Rattle.rdata.specs.Rows.{plain_row}
use Rattle.message_grammar.specs.Messages.{IsRecord}
use Rattle.wire.proofs.SetRows.{all_on}
use Rattle.wire.proofs.writable.rows_law.Goals as goal

pub loop-index-preserved : goal.loop-index-preserved
loop-index-preserved g c =
    let inside : c.loop-index.index < length c.args.values.now = omega (arith, c.loop-index-test.true, c.len-index-end.ensures.len) in
    all_on IsRecord (plain_row c.args.owner.now c.args.ttl) c.args.values.now c.loop-index.index (datum c.get.result.now) c.loop-index.invariant inside c.get.ensures c.row_law.ensures
