use Rattle.wire.proofs.Chaining.{ends_more}
use Rattle.wire.proofs.chains.table.Goals as goal

pub loop-at-preserved : goal.loop-at-preserved
loop-at-preserved g c =
    ends_more c.args.bytes.now c.loop-at.ends.items c.push.new.self.items c.loop-at.at c.chain_end-end.result c.loop-at.invariant.0 c.loop-at.invariant.1 c.chain_end-end.ensures
    c.in_ok-push.ensures.items
