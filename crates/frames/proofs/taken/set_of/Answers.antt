use Rattle.frames.proofs.Seen.{seen_next}
use Rattle.frames.proofs.taken.set_of.Goals as goal

pub loop-address-preserved : goal.loop-address-preserved
loop-address-preserved g c =
    seen_next c.loop-address.seen c.insert.new.self c.args.addresses.now c.loop-address.address-index _ c.loop-address-test.true c.loop-address.invariant (c.in_ok-insert.ensures {u = tt}).updates.0
