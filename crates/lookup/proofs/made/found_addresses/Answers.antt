use Rattle.std.proofs.Common.{arith}
use Rattle.rdata.specs.Kept.{datum}
use Rattle.lookup.proofs.Lists.{found_later, found_whole}
use Rattle.lookup.proofs.made.found_addresses.Goals as goal

pub loop-index-preserved : goal.loop-index-preserved
loop-index-preserved g c =
    found_later c.set.inside.owner c.set.inside.ttl c.set.inside.values c.args.set.now c.loop-index.index (datum c.get.result.now) c.loop-index.found.items c.put_found.new.found.items
    c.set.view_is (omega (arith, c.loop-index-test.true, c.len-index-end.ensures.len)) c.get.ensures c.loop-index.invariant c.in_ok-put_found.ensures

pub returns : goal.returns
returns g c =
    found_whole c.set.inside.owner c.set.inside.ttl c.set.inside.values c.args.set.now c.loop-index.index c.loop-index.found.items
    c.set.view_is (omega (arith, c.loop-index-test.false, c.len-index-end.ensures.len)) c.loop-index.invariant
