use Rattle.std.proofs.Common.{◌≡◌, ◌+◌, ◌-◌, ◌<◌, length, arith}
use Rattle.server.specs.Domains.{above}
use Rattle.server.proofs.Climbs.{one_passed, length_above}
use Rattle.server.proofs.domain.domain_of.Goals as goal

pub loop-preserved : goal.loop-preserved
loop-preserved c =
    let name = c.args.name.now in
    let count = c.saturating_sub-end.result in
    let labels : c.labels.result + 1 ≡ length name = c.labels.ensures in
    let fewer : count ≡ c.labels.result - 3 = c.saturating_sub-end.ensures in
    let before : c.loop.counter < count = c.loop-test.true in
    let less : length (above name) ≡ (c.labels.result - 1) + 1 = length_above name (c.labels.result - 1) (omega (arith, labels, fewer, before)) in
    one_passed c.ascend-in-loop.result c.loop.counter count (above name) c.loop.domain c.ascend-in-loop.new.self c.ascend-in-loop.ensures.above c.ascend-in-loop.ensures.root c.loop.invariant before
    (omega (arith, labels, fewer, before, less))
