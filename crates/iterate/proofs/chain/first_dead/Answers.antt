use Rattle.std.proofs.Common.{sym, ◌∙◌}
use Rattle.iterate.proofs.Alive.{fresh_more, fresh_all, dead_there}
use Rattle.iterate.proofs.chain.first_dead.Goals as goal

pub loop-place-preserved : goal.loop-place-preserved
loop-place-preserved g c =
    fresh_more c.args.now c.args.links.now c.loop-place.place c.index-links-place.result c.loop-place-test.true c.index-links-place.is
    (sym c.is_dead.ensures ∙ c.if-is_dead.false) c.loop-place.invariant

pub returns-then-is_dead : goal.returns-then-is_dead
returns-then-is_dead g c =
    dead_there c.args.now c.args.links.now c.loop-place.place c.index-links-place.result c.loop-place-test.true c.index-links-place.is
    (sym c.is_dead.ensures ∙ c.if-is_dead.true) c.loop-place.invariant

pub returns : goal.returns
returns g c = fresh_all c.args.now c.args.links.now c.loop-place.place c.loop-place-test.false c.loop-place.invariant
