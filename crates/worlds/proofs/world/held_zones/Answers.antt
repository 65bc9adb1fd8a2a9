-- One zone more.
use Rattle.std.proofs.Common.{◌∙◌, ap, List, [], ◌∷◌, ◌++◌}
use Rattle.std.specs.Prelude.{filter}
use Rattle.std.proofs.lemmas.List.{take_all}
use Rattle.dname.specs.Labels.{Name}
use Rattle.zone.specs.Zones.{Zone}
use Rattle.worlds.specs.Rules.{has_name}
use Rattle.worlds.proofs.Held.{held_more, passed_over}
use Rattle.worlds.proofs.world.held_zones.Goals as goal

pub loop-zone-preserved-then-not-has_name : goal.loop-zone-preserved-then-not-has_name
loop-zone-preserved-then-not-has_name g c =
    passed_over (λ (z : Zone). has_name z.origin c.args.locals.now) c.args.zones.now c.loop-zone.zone-index c.zone-item.result _ c.has_name.result c.loop-zone-test.true c.zone-item.is
    (c.has_name.ensures ∙ ap (λ (n : Name). has_name n c.args.locals.now) c.origin.ensures) c.if-not-has_name.true c.loop-zone.invariant

pub loop-zone-preserved : goal.loop-zone-preserved
loop-zone-preserved g c =
    held_more (λ (z : Zone). has_name z.origin c.args.locals.now) c.args.zones.now c.loop-zone.zone-index c.zone-item.result _ c.has_name.result _ c.loop-zone-test.true c.zone-item.is
    (c.has_name.ensures ∙ ap (λ (n : Name). has_name n c.args.locals.now) c.origin.ensures) c.if-not-has_name.false c.loop-zone.invariant
    (c.in_ok-push.ensures.items ∙ ap (λ (z : Zone). c.loop-zone.held.items ++ z ∷ []) c.in_ok-clone.ensures.cases)

pub returns : goal.returns
returns g c =
    c.loop-zone.invariant ∙ ap (λ (zs : List Zone). filter (λ (z : Zone). has_name z.origin c.args.locals.now) zs) (take_all c.loop-zone.zone-index c.args.zones.now c.loop-zone-test.false)
