-- One zone more, and the zones of all lines.
use Rattle.std.proofs.Common.{◌∙◌, sym, subst, ℕ, List}
use Rattle.std.specs.Prelude.{Option}
use Rattle.std.proofs.lemmas.List.{take_all}
use Rattle.config.specs.Configs.{LocalZone}
use Rattle.commands.specs.Servers.{AreZonesIn, LacksZone}
use Rattle.commands.specs.Zones.{HoldsZone, HoldsNoZone}
use Rattle.commands.specs.declared.fault.Fault.{Fault}
use Rattle.commands.proofs.Servers.{zones_step, lacks_at}
use Rattle.commands.proofs.Storms.{err_weaker}
use Rattle.commands.proofs.serve.local_zones.Goals as goal

pub loop-local-preserved : goal.loop-local-preserved
loop-local-preserved g c = (
  c.zone_of.ensures.keeps ∙ c.loop-local.invariant.0,
  zones_step (g.T.Texts.held c.args.texts.now) c.args.locals.now c.loop-local.local-index c.local-item.result c.loop-local.zones.items _ c.in_ok-zone_of.field-0 c.loop-local-test.true c.local-item.is
      c.loop-local.invariant.1
      (subst (λ (held : List ℕ → Option (Option (List ℕ))). HoldsZone (held c.local-item.result.file) c.local-item.result.origin c.in_ok-zone_of.field-0) c.loop-local.invariant.0 c.in_ok-zone_of.ensures.ok)
      c.in_ok-push.ensures.items,
)

pub returns-clause-ok : goal.returns-clause-ok
returns-clause-ok g c =
    subst (λ (ls : List LocalZone). AreZonesIn (g.T.Texts.held c.args.texts.now) ls c.loop-local.zones.items) (take_all c.loop-local.local-index c.args.locals.now c.loop-local-test.false)
    c.loop-local.invariant.1

pub returns-in_err-zone_of-clause-err : goal.returns-in_err-zone_of-clause-err
returns-in_err-zone_of-clause-err g c =
    err_weaker c.from_residual.result _ _
    (λ (f : Fault) is. subst (λ (e : Fault). LacksZone (g.T.Texts.held c.args.texts.now) c.args.locals.now e) (sym is)
    (lacks_at (g.T.Texts.held c.args.texts.now) c.args.locals.now _ c.loop-local.local-index c.local-item.result _ c.loop-local-test.true c.local-item.is c.loop-local.invariant.1
    (subst (λ (held : List ℕ → Option (Option (List ℕ))). HoldsNoZone held c.local-item.result.file c.local-item.result.origin c.in_err-zone_of.field-0.0) c.loop-local.invariant.0 c.in_err-zone_of.ensures.err)))
    c.from_residual.ensures.1
