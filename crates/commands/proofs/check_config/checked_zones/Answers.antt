-- One zone more, and the zones of all lines.
use Rattle.std.proofs.Common.{◌∙◌, sym, subst, ℕ, List, string_bytes}
use Rattle.std.specs.Prelude.{Option}
use Rattle.std.proofs.lemmas.List.{take_all}
use Rattle.config.specs.Configs.{LocalZone}
use Rattle.commands.specs.Checks.{Explains}
use Rattle.commands.specs.Servers.{AreZonesIn, LacksZone}
use Rattle.commands.specs.Zones.{HoldsZone, HoldsNoZone}
use Rattle.commands.proofs.Checks.{starved_zone_less}
use Rattle.commands.proofs.Servers.{zones_step, lacks_at}
use Rattle.commands.proofs.Storms.{err_weaker}
use Rattle.commands.proofs.check_config.checked_zones.Goals as goal

pub loop-local-preserved : goal.loop-local-preserved
loop-local-preserved g c = (
  c.checked_zone.ensures.keeps ∙ c.loop-local.invariant.0,
  zones_step (g.T.Texts.held c.args.texts.now) c.args.locals.now c.loop-local.local-index c.local-item.result c.loop-local.zones.items _ c.in_ok-checked_zone.field-0 c.loop-local-test.true c.local-item.is
      c.loop-local.invariant.1
      (subst (λ (held : List ℕ → Option (Option (List ℕ))). HoldsZone (held c.local-item.result.file) c.local-item.result.origin c.in_ok-checked_zone.field-0) c.loop-local.invariant.0 c.in_ok-checked_zone.ensures.ok)
      c.in_ok-put_zone.ensures.ok,
)

pub returns-clause-ok : goal.returns-clause-ok
returns-clause-ok g c =
    subst (λ (ls : List LocalZone). AreZonesIn (g.T.Texts.held c.args.texts.now) ls c.loop-local.zones.items) (take_all c.loop-local.local-index c.args.locals.now c.loop-local-test.false)
    c.loop-local.invariant.1

pub returns-in_err-checked_zone-clause-err : goal.returns-in_err-checked_zone-clause-err
returns-in_err-checked_zone-clause-err g c =
    err_weaker c.from_residual.result _ _
    (λ r is. subst (λ e. LacksZone (g.T.Texts.held c.args.texts.now) c.args.locals.now e.fault × Explains (g.T.Texts.held c.args.texts.now) e.fault (string_bytes e.words)) (sym is) (
      lacks_at (g.T.Texts.held c.args.texts.now) c.args.locals.now _ c.loop-local.local-index c.local-item.result _ c.loop-local-test.true c.local-item.is c.loop-local.invariant.1
          (subst (λ (held : List ℕ → Option (Option (List ℕ))). HoldsNoZone held c.local-item.result.file c.local-item.result.origin c.in_err-checked_zone.field-0.0.fault) c.loop-local.invariant.0
          (c.in_err-checked_zone.ensures.err).0),
      subst (λ (held : List ℕ → Option (Option (List ℕ))). Explains held c.in_err-checked_zone.field-0.0.fault (string_bytes c.in_err-checked_zone.field-0.0.words)) c.loop-local.invariant.0
          (c.in_err-checked_zone.ensures.err).1,
    ))
    c.from_residual.ensures.1

pub returns-in_err-put_zone-clause-err : goal.returns-in_err-put_zone-clause-err
returns-in_err-put_zone-clause-err g c =
    err_weaker c.from_residual-in_err-put_zone.result _ _
    (λ r is. subst (λ e. LacksZone (g.T.Texts.held c.args.texts.now) c.args.locals.now e.fault × Explains (g.T.Texts.held c.args.texts.now) e.fault (string_bytes e.words)) (sym is)
    (starved_zone_less (g.T.Texts.held c.args.texts.now) c.args.locals.now _ _ c.in_err-put_zone.ensures.err))
    c.from_residual-in_err-put_zone.ensures.1
