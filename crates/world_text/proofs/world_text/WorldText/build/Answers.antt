use Rattle.std.proofs.Common.{◌∙◌, ap, subst, sym, List}
use Rattle.world_text.specs.WorldFaults.{rule_fault}
use Rattle.world_text.specs.WorldTexts.{Block, zones_of, locals_of, IsFaultOf}
use Rattle.world_text.specs.Seen.{said_seen}
use Rattle.world_text.proofs.Building.{world_stands, rule_refused, blocks_refused, refused_by}
use Rattle.world_text.proofs.world_text.WorldText.build.Goals as goal

pub returns-in_err-zones : goal.returns-in_err-zones
returns-in_err-zones g c =
    let f = c.in_err-zones.field-0.0 in
    refused_by c.from_residual.result f _ _ c.from_residual.ensures.1
    (blocks_refused (said_seen c.args.self) f (subst (λ (bs : List Block). IsFaultOf f (zones_of bs)) c.deref.ensures.value c.in_err-zones.ensures))

pub returns-in_err-check : goal.returns-in_err-check
returns-in_err-check g c =
    let e = c.in_err-check.field-0.0 in
    refused_by c.from_residual-in_err-check.result (rule_fault e) _ _ c.from_residual-in_err-check.ensures.1
    (rule_refused (said_seen c.args.self) c.in_ok-zones.zones.items c.in_ok-locals.locals.items e
    (sym (ap zones_of c.deref.ensures.value) ∙ c.in_ok-zones.ensures) (c.in_ok-locals.ensures ∙ ap locals_of c.deref-2.ensures.value) c.in_err-check.ensures)

pub returns : goal.returns
returns g c =
    let stands = c.in_ok-check.ensures {u = tt} in
    world_stands (said_seen c.args.self) c.in_ok-zones.zones.items c.in_ok-locals.locals.items c.in_ok-check.field-0
    (sym (ap zones_of c.deref.ensures.value) ∙ c.in_ok-zones.ensures) (c.in_ok-locals.ensures ∙ ap locals_of c.deref-2.ensures.value) stands.0 stands.1
