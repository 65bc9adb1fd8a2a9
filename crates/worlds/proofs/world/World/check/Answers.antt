use Rattle.std.proofs.Common.{◌≡◌, subst}
use Rattle.std.proofs.lemmas.Result.{err_from_is_err_and}
use Rattle.authority.specs.Catalogs.{has_twins}
use Rattle.authority.specs.CatalogFaults.{CatalogRefuses}
use Rattle.authority.specs.declared.catalog.CatalogError.{CatalogError}
use Rattle.world_truth.specs.Worlds.{World}
use Rattle.worlds.specs.Kept.{world_with}
use Rattle.worlds.specs.Refusals.{IsWorldRefused}
use Rattle.worlds.proofs.Refused.{twins}
use Rattle.worlds.proofs.world.World.check.Goals as goal

pub returns-in-Err-Twins : goal.returns-in-Err-Twins
returns-in-Err-Twins g c =
    twins (world_with c.args.zones.items c.args.hosts.items c.args.hints.items c.args.locals.items)
    (subst (λ (e : CatalogError). CatalogRefuses e (has_twins c.args.zones.items)) c.in-Err-Twins.field-0-is c.in-Err-Twins.ensures)

pub returns-in_err-check_rules : goal.returns-in_err-check_rules
returns-in_err-check_rules g c =
    let same : world_with c.in-Ok.catalog c.deref.result.now c.deref-2.result.now c.deref-3.result.now ≡ world_with c.args.zones.items c.args.hosts.items c.args.hints.items c.args.locals.items =
    λ i. world_with (c.in-Ok.ensures.0 i) (c.deref.ensures.value i) (c.deref-2.ensures.value i) (c.deref-3.ensures.value i) in
    let refused : IsWorldRefused (world_with c.args.zones.items c.args.hosts.items c.args.hints.items c.args.locals.items) c.in_err-check_rules.field-0.0 =
    subst (λ (W : World). IsWorldRefused W c.in_err-check_rules.field-0.0) same c.in_err-check_rules.ensures in
    let p = err_from_is_err_and c.from_residual-in_err-check_rules.result c.from_residual-in_err-check_rules.ensures.1 in rw (p.1, p.2) refused
