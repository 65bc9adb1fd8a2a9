use Rattle.std.proofs.Common.{◌∙◌, sym, ap, subst, List}
use Rattle.std.specs.Prelude.{filter}
use Rattle.dname.specs.Labels.{Name}
use Rattle.zone.specs.Zones.{Zone}
use Rattle.world_truth.specs.Worlds.{HaveOwnOrigins}
use Rattle.worlds.specs.Rules.{has_name}
use Rattle.worlds.proofs.Held.{are_held, parted_some}
use Rattle.worlds.proofs.world.World.held.Goals as goal

pub returns-clause-are : goal.returns-clause-are
returns-clause-are g c =
    are_held c.args.self.now c.in_ok-held_zones.field-0.items
    (c.in_ok-held_zones.ensures ∙ (ap (λ (ns : List Name). filter (λ (z : Zone). has_name z.origin ns) c.zones-zones.result.now) c.locals.ensures
    ∙ ap (λ (zs : List Zone). filter (λ (z : Zone). has_name z.origin c.args.self.now.locals) zs) (c.zones-zones.ensures.value ∙ c.catalog.ensures)))

pub returns-clause-parted : goal.returns-clause-parted
returns-clause-parted g c =
    let all = c.zones-zones.ensures.value ∙ c.catalog.ensures in
    subst HaveOwnOrigins (sym c.in_ok-held_zones.ensures)
    (parted_some _ c.zones-zones.result.now (subst HaveOwnOrigins (sym all) (c.well_formed_law.ensures.parted)))
