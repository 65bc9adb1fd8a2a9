use Rattle.std.proofs.Common.{◌≡◌, ◌∙◌, sym, ap, subst, List, Some, None}
use Rattle.rdata.specs.Types.{type_number}
use Rattle.zone.specs.Zones.{Zone}
use Rattle.authority.specs.Catalogs.{zone_over, looked_in, IsLooked, AreZones}
use Rattle.authority.proofs.Charges.{looked_here, looked_nowhere, zones_named}
use Rattle.authority.proofs.catalog.Catalog.look_here.Goals as goal

pub returns-in-None-clause-none : goal.returns-in-None-clause-none
returns-in-None-clause-none g c =
    let nobody : None ≡ zone_over c.args.self.now c.args.name.now =
    c.in-None.ensures ∙ ap (λ (zs : List Zone). zone_over zs c.args.name.now) (c.deref.ensures.value ∙ c.self.view_is) in (
      ap (looked_in c.args.name.now (type_number c.args.kind)) (sym nobody),
      looked_nowhere c.args.self.now c.args.name.now (type_number c.args.kind) (zones_named c.args.self.now (subst AreZones c.self.view_is c.self.invariant.0.sound)) nobody,
    )

pub returns-in-Ok-clause-relation : goal.returns-in-Ok-clause-relation
returns-in-Ok-clause-relation g c =
    let charge : Some c.in-Some.zone.now ≡ zone_over c.args.self.now c.args.name.now =
    c.in-Some.ensures ∙ ap (λ (zs : List Zone). zone_over zs c.args.name.now) (c.deref.ensures.value ∙ c.self.view_is) in
    subst (IsLooked c.args.self.now c.args.name.now (type_number c.args.kind)) (sym c.in-Ok.ensures.value)
    (looked_here c.args.self.now c.args.name.now (type_number c.args.kind) c.in-Some.zone.now c.denial.result.now charge c.zone_keeps_rules.ensures.named c.zone_keeps_rules.ensures.rules c.denial.ensures)
