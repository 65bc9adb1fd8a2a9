use Rattle.std.proofs.Common.{◌≡◌, ◌∙◌, sym, ap, subst, List, Some, None}
use Rattle.std.specs.Option.{option_copied}
use Rattle.rdata.specs.Types.{type_number}
use Rattle.zone.specs.Zones.{Zone}
use Rattle.zone.specs.Look.{Local}
use Rattle.authority.specs.Catalogs.{zone_over, chosen, IsLooked, AreZones}
use Rattle.authority.proofs.Ascents.{looked_by}
use Rattle.authority.proofs.Charges.{looked_here, looked_nowhere, zones_named}
use Rattle.authority.proofs.Chosen.{chosen_named}
use Rattle.authority.proofs.catalog.Catalog.counted_through.Goals as goal

pub returns-in_ok-look_counted-in-Some-clause-value : goal.returns-in_ok-look_counted-in-Some-clause-value
returns-in_ok-look_counted-in-Some-clause-value g c =
    let charge : Some c.in-Some.zone.now ≡ zone_over (chosen (option_copied c.args.listed) c.args.self.now) c.args.name.now =
    c.in-Some.ensures ∙ ap (λ (zs : List Zone). zone_over (chosen (option_copied c.args.listed) zs) c.args.name.now) (c.deref.ensures.value ∙ c.self.view_is) in
    c.in_ok-look_counted-in-Some.ensures.value
    ∙ looked_by (chosen (option_copied c.args.listed) c.args.self.now) c.args.name.now (type_number c.args.kind) c.in-Some.zone.now c.denial.result.now charge c.denial.ensures

pub returns-in_ok-look_counted-in-Some-clause-relation : goal.returns-in_ok-look_counted-in-Some-clause-relation
returns-in_ok-look_counted-in-Some-clause-relation g c =
    let charge : Some c.in-Some.zone.now ≡ zone_over (chosen (option_copied c.args.listed) c.args.self.now) c.args.name.now =
    c.in-Some.ensures ∙ ap (λ (zs : List Zone). zone_over (chosen (option_copied c.args.listed) zs) c.args.name.now) (c.deref.ensures.value ∙ c.self.view_is) in
    subst (λ (l : Local). IsLooked (chosen (option_copied c.args.listed) c.args.self.now) c.args.name.now (type_number c.args.kind) l) (sym c.in_ok-look_counted-in-Some.ensures.value)
    (looked_here (chosen (option_copied c.args.listed) c.args.self.now) c.args.name.now (type_number c.args.kind) c.in-Some.zone.now c.denial.result.now charge c.zone_keeps_rules.ensures.named c.zone_keeps_rules.ensures.rules c.denial.ensures)

pub returns-in-None-clause-relation : goal.returns-in-None-clause-relation
returns-in-None-clause-relation g c =
    let nobody : None ≡ zone_over (chosen (option_copied c.args.listed) c.args.self.now) c.args.name.now =
    c.in-None.ensures ∙ ap (λ (zs : List Zone). zone_over (chosen (option_copied c.args.listed) zs) c.args.name.now) (c.deref.ensures.value ∙ c.self.view_is) in
    looked_nowhere (chosen (option_copied c.args.listed) c.args.self.now) c.args.name.now (type_number c.args.kind) (chosen_named (option_copied c.args.listed) c.args.self.now (zones_named c.args.self.now (subst AreZones c.self.view_is c.self.invariant.0.sound))) nobody
