use Rattle.std.proofs.Common.{◌∙◌, sym, ap, subst, List, ℕ, option_copied}
use Rattle.dname.specs.Labels.{AreLabels}
use Rattle.authority.specs.Catalogs.{chosen, zone_over}
use Rattle.authority.proofs.Ascents.{shorter, zone_stops, zone_goes_on, zone_found, zone_next}
use Rattle.authority.proofs.catalog.zone_over.Goals as goal

pub returns-in-Some : goal.returns-in-Some
returns-in-Some g c =
    let labels : AreLabels c.suffix-up.result = subst (λ (n : List (List ℕ)). AreLabels n) (sym c.suffix-up.ensures) c.well_formed_law.ensures.labels in
    zone_stops (chosen (option_copied c.args.listed) c.args.zones.now) c.suffix-up.result c.in-Some.found.now labels (c.in-Some.ensures) ∙ ap (zone_over (chosen (option_copied c.args.listed) c.args.zones.now)) c.suffix-up.ensures

pub up-init : goal.up-init
up-init g c =
    let labels : AreLabels c.suffix-up.result = subst (λ (n : List (List ℕ)). AreLabels n) (sym c.suffix-up.ensures) c.well_formed_law.ensures.labels in
    zone_goes_on (chosen (option_copied c.args.listed) c.args.zones.now) c.suffix-up.result labels (c.in_default.ensures) ∙ ap (zone_over (chosen (option_copied c.args.listed) c.args.zones.now)) c.suffix-up.ensures

pub returns-in-Some-zone_at : goal.returns-in-Some-zone_at
returns-in-Some-zone_at g c =
    zone_found (chosen (option_copied c.args.listed) c.args.zones.now) c.up.up c.ascend.new.self c.args.name.now c.in-Some-zone_at.found.now c.up-test.ensures.above c.up.invariant (c.in-Some-zone_at.ensures)

pub up-smaller : goal.up-smaller
up-smaller g c = shorter c.up.up c.ascend.new.self c.up-test.ensures.above

pub up-preserved : goal.up-preserved
up-preserved g c = zone_next (chosen (option_copied c.args.listed) c.args.zones.now) c.up.up c.ascend.new.self c.args.name.now c.up-test.ensures.above c.up.invariant (c.in_default-zone_at.ensures)
