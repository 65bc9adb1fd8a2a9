use Rattle.std.proofs.Common.{◌≡◌, sym, subst, List, ℕ}
use Rattle.dname.specs.Labels.{AreLabels}
use Rattle.zone.specs.Zones.{Zone}
use Rattle.zone.specs.Look.{cut_of, or_else}
use Rattle.authority.specs.Climb.{above}
use Rattle.authority.proofs.Ascents.{shorter, cut_first, cut_more, cut_last}
use Rattle.authority.proofs.plain.cut_over.Goals as goal

pub up-init : goal.up-init
up-init g c =
    let z : Zone = record { origin = c.args.origin.now; records = c.args.records.now } in
    let labels : AreLabels c.in_ok-up.up = subst (λ (n : List (List ℕ)). AreLabels n) (sym c.in_ok-up.ensures.cases) c.well_formed_law.ensures.labels in
    subst (λ (n : List (List ℕ)). or_else (cut_of z (above c.in_ok-up.up)) c.in_ok-found.found ≡ cut_of z n) c.in_ok-up.ensures.cases (cut_first z c.in_ok-up.up c.in_ok-found.found labels c.in_ok-found.ensures)

pub up-smaller : goal.up-smaller
up-smaller g c = shorter c.up.up c.ascend.new.self c.up-test.ensures.above

pub up-preserved : goal.up-preserved
up-preserved g c =
    let z : Zone = record { origin = c.args.origin.now; records = c.args.records.now } in
    cut_more z c.up.up c.ascend.new.self c.args.name.now c.up.found c.in_ok-cut_at.field-0 c.first_or-found.result c.up-test.ensures.above c.up.invariant c.in_ok-cut_at.ensures c.first_or-found.ensures

pub returns : goal.returns
returns g c =
    let z : Zone = record { origin = c.args.origin.now; records = c.args.records.now } in
    cut_last z c.up.up c.args.name.now c.up.found c.up-test.ensures.root.0 c.up.invariant
