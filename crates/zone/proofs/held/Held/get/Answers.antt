use Rattle.std.proofs.Common.{◌<◌, ◌∙◌, List, length, get_or, ap, arith}
use Rattle.rdata.specs.Records.{Record}
use Rattle.zone.proofs.Trees.{picks_length, within_at, picks_at}
use Rattle.zone.proofs.held.Held.get.Goals as goal

pub offset_bounds-places-index : goal.offset_bounds-places-index
offset_bounds-places-index g c =
    omega (arith, c.requires, ap length c.self.view_is, picks_length c.self.inside.records.now c.self.inside.places.now c.self.invariant.0, c.self.told.1.1)

pub bounds-places-index : goal.bounds-places-index
bounds-places-index g c =
    omega (arith, c.requires, ap length c.self.view_is, picks_length c.self.inside.records.now c.self.inside.places.now c.self.invariant.0)

pub offset_bounds-records-place : goal.offset_bounds-records-place
offset_bounds-records-place g c =
    let at : c.args.index < length c.self.inside.places.now = omega (arith, c.requires, ap length c.self.view_is, picks_length c.self.inside.records.now c.self.inside.places.now c.self.invariant.0) in
    omega (arith, within_at (length c.self.inside.records.now) c.self.inside.places.now c.args.index c.self.invariant.0 at)

pub bounds-records-place : goal.bounds-records-place
bounds-records-place g c =
    let at : c.args.index < length c.self.inside.places.now = omega (arith, c.requires, ap length c.self.view_is, picks_length c.self.inside.records.now c.self.inside.places.now c.self.invariant.0) in
    within_at (length c.self.inside.records.now) c.self.inside.places.now c.args.index c.self.invariant.0 at

pub returns : goal.returns
returns g c =
    let at : c.args.index < length c.self.inside.places.now = omega (arith, c.requires, ap length c.self.view_is, picks_length c.self.inside.records.now c.self.inside.places.now c.self.invariant.0) in
    picks_at c.self.inside.records.now c.self.inside.places.now c.args.index c.index-records-place.result c.self.invariant.0 at c.index-records-place.is
    ∙ ap (λ (rs : List Record). get_or rs c.args.index c.index-records-place.result) c.self.view_is
