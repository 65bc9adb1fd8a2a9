use Rattle.std.proofs.Common.{◌<◌, length, ap, arith}
use Rattle.zone.proofs.Shares.{made_is}
use Rattle.zone.proofs.Trees.{picks_length}
use Rattle.zone.proofs.held.Held.made.Goals as goal

pub offset_bounds-self-inside-index : goal.offset_bounds-self-inside-index
offset_bounds-self-inside-index g c =
    omega (arith, c.requires, ap length c.self.view_is, picks_length c.self.inside.records.now c.self.inside.places.now c.self.invariant.0, c.self.told.1.1)

pub bounds-self-inside-index : goal.bounds-self-inside-index
bounds-self-inside-index g c =
    omega (arith, c.requires, ap length c.self.view_is, picks_length c.self.inside.records.now c.self.inside.places.now c.self.invariant.0)

pub returns : goal.returns
returns g c =
    let at : c.args.index < length c.self.inside.places.now = omega (arith, c.requires, ap length c.self.view_is, picks_length c.self.inside.records.now c.self.inside.places.now c.self.invariant.0) in
    made_is c.self.inside.sets.now c.self.inside.records.now c.self.inside.places.now c.args.index c.args.self.now c.get.result c.self.invariant.1 at c.self.view_is c.get.ensures.value
