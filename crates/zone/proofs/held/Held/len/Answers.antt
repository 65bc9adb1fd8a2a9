use Rattle.std.proofs.Common.{length, sym, ◌∙◌, ap}
use Rattle.zone.proofs.Trees.{picks_length}
use Rattle.zone.proofs.held.Held.len.Goals as goal

pub returns : goal.returns
returns g c = sym (picks_length c.self.inside.records.now c.self.inside.places.now c.self.invariant.0) ∙ ap length c.self.view_is
