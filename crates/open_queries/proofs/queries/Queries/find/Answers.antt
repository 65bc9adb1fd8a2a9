use Rattle.std.proofs.Common.{subst, List}
use Rattle.runs.specs.States.{Open}
use Rattle.slab.specs.Slab.{values}
use Rattle.open_queries.specs.Lookups.{IsOnLine, IsFound}
use Rattle.open_queries.proofs.Waits.{found_on}
use Rattle.open_queries.proofs.queries.Queries.find.Goals as goal

pub returns : goal.returns
returns g c =
    let P : Open → Type 0 = IsOnLine c.args.socket c.args.server c.args.id in
    subst (λ (qs : List Open). IsFound P qs c.find.result) c.self.view_is
    (found_on (values c.self.inside.slots) c.self.inside.asks (c.self.invariant).waits c.args.socket c.args.server c.args.id c.find.result c.find.ensures)
