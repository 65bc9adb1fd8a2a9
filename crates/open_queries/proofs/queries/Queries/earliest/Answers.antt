use Rattle.std.proofs.Common.{subst, List}
use Rattle.runs.specs.States.{Open}
use Rattle.slab.specs.Slab.{values}
use Rattle.open_queries.specs.Lookups.{IsEarliest}
use Rattle.open_queries.proofs.Waits.{first_due}
use Rattle.open_queries.proofs.queries.Queries.earliest.Goals as goal

pub returns : goal.returns
returns g c =
    subst (λ (qs : List Open). IsEarliest qs c.earliest.result) c.self.view_is
    (first_due (values c.self.inside.slots) c.self.inside.asks (c.self.invariant).waits c.earliest.result c.earliest.ensures)
