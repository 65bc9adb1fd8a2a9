use Rattle.std.proofs.Common.{sym, subst, List, Option, ℕ}
use Rattle.runs.specs.States.{Open}
use Rattle.slab.specs.Slab.{values}
use Rattle.open_queries.specs.Lookups.{IsOnStream, IsFound}
use Rattle.open_queries.specs.Indexes.{StreamsTo}
use Rattle.open_queries.proofs.Waits.{found_over}
use Rattle.open_queries.proofs.queries.Queries.find_tcp.Goals as goal

pub returns : goal.returns
returns g c =
    let P : Open → Type 0 = IsOnStream c.args.ask in
    subst (λ (qs : List Open). IsFound P qs c.stream_of.result) c.self.view_is
    (found_over c.args.ask (values c.self.inside.slots) c.stream_of.result (subst (λ (o : Option ℕ). StreamsTo (values c.self.inside.slots) c.args.ask o) (sym c.stream_of.ensures) ((c.self.invariant).streamed c.args.ask)))
