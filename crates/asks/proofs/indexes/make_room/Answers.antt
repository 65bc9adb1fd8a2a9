use Rattle.std.proofs.Common.{ap}
use Rattle.asks.specs.Indexes.{points_to}
use Rattle.asks.proofs.indexes.make_room.Goals as goal

pub returns-clause-by_ask : goal.returns-clause-by_ask
returns-clause-by_ask g c = λ ask query. ap (points_to query) (c.reserve-2.ensures.entries.2 ask)
