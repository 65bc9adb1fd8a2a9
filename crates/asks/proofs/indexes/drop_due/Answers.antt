use Rattle.std.proofs.Common.{false}
use Rattle.asks.proofs.Due.{at_both}
use Rattle.asks.proofs.indexes.drop_due.Goals as goal

pub returns : goal.returns
returns g c = λ d q. at_both c.args.due c.args.query d q false _ _ (c.remove.ensures.updates.0 (d, q))
