use Rattle.std.proofs.Common.{rules}
use Rattle.engine.proofs.AtHand.{with_rd}
use Rattle.engine.proofs.state.ResolverState.has_end.Goals as goal

pub returns : goal.returns
returns g c = with_rd (c.args.query.now.start).rd c.in_ok-holds.field-0 (search rules) (rw c.max-now.ensures at c.in_ok-holds.ensures)
