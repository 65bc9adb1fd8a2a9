use Rattle.engine.specs.ResolverStates.{state_of}
use Rattle.engine.proofs.Found.{late_or_early}
use Rattle.engine.proofs.state.ResolverState.is_late.Goals as goal

pub returns : goal.returns
returns g c = late_or_early (state_of c.args.self.now) c.args.number c.deadline.result c.in-Some.open.now c.in-Some.ensures c.deadline.ensures
