use Rattle.engine.specs.ResolverStates.{state_of}
use Rattle.engine.proofs.Found.{is_due}
use Rattle.engine.proofs.state.ResolverState.first_due.Goals as goal

pub returns-in-Some : goal.returns-in-Some
returns-in-Some g c = is_due (state_of c.args.self.now) c.in-Some.due c.in-Some.number c.apart_law.ensures c.in-Some.ensures c.if-due-self.true
