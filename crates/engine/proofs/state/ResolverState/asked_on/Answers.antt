use Rattle.events.specs.Paths.{endpoint_view}
use Rattle.engine.specs.ResolverStates.{state_of}
use Rattle.engine.proofs.Found.{reaches}
use Rattle.engine.proofs.state.ResolverState.asked_on.Goals as goal

pub returns : goal.returns
returns g c = reaches (state_of c.args.self.now) c.args.socket (endpoint_view c.args.from) c.args.id c.find.result c.apart_law.ensures c.if-from-self.false c.find.ensures
