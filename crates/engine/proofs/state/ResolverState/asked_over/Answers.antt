use Rattle.engine.proofs.Found.{asked}
use Rattle.engine.proofs.state.ResolverState.asked_over.Goals as goal

pub returns : goal.returns
returns g c = asked c.args.self.now.queries c.args.ask c.find_tcp.result c.apart_law.ensures c.find_tcp.ensures
