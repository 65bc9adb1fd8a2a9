use Rattle.typed.specs.Views.{said_view}
use Rattle.engine.specs.ResolverStates.{state_of}
use Rattle.engine.proofs.Lift.{ends_here}
use Rattle.engine.proofs.state.ResolverState.fail.Goals as goal

pub returns : goal.returns
returns g c = ends_here (state_of c.args.self.now) c.args.client_query c.args.number _ (said_view c.reply_to.result) c.requires c.reply_to.ensures
