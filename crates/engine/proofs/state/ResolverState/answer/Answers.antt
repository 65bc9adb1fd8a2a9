use Rattle.std.proofs.Common.{subst}
use Rattle.runs.specs.Messages.{IsReply}
use Rattle.typed.specs.Views.{said_view}
use Rattle.engine.specs.ResolverStates.{state_of}
use Rattle.engine.proofs.Lift.{ends_here}
use Rattle.engine.proofs.state.ResolverState.answer.Goals as goal

pub returns : goal.returns
returns g c =
    ends_here (state_of c.args.self.now) c.args.client_query c.args.number _ (said_view c.reply_to.result) c.requires
    (subst (λ o. IsReply c.args.client_query o (said_view c.reply_to.result)) c.in_ok-outcome.ensures c.reply_to.ensures)
