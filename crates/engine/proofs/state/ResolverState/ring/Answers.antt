use Rattle.std.proofs.Common.{inr}
use Rattle.std.proofs.lemmas.Result.{IfOk-weaker, on_err_weaker}
use Rattle.resolution.specs.Jobs.{TimedOut}
use Rattle.engine.specs.ResolverStates.{state_of}
use Rattle.engine.specs.Replies.{alone}
use Rattle.engine.proofs.Found.{tells, untold}
use Rattle.engine.proofs.state.ResolverState.ring.Goals as goal

pub returns-else-is_late-clause-ok : goal.returns-else-is_late-clause-ok
returns-else-is_late-clause-ok g c =
    IfOk-weaker c.go_on.result _ _
    (λ a h. inr (c.if-is_late.ensures, tells (state_of c.args.self.now) c.args.number TimedOut c.server_of-server.result (alone a) (state_of c.go_on.new.self) c.server_of-server.ensures h))
    c.go_on.ensures.ok

pub returns-else-is_late-clause-err : goal.returns-else-is_late-clause-err
returns-else-is_late-clause-err g c =
    on_err_weaker c.go_on.result
    (λ h. (c.if-is_late.ensures, untold (state_of c.args.self.now) c.args.number TimedOut c.server_of-server.result (state_of c.go_on.new.self) c.server_of-server.ensures h))
    c.go_on.ensures.err
