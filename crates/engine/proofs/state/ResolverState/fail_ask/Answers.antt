use Rattle.std.proofs.lemmas.Result.{IfOk-weaker, on_err_weaker}
use Rattle.resolution.specs.Jobs.{TcpFailed}
use Rattle.engine.specs.ResolverStates.{state_of}
use Rattle.engine.specs.Replies.{alone}
use Rattle.engine.proofs.Found.{tells, untold}
use Rattle.engine.proofs.state.ResolverState.fail_ask.Goals as goal

pub returns-clause-ok : goal.returns-clause-ok
returns-clause-ok g c =
    IfOk-weaker c.go_on.result _ _
    (λ a h. tells (state_of c.args.self.now) c.args.number TcpFailed c.server_of-server.result (alone a) (state_of c.go_on.new.self) c.server_of-server.ensures h)
    c.go_on.ensures.ok

pub returns-clause-err : goal.returns-clause-err
returns-clause-err g c =
    on_err_weaker c.go_on.result (untold (state_of c.args.self.now) c.args.number TcpFailed c.server_of-server.result (state_of c.go_on.new.self) c.server_of-server.ensures) c.go_on.ensures.err
