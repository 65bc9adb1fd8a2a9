use Rattle.engine.specs.ResolverStates.{state_of}
use Rattle.engine.proofs.Called.{at_err}
use Rattle.engine.proofs.Arms.{failure_missed, failure_heard, failure_lost, failure_loud}
use Rattle.engine.proofs.state.ResolverState.tcp_failed.Goals as goal

pub returns-in_err-fail_ask-in-Some-clause-err : goal.returns-in_err-fail_ask-in-Some-clause-err
returns-in_err-fail_ask-in-Some-clause-err g c = λ now.
    at_err c.from_residual.result
    (failure_lost (state_of c.args.self.now) now c.args.ask c.in-Some.number c.in-Some.ensures (state_of c.fail_ask.new.self) c.in_err-fail_ask-in-Some.ensures.err)

pub returns-in_err-fail_ask-in-Some-clause-quiet : goal.returns-in_err-fail_ask-in-Some-clause-quiet
returns-in_err-fail_ask-in-Some-clause-quiet g c = λ now q. absurd (failure_loud (state_of c.args.self.now) now c.args.ask c.in-Some.number c.in-Some.ensures q)

pub returns-in_ok-fail_ask-in-Some-clause-ok : goal.returns-in_ok-fail_ask-in-Some-clause-ok
returns-in_ok-fail_ask-in-Some-clause-ok g c = λ now.
    failure_heard (state_of c.args.self.now) now c.args.ask c.in-Some.number c.in-Some.ensures _ (state_of c.fail_ask.new.self) c.in_ok-fail_ask-in-Some.ensures.ok

pub returns-in-None-clause-ok : goal.returns-in-None-clause-ok
returns-in-None-clause-ok g c = λ now. failure_missed (state_of c.args.self.now) now c.args.ask c.in-None.ensures

pub returns-in_ok-fail_ask-in-Some-clause-quiet : goal.returns-in_ok-fail_ask-in-Some-clause-quiet
returns-in_ok-fail_ask-in-Some-clause-quiet g c = λ now q. absurd (failure_loud (state_of c.args.self.now) now c.args.ask c.in-Some.number c.in-Some.ensures q)
