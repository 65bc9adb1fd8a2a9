use Rattle.engine.specs.ResolverStates.{state_of}
use Rattle.engine.proofs.Called.{at_err}
use Rattle.engine.proofs.Arms.{tick_rung, tick_lost, tick_loud, followed}
use Rattle.engine.proofs.state.ResolverState.tick.Goals as goal

pub returns-in_err-ring-in-Some-clause-err : goal.returns-in_err-ring-in-Some-clause-err
returns-in_err-ring-in-Some-clause-err g c =
    at_err c.from_residual.result (λ now. tick_lost (state_of c.args.self.now) now c.in-Some.number c.in-Some.ensures (state_of c.ring.new.self) c.in_err-ring-in-Some.ensures.err)

pub returns-in_ok-ring-in-Some-clause-ok : goal.returns-in_ok-ring-in-Some-clause-ok
returns-in_ok-ring-in-Some-clause-ok g c = λ now.
    tick_rung (state_of c.args.self.now) now c.in-Some.number c.in-Some.ensures (state_of c.ring.new.self) _ _ c.in_ok-ring-in-Some.ensures.ok
    (followed (state_of c.ring.new.self) _ c.first_due-in-Some.result c.is_some.result c.is_some.ensures c.first_due-in-Some.ensures)

pub returns-in_err-ring-in-Some-clause-quiet : goal.returns-in_err-ring-in-Some-clause-quiet
returns-in_err-ring-in-Some-clause-quiet g c = λ now q. absurd (tick_loud (state_of c.args.self.now) now c.in-Some.number c.in-Some.ensures (state_of c.ring.new.self) q)

pub returns-in_ok-ring-in-Some-clause-quiet : goal.returns-in_ok-ring-in-Some-clause-quiet
returns-in_ok-ring-in-Some-clause-quiet g c = λ now q. absurd (tick_loud (state_of c.args.self.now) now c.in-Some.number c.in-Some.ensures (state_of c.ring.new.self) q)
