use Rattle.std.proofs.Common.{sym, subst, refl, IfOk}
use Rattle.iterate.specs.declared.calls.Next.{Next}
use Rattle.iterate.specs.Views.{next_view}
use Rattle.runs.specs.States.{State}
use Rattle.runs.specs.Steps.{Comes}
use Rattle.engine.specs.ResolverStates.{state_of}
use Rattle.engine.specs.Replies.{alone}
use Rattle.engine.proofs.Called.{at_err}
use Rattle.engine.proofs.Lift.{halts_same}
use Rattle.engine.proofs.state.ResolverState.follow.Goals as goal

pub returns-in-Done-clause-ok : goal.returns-in-Done-clause-ok
returns-in-Done-clause-ok g c =
    let s : State = state_of c.args.self.now in
    subst (λ (x : Next _). IfOk c.answer.result (λ a. Comes s c.args.client_query c.args.number s.opened (next_view x) c.args.job s.stores (alone a) s)) (sym c.in-Done.is) c.answer.ensures

pub returns-in-Done-clause-err : goal.returns-in-Done-clause-err
returns-in-Done-clause-err g c = let s : State = state_of c.args.self.now in at_err c.answer.result (halts_same s s refl)

pub returns-in-Fail-clause-ok : goal.returns-in-Fail-clause-ok
returns-in-Fail-clause-ok g c =
    let s : State = state_of c.args.self.now in
    subst (λ (x : Next _). Comes s c.args.client_query c.args.number s.opened (next_view x) c.args.job s.stores (alone c.fail.result) s) (sym c.in-Fail.is) c.fail.ensures
