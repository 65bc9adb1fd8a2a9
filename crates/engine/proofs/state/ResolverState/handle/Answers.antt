use Rattle.std.proofs.Common.{sym, subst, []}
use Rattle.front.specs.declared.queries.Request.{Request}
use Rattle.events.specs.Plain.{plain, plain_asked}
use Rattle.runs.specs.States.{State}
use Rattle.typed.specs.Views.{said_view}
use Rattle.engine.specs.ResolverStates.{state_of}
use Rattle.engine.specs.Replies.{alone}
use Rattle.engine.specs.Calls.{Handles, IsGone}
use Rattle.engine.proofs.Called.{at_err, handles_dropped, handles_refused, handles_query}
use Rattle.engine.proofs.state.ResolverState.handle.Goals as goal

pub returns-in-Drop-clause-ok : goal.returns-in-Drop-clause-ok
returns-in-Drop-clause-ok g c =
    let s : State = state_of c.args.self.now in
    subst (λ (x : Request _). Handles s c.args.client c.args.way (plain_asked x) [] s) (sym c.in-Drop.is) (handles_dropped s c.args.client c.args.way)

pub returns-in-Refuse-clause-ok : goal.returns-in-Refuse-clause-ok
returns-in-Refuse-clause-ok g c =
    let s : State = state_of c.args.self.now in
    subst (λ (x : Request _). Handles s c.args.client c.args.way (plain_asked x) (alone c.refuse.result) s) (sym c.in-Refuse.is)
    (handles_refused s c.args.client c.args.way c.in-Refuse.why c.in-Refuse.start c.in-Refuse.echo (said_view c.refuse.result) c.refuse.ensures)

pub returns-in_ok-resolve-in-Query-clause-ok : goal.returns-in_ok-resolve-in-Query-clause-ok
returns-in_ok-resolve-in-Query-clause-ok g c =
    let s : State = state_of c.args.self.now in
    let new : State = state_of c.resolve.new.self in
    subst (λ (x : Request _). Handles s c.args.client c.args.way (plain_asked x) (alone c.in_ok-resolve-in-Query.field-0) new) (sym c.in-Query.is)
    (handles_query s c.args.client c.args.way (plain c.in-Query.query) (alone c.in_ok-resolve-in-Query.field-0) new c.in_ok-resolve-in-Query.ensures.ok)

pub returns-in_err-resolve-in-Query-clause-err : goal.returns-in_err-resolve-in-Query-clause-err
returns-in_err-resolve-in-Query-clause-err g c =
    at_err _ (subst (λ (x : Request _). IsGone (state_of c.args.self.now) (plain_asked x) (state_of c.resolve.new.self)) (sym c.in-Query.is) c.in_err-resolve-in-Query.ensures.err)
