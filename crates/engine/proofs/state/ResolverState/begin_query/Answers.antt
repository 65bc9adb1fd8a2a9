use Rattle.std.proofs.Common.{[], refl}
use Rattle.std.proofs.lemmas.Result.{IfOk-weaker, on_err_weaker}
use Rattle.iterate.specs.Views.{next_view}
use Rattle.resolution.specs.Jobs.{Done}
use Rattle.runs.specs.States.{State}
use Rattle.engine.specs.ResolverStates.{state_of}
use Rattle.engine.specs.Replies.{alone}
use Rattle.engine.proofs.Started.{next_is_fresh}
use Rattle.engine.proofs.Lift.{halts_same}
use Rattle.engine.proofs.Called.{at_err, lost_in, lost_after, begins, begins_known}
use Rattle.engine.proofs.state.ResolverState.begin_query.Goals as goal

pub answer-requires : goal.answer-requires
answer-requires g c = next_is_fresh (state_of c.args.self.now) c.requires.sound

pub admit-requires : goal.admit-requires
admit-requires g c =
    record { sockets = c.requires.sound.sockets; clock = c.requires.sound.clock; few = c.requires.sound.few; opened = c.requires.sound.opened; asked = c.requires.sound.asked; sought = c.requires.sound.sought }

pub returns-in_err-last-clause-err : goal.returns-in_err-last-clause-err
returns-in_err-last-clause-err g c =
    at_err c.from_residual.result (lost_in (state_of c.args.self.now) c.args.client_query.query c.begun.new.stores c.requires.sound c.in_err-last.ensures.stops)

pub returns-in-Answered-clause-ok : goal.returns-in-Answered-clause-ok
returns-in-Answered-clause-ok g c =
    let s : State = state_of c.args.self.now in
    let known = rw c.in-Answered.is at c.in_ok-last.ensures.begins in
    IfOk-weaker c.answer.result _ _
    (λ a h. begins_known s (record s { stores = c.begun.new.stores }) c.args.client_query c.new.result c.in-Answered.last known.0 c.begun.new.stores (alone a) (record s { stores = c.begun.new.stores }) c.requires.sound refl c.new.ensures known.1 h)
    c.answer.ensures

pub returns-in-Answered-clause-err : goal.returns-in-Answered-clause-err
returns-in-Answered-clause-err g c =
    let s : State = state_of c.args.self.now in
    let mid : State = record s { stores = c.begun.new.stores } in
    let known = rw c.in-Answered.is at c.in_ok-last.ensures.begins in
    at_err c.answer.result
    (lost_after s mid c.args.client_query.query (Done [] c.in-Answered.last) known.0 c.begun.new.stores mid c.requires.sound refl known.1 (halts_same mid mid refl))

pub returns-in-Working-clause-ok : goal.returns-in-Working-clause-ok
returns-in-Working-clause-ok g c =
    let s : State = state_of c.args.self.now in
    IfOk-weaker c.admit.result _ _
    (λ a h. begins s (record s { stores = c.begun.new.stores }) c.args.client_query (next_view c.in-Working.next) c.in-Working.job c.begun.new.stores (alone a) (state_of c.admit.new.self) c.requires.sound refl
    (rw c.in-Working.is at c.in_ok-last.ensures.begins) h)
    c.admit.ensures.ok

pub returns-in-Working-clause-err : goal.returns-in-Working-clause-err
returns-in-Working-clause-err g c =
    let s : State = state_of c.args.self.now in
    on_err_weaker c.admit.result
    (lost_after s (record s { stores = c.begun.new.stores }) c.args.client_query.query (next_view c.in-Working.next) c.in-Working.job c.begun.new.stores (state_of c.admit.new.self) c.requires.sound refl
    (rw c.in-Working.is at c.in_ok-last.ensures.begins))
    c.admit.ensures.err
