use Rattle.std.proofs.Common.{inl, inr, refl}
use Rattle.std.proofs.lemmas.Result.{IfOk-weaker, on_err_weaker}
use Rattle.iterate.specs.Views.{input_view, next_view}
use Rattle.runs.specs.States.{State}
use Rattle.engine.specs.ResolverStates.{state_of}
use Rattle.engine.specs.Replies.{alone}
use Rattle.engine.proofs.Lift.{goes_on, falls_after}
use Rattle.engine.proofs.state.ResolverState.advance_query.Goals as goal

pub follow-requires : goal.follow-requires
follow-requires g c = record {
  sound = record { sockets = c.requires.sound.sockets; clock = c.requires.sound.clock; few = c.requires.sound.few; opened = c.requires.sound.opened; asked = c.requires.sound.asked; sought = c.requires.sound.sought };
  fresh = c.requires.fresh;
}

pub returns-in-Ok-clause-ok : goal.returns-in-Ok-clause-ok
returns-in-Ok-clause-ok g c =
    let s : State = state_of c.args.self.now in
    IfOk-weaker c.follow.result _ _
    (λ a h. goes_on s (record s { stores = c.advance-gives.new.stores }) c.args.client_query c.args.number c.args.job (input_view c.args.input) (next_view c.in-Ok.next) c.advance-gives.new.job c.advance-gives.new.stores
    (alone a) (state_of c.follow.new.self) c.requires.fresh refl c.in-Ok.ensures.advances h)
    c.follow.ensures.ok

pub returns-in-Ok-clause-err : goal.returns-in-Ok-clause-err
returns-in-Ok-clause-err g c =
    let s : State = state_of c.args.self.now in
    on_err_weaker c.follow.result
    (falls_after s (record s { stores = c.advance-gives.new.stores }) c.args.job (input_view c.args.input) (next_view c.in-Ok.next) c.advance-gives.new.job c.advance-gives.new.stores (state_of c.follow.new.self) refl c.in-Ok.ensures.advances)
    c.follow.ensures.err

pub returns-in-Err-clause-err : goal.returns-in-Err-clause-err
returns-in-Err-clause-err g c = record { stores = inr c.in-Err.ensures.stops; generator = inl refl; state = refl }
