use Rattle.std.proofs.Common.{refl, subst, arith}
use Rattle.std.proofs.lemmas.Result.{IfOk-weaker, on_err_weaker}
use Rattle.resolution.specs.Jobs.{Job}
use Rattle.iterate.specs.Views.{input_view}
use Rattle.runs.specs.States.{State, ClientQuery}
use Rattle.engine.specs.ResolverStates.{state_of}
use Rattle.engine.specs.Moves.{Goes, Falls}
use Rattle.engine.specs.Replies.{alone}
use Rattle.engine.proofs.Lift.{serves_one, drops_one, none_of}
use Rattle.engine.proofs.state.ResolverState.go_on.Goals as goal

pub advance_query-requires : goal.advance_query-requires
advance_query-requires g c =
    let taken = c.in-Some.ensures in
    record {
      sound = record {
        sockets = c.requires.sound.sockets;
        clock = c.requires.sound.clock;
        few = omega (arith, taken.fewer, c.requires.sound.few);
        opened = λ q there. c.requires.sound.opened q (taken.others.only q there).0;
        asked = λ q there number path. c.requires.sound.asked q (taken.others.only q there).0 number path;
        sought = λ q there. c.requires.sound.sought q (taken.others.only q there).0;
      };
      fresh = none_of c.args.number c.args.self.now.queries c.take_out.new.self taken.others;
    }

pub returns-clause-ok : goal.returns-clause-ok
returns-clause-ok g c =
    let s : State = state_of c.args.self.now in
    let mid : State = record s { queries = c.take_out.new.self } in
    let input = input_view c.args.input in
    let new : State = state_of c.advance_query.new.self in
    IfOk-weaker c.advance_query.result _ _
    (λ a h. serves_one s mid c.args.number c.in-Some.open input (alone a) new c.take_out.new.self c.in-Some.ensures refl
    (subst (λ (j : Job). Goes mid c.in-Some.open.client_query c.args.number j input (alone a) new) c.into_work-client_query.ensures.job
    (subst (λ (w : ClientQuery). Goes mid w c.args.number c.into_work-client_query.result.1 input (alone a) new) c.into_work-client_query.ensures.client_query h)))
    c.advance_query.ensures.ok

pub returns-clause-err : goal.returns-clause-err
returns-clause-err g c =
    let s : State = state_of c.args.self.now in
    let mid : State = record s { queries = c.take_out.new.self } in
    let input = input_view c.args.input in
    let new : State = state_of c.advance_query.new.self in
    on_err_weaker c.advance_query.result
    (λ h. drops_one s mid c.args.number c.in-Some.open input new c.take_out.new.self c.in-Some.ensures refl (subst (λ (j : Job). Falls mid j input new) c.into_work-client_query.ensures.job h))
    c.advance_query.ensures.err

pub unreachable-requires : goal.unreachable-requires
unreachable-requires g c = c.in-None.ensures.0 c.requires.there.0 c.requires.there.1.stands c.requires.there.1.number_is
