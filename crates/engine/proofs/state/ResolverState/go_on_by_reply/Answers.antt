use Rattle.std.proofs.Common.{refl, sym, subst, arith}
use Rattle.std.proofs.lemmas.Result.{IfOk-weaker, on_err_weaker}
use Rattle.classify.specs.Views.{reading_view}
use Rattle.resolution.specs.Jobs.{Job, Told}
use Rattle.iterate.specs.Inputs.{IsSoughtIn}
use Rattle.runs.specs.States.{State, ClientQuery}
use Rattle.engine.specs.ResolverStates.{state_of}
use Rattle.engine.specs.Moves.{Goes, Falls}
use Rattle.engine.specs.Replies.{alone}
use Rattle.engine.proofs.Heard.{sought_in}
use Rattle.engine.proofs.Lift.{serves_one, drops_one, none_of}
use Rattle.engine.proofs.state.ResolverState.go_on_by_reply.Goals as goal

pub advance_query_by_reply-requires : goal.advance_query_by_reply-requires
advance_query_by_reply-requires g c =
    let taken = c.in-Some.ensures in
    record {
      sound = record {
        sockets = c.requires.sound.sockets;
        clock = c.requires.sound.clock;
        few = omega (arith, taken.fewer, c.requires.sound.few);
        opened = λ q there. c.requires.sound.opened q (taken.others.only q there).0;
        asked = λ q there number path. c.requires.sound.asked q (taken.others.only q there).0 number path;
        sought = λ q there. c.requires.sound.sought q (taken.others.only q there).0;
      };
      fresh = none_of c.args.number c.args.self.now.queries c.take_out.new.self taken.others;
      read = (
        c.requires.read.0,
        c.requires.read.1,
        c.requires.read.2,
        subst (λ (j : Job). IsSoughtIn j (reading_view c.args.reading.now)) (sym c.into_work-client_query.ensures.job)
            (sought_in c.in-Some.open (reading_view c.args.reading.now) (c.requires.sound.sought c.in-Some.open taken.one.stands) (c.requires.answers c.in-Some.open taken.one)),
      );
    }

pub returns-clause-ok : goal.returns-clause-ok
returns-clause-ok g c = λ way m reads.
    let s : State = state_of c.args.self.now in
    let mid : State = record s { queries = c.take_out.new.self } in
    let new : State = state_of c.advance_query_by_reply.new.self in
    let r = reading_view c.args.reading.now in
    let taken = c.in-Some.ensures in
    let job = c.into_work-client_query.ensures.job in
    let told = Told way c.args.server m in
    IfOk-weaker c.advance_query_by_reply.result _ _
    (λ a h. serves_one s mid c.args.number c.in-Some.open told (alone a) new c.take_out.new.self taken refl
    (subst (λ (j : Job). Goes mid c.in-Some.open.client_query c.args.number j told (alone a) new) job
    (subst (λ (w : ClientQuery). Goes mid w c.args.number c.into_work-client_query.result.1 told (alone a) new) c.into_work-client_query.ensures.client_query h)))
    (c.advance_query_by_reply.ensures.ok way m reads
    (subst (λ (j : Job). IsSoughtIn j r) (sym job) (sought_in c.in-Some.open r (c.requires.sound.sought c.in-Some.open taken.one.stands) (c.requires.answers c.in-Some.open taken.one))))

pub returns-clause-err : goal.returns-clause-err
returns-clause-err g c = λ way m reads.
    let s : State = state_of c.args.self.now in
    let mid : State = record s { queries = c.take_out.new.self } in
    let new : State = state_of c.advance_query_by_reply.new.self in
    let r = reading_view c.args.reading.now in
    let taken = c.in-Some.ensures in
    let job = c.into_work-client_query.ensures.job in
    on_err_weaker c.advance_query_by_reply.result
    (λ h. drops_one s mid c.args.number c.in-Some.open (Told way c.args.server m) new c.take_out.new.self taken refl (subst (λ (j : Job). Falls mid j (Told way c.args.server m) new) job h))
    (c.advance_query_by_reply.ensures.err way m reads
    (subst (λ (j : Job). IsSoughtIn j r) (sym job) (sought_in c.in-Some.open r (c.requires.sound.sought c.in-Some.open taken.one.stands) (c.requires.answers c.in-Some.open taken.one))))

pub unreachable-requires : goal.unreachable-requires
unreachable-requires g c = c.in-None.ensures.0 c.requires.there.0 c.requires.there.1.stands c.requires.there.1.number_is
