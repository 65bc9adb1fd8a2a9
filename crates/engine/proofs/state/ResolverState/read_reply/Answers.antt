use Rattle.std.proofs.Common.{sym, subst}
use Rattle.runs.specs.States.{TcpReply, State}
use Rattle.runs.specs.Steps.{IsOfNumber}
use Rattle.open_queries.specs.Lookups.{IsTheOne}
use Rattle.engine.specs.ResolverStates.{state_of, IsSound}
use Rattle.engine.specs.Moves.{IsPassed}
use Rattle.engine.proofs.Called.{at_err}
use Rattle.engine.proofs.Found.{found_is}
use Rattle.engine.proofs.Arms.{reply_missed, reply_heard, reply_lost, reply_failed, reply_failed_lost}
use Rattle.engine.proofs.state.ResolverState.read_reply.Goals as goal

pub hear_over-requires : goal.hear_over-requires
hear_over-requires g c = record {
  sound = c.requires.sound;
  there = (c.in-Some.ensures.query, c.in-Some.ensures.one);
  asked = λ q one. found_is (IsOfNumber c.args.ask) c.args.self.now.queries c.in-Some.number q c.in-Some.ensures one;
  read = c.requires.read;
}

pub fail_ask-requires : goal.fail_ask-requires
fail_ask-requires g c =
    let bytes = c.requires.read.0 in
    let passed : IsPassed (state_of c.args.self.now) c.in-Some.number (TcpReply 0 c.args.ask bytes) (state_of c.hear_over.new.self) = rw c.in-None.is at c.in_ok-given.ensures.ok 0 bytes c.requires.read.1 in
    record {
      sound = subst IsSound (sym passed.state) c.requires.sound;
      there = (passed.query, subst (λ (z : State). IsTheOne z.queries c.in-Some.number passed.query) (sym passed.state) passed.one);
    }

pub returns-in_default-clause-ok : goal.returns-in_default-clause-ok
returns-in_default-clause-ok g c = λ now bytes read. reply_missed (state_of c.args.self.now) now c.args.ask bytes c.in_default.ensures

pub returns-in_err-given-clause-err : goal.returns-in_err-given-clause-err
returns-in_err-given-clause-err g c = λ now bytes read.
    at_err c.from_residual.result
    (reply_lost (state_of c.args.self.now) now c.args.ask bytes c.in-Some.number c.in-Some.ensures (state_of c.hear_over.new.self) (c.in_err-given.ensures.err now bytes read))

pub returns-in-Some-2-clause-ok : goal.returns-in-Some-2-clause-ok
returns-in-Some-2-clause-ok g c = λ now bytes read.
    reply_heard (state_of c.args.self.now) now c.args.ask bytes c.in-Some.number c.in-Some.ensures _ (state_of c.hear_over.new.self)
    (rw c.in-Some-2.is at c.in_ok-given.ensures.ok now bytes read)

pub returns-in_err-fail_ask-in-None-clause-err : goal.returns-in_err-fail_ask-in-None-clause-err
returns-in_err-fail_ask-in-None-clause-err g c = λ now bytes read.
    at_err c.from_residual-in_err-fail_ask-in-None.result
    (reply_failed_lost (state_of c.args.self.now) now c.args.ask bytes c.in-Some.number c.in-Some.ensures (state_of c.hear_over.new.self)
    (rw c.in-None.is at c.in_ok-given.ensures.ok now bytes read) (state_of c.fail_ask.new.self) c.in_err-fail_ask-in-None.ensures.err)

pub returns-in_ok-fail_ask-in-None-clause-ok : goal.returns-in_ok-fail_ask-in-None-clause-ok
returns-in_ok-fail_ask-in-None-clause-ok g c = λ now bytes read.
    reply_failed (state_of c.args.self.now) now c.args.ask bytes c.in-Some.number c.in-Some.ensures (state_of c.hear_over.new.self)
    (rw c.in-None.is at c.in_ok-given.ensures.ok now bytes read) _ (state_of c.fail_ask.new.self) c.in_ok-fail_ask-in-None.ensures.ok
