use Rattle.std.proofs.Common.{ℕ, None}
use Rattle.std.proofs.lemmas.Bool.{false≢true}
use Rattle.std.proofs.lemmas.Result.{IfOk-weaker, on_err_weaker}
use Rattle.events.specs.Plain.{plain_asked}
use Rattle.runs.specs.States.{Client, State}
use Rattle.engine.specs.ResolverStates.{state_of}
use Rattle.engine.specs.Replies.{if_any}
use Rattle.engine.specs.Turns.{Turns}
use Rattle.engine.proofs.Called.{at_err, is_dropped, turns_handled, turns_gone, turns_unread}
use Rattle.engine.proofs.state.ResolverState.client.Goals as goal

pub returns-in_err-asked-clause-err : goal.returns-in_err-asked-clause-err
returns-in_err-asked-clause-err g c =
    let s : State = state_of c.args.self.now in
    let lost : (now : ℕ) → Turns s (Client now c.args.client c.args.way c.args.bytes.now) None s = λ now. turns_unread s now c.args.client c.args.way c.args.bytes.now c.requires.sound in
    at_err _ lost

pub returns-in_err-asked-clause-quiet : goal.returns-in_err-asked-clause-quiet
returns-in_err-asked-clause-quiet g c = λ short. absurd (false≢true (c.in_err-asked.ensures.dropped short))

pub returns-clause-ok : goal.returns-clause-ok
returns-clause-ok g c =
    let s : State = state_of c.args.self.now in
    IfOk-weaker c.handle.result _ _
    (λ a h now. turns_handled s now c.args.client c.args.way c.args.bytes.now (plain_asked c.in_ok-asked.asked) (if_any a) (state_of c.handle.new.self) c.in_ok-asked.ensures.asked h)
    c.handle.ensures.ok

pub returns-clause-err : goal.returns-clause-err
returns-clause-err g c =
    on_err_weaker c.handle.result
    (λ h now. turns_gone (state_of c.args.self.now) now c.args.client c.args.way c.args.bytes.now (plain_asked c.in_ok-asked.asked) (state_of c.handle.new.self) c.in_ok-asked.ensures.asked h)
    c.handle.ensures.err

pub returns-clause-quiet : goal.returns-clause-quiet
returns-clause-quiet g c = λ short. c.handle.ensures.quiet (is_dropped c.args.bytes.now (plain_asked c.in_ok-asked.asked) c.in_ok-asked.ensures.asked short)
