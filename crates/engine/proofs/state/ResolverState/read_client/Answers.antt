use Rattle.std.proofs.Common.{rules}
use Rattle.std.proofs.lemmas.Result.{IfOk-weaker, on_err_weaker}
use Rattle.events.specs.Plain.{plain_asked}
use Rattle.engine.specs.ResolverStates.{state_of}
use Rattle.engine.specs.Replies.{if_any}
use Rattle.engine.proofs.Called.{at_err, turns_handled, turns_gone, turns_unread}
use Rattle.engine.proofs.state.ResolverState.read_client.Goals as goal

pub returns-in_err-request-clause-err : goal.returns-in_err-request-clause-err
returns-in_err-request-clause-err g c = λ now bytes reads.
    at_err _ (turns_unread (state_of c.args.self.now) now c.args.client c.args.way bytes c.requires.sound)

pub returns-clause-ok : goal.returns-clause-ok
returns-clause-ok g c = λ now bytes reads.
    IfOk-weaker c.handle.result _ _
    (λ a h. turns_handled (state_of c.args.self.now) now c.args.client c.args.way bytes (plain_asked c.in_ok-request.request) (if_any a) (state_of c.handle.new.self) (search rules) h)
    c.handle.ensures.ok

pub returns-clause-err : goal.returns-clause-err
returns-clause-err g c = λ now bytes reads.
    on_err_weaker c.handle.result (turns_gone (state_of c.args.self.now) now c.args.client c.args.way bytes (plain_asked c.in_ok-request.request) (state_of c.handle.new.self) (search rules)) c.handle.ensures.err
