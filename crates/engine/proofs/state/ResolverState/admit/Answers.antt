use Rattle.std.proofs.Common.{◌<◌, ◌≤◌, length, arith}
use Rattle.std.proofs.lemmas.Result.{IfOk-weaker}
use Rattle.iterate.specs.Views.{next_view}
use Rattle.runs.specs.Steps.{most_open}
use Rattle.engine.specs.ResolverStates.{state_of}
use Rattle.engine.specs.Replies.{alone}
use Rattle.engine.proofs.Started.{opens_at_once, opens_new, opens_not}
use Rattle.engine.proofs.state.ResolverState.admit.Goals as goal

pub returns-then-not-is_ask-clause-ok : goal.returns-then-not-is_ask-clause-ok
returns-then-not-is_ask-clause-ok g c =
    IfOk-weaker c.follow.result _ _
    (λ a h. opens_at_once (state_of c.args.self.now) c.args.client_query (next_view c.args.next) c.args.job (alone a) (state_of c.follow.new.self) c.if-not-is_ask.ensures h)
    c.follow.ensures.ok

pub returns-then-len-lt-MAX_OPEN_QUERIES-clause-ok : goal.returns-then-len-lt-MAX_OPEN_QUERIES-clause-ok
returns-then-len-lt-MAX_OPEN_QUERIES-clause-ok g c =
    let room : length c.args.self.now.queries < most_open = omega (arith, c.len.ensures, c.if-len-lt-MAX_OPEN_QUERIES.true) in
    IfOk-weaker c.let_in.result _ _
    (λ a h. opens_new (state_of c.args.self.now) c.args.client_query (next_view c.args.next) c.args.job (alone a) (state_of c.let_in.new.self) c.if-not-is_ask.ensures room h)
    c.let_in.ensures.ok

pub returns-clause-ok : goal.returns-clause-ok
returns-clause-ok g c =
    let full : most_open ≤ length c.args.self.now.queries = omega (arith, c.len.ensures, c.if-len-lt-MAX_OPEN_QUERIES.false) in
    opens_not (state_of c.args.self.now) c.args.client_query (next_view c.args.next) c.args.job (alone c.fail.result) (state_of c.args.self.now) c.if-not-is_ask.ensures full c.fail.ensures
