use Rattle.std.proofs.Common.{sym, ◌∙◌}
use Rattle.engine.specs.ResolverStates.{state_of}
use Rattle.engine.specs.Replies.{alone}
use Rattle.engine.proofs.Called.{at_err, lost_none, lost_work, resolved, answered}
use Rattle.engine.proofs.state.ResolverState.resolve.Goals as goal

pub returns-in_ok-begin_query-clause-ok : goal.returns-in_ok-begin_query-clause-ok
returns-in_ok-begin_query-clause-ok g c =
    resolved (state_of c.args.self.now) c.args.client_query (alone c.in_ok-begin_query.field-0) (state_of c.begin_query.new.self) (sym c.is_recursive.ensures ∙ c.if-is_recursive.true) c.in_ok-begin_query.ensures.ok

pub returns-in_ok-at_hand-clause-ok : goal.returns-in_ok-at_hand-clause-ok
returns-in_ok-at_hand-clause-ok g c =
    answered (state_of c.args.self.now) c.args.client_query (alone c.in_ok-at_hand.field-0) (state_of c.args.self.now) (sym c.is_recursive.ensures ∙ c.if-is_recursive.false) c.in_ok-at_hand.ensures

pub returns-in_err-at_hand-clause-err : goal.returns-in_err-at_hand-clause-err
returns-in_err-at_hand-clause-err g c = at_err _ (lost_none (state_of c.args.self.now) _ c.requires.sound)

pub returns-in_err-begin_query-clause-err : goal.returns-in_err-begin_query-clause-err
returns-in_err-begin_query-clause-err g c =
    at_err _ (lost_work (state_of c.args.self.now) c.args.client_query.query (state_of c.begin_query.new.self) (sym c.is_recursive.ensures ∙ c.if-is_recursive.true) c.in_err-begin_query.ensures.err)
