use Rattle.runs.specs.States.{State}
use Rattle.engine.specs.ResolverStates.{state_of}
use Rattle.engine.specs.Replies.{alone}
use Rattle.engine.proofs.Lift.{none_of}
use Rattle.engine.proofs.Found.{expires}
use Rattle.engine.proofs.state.ResolverState.end.Goals as goal

pub fail-requires : goal.fail-requires
fail-requires g c = none_of c.args.number c.args.self.now.queries c.take_out.new.self c.in-Some.ensures.others

pub returns : goal.returns
returns g c =
    let s : State = state_of c.args.self.now in
    expires s c.args.number c.in-Some.open c.take_out.new.self c.into_work-client_query.result.0 (alone c.fail.result) (record s { queries = c.take_out.new.self }) c.in-Some.ensures
    c.into_work-client_query.ensures.client_query c.fail.ensures
