use Rattle.std.proofs.Common.{refl, min}
use Rattle.limits.specs.Limits.{latest_moment}
use Rattle.rdata.specs.Types.{type_number}
use Rattle.resolution.specs.Jobs.{Job, job_at}
use Rattle.iterate.proofs.Accepted.{on_err}
use Rattle.iterate.proofs.QueryStarts.{begins_known, stops_first}
use Rattle.iterate.proofs.beginning.begin_query.Goals as goal

pub returns-in_err-last-clause-stops : goal.returns-in_err-last-clause-stops
returns-in_err-last-clause-stops g c =
    on_err c.from_residual.result (stops_first c.args.home.now c.args.now (job_at c.args.name.now (type_number c.args.kind) (min c.args.now latest_moment)) c.args.stores.now c.find.new.stores c.in_err-last.ensures.part)

pub returns-then-is_end-clause-begins : goal.returns-then-is_end-clause-begins
returns-then-is_end-clause-begins g c =
    let query : Job = job_at c.args.name.now (type_number c.args.kind) (min c.args.now latest_moment) in
    (query, begins_known c.args.home.now c.args.now query c.args.stores.now c.in-Known.last c.find.new.stores refl (rw c.in-Known.is at c.in_ok-last.ensures.found) (c.is_end.ensures.0 c.if-is_end.true))

pub returns-else-is_end-clause-begins : goal.returns-else-is_end-clause-begins
returns-else-is_end-clause-begins g c = c.work.ensures.begins c.args.stores.now (rw c.in-Known.is at c.in_ok-last.ensures.found)

pub returns-else-is_end-clause-stops : goal.returns-else-is_end-clause-stops
returns-else-is_end-clause-stops g c = c.work.ensures.stops c.args.stores.now (rw c.in-Known.is at c.in_ok-last.ensures.found)

pub returns-in-Start-clause-stops : goal.returns-in-Start-clause-stops
returns-in-Start-clause-stops g c = c.work-in-Start.ensures.stops c.args.stores.now (rw c.in-Start.is at c.in_ok-last.ensures.found)
