use Rattle.std.proofs.Common.{drop}
use Rattle.std.proofs.lemmas.List.{drop_all}
use Rattle.workers.proofs.Goings.{ends, did}
use Rattle.workers.proofs.working.work.Goals as goal

pub returns : goal.returns
returns g c =
    let event_of = g.M.FollowUps.event_of in
    let follow_ups = g.M.FollowUps.follow_ups in
    let queries = c.args.queries.now in
    let i = c.loop-query.query-index in
    let entries = c.loop-query.entries.items in
    did event_of follow_ups c.args.ticket.worker queries c.loop-query.ticket entries c.new.result c.new.ensures c.loop-query.invariant.0
    (ends event_of follow_ups queries (drop i queries) entries (drop_all i queries c.loop-query-test.false) c.loop-query.invariant.1)
