use Rattle.std.proofs.Common.{◌≡◌, [], drop}
use Rattle.workers.specs.Working.{Goes}
use Rattle.workers.proofs.working.work.Given as goal

abbrev pub invariant-loop-query : goal.invariant-loop-query
invariant-loop-query g l =
    (l.ticket.worker ≡ l.initial.ticket.worker)
    × Goes g.M.FollowUps.event_of g.M.FollowUps.follow_ups l.queries l.entries.items (drop l.query-index l.queries) []
