use Rattle.std.proofs.Common.{◌≡◌, List}
use Rattle.workers.specs.Working.{Goes}
use Rattle.workers.proofs.working.run_follow_ups.Given as goal

abbrev pub invariant-loop-round : goal.invariant-loop-round
invariant-loop-round g l =
    (l.ticket.worker ≡ l.initial.ticket.worker)
    × ((all left : List _) → Goes g.M.FollowUps.event_of g.M.FollowUps.follow_ups all l.initial.entries.items left l.initial.waiting.items → Goes g.M.FollowUps.event_of g.M.FollowUps.follow_ups all l.entries.items left l.waiting.items)
