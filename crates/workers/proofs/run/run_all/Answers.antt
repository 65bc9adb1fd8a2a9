use Rattle.std.proofs.Common.{Vec, Global}
use Rattle.workers.proofs.Ending.{both, closed_run}
use Rattle.workers.proofs.run.run_all.Goals as goal

pub returns : goal.returns
returns g c =
    both c.gather.result _ _ _
    (λ x closes lists. closed_run g.M.Machine.moves g.M.Machine.begins g.M.FollowUps.event_of g.M.FollowUps.follow_ups (λ (q : Vec g.row.M-Query.Denot Global). q.items)
    c.args.queries.now c.in_ok-book.tickets.items c.in_ok-kept.kept.items _ _ _ c.in_ok-book.ensures.tickets c.in_ok-kept.ensures.many c.in_ok-kept.ensures.each closes lists)
    c.gather.ensures.closes c.gather.ensures.lists
