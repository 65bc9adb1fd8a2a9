use Rattle.workers.proofs.Goings.{puts}
use Rattle.workers.proofs.working.put_query.Goals as goal

pub returns-clause-goes : goal.returns-clause-goes
returns-clause-goes g c =
    λ all left h. c.in_ok-run_follow_ups.ensures.goes all left
    (puts g.M.FollowUps.event_of g.M.FollowUps.follow_ups all left c.args.query.now _ _ _ _ _ c.in_ok-event.ensures c.new-waiting.ensures.items h c.in_ok-enter.ensures.entered)
