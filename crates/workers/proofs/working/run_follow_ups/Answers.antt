use Rattle.std.proofs.Common.{rules}
use Rattle.workers.proofs.Goings.{runs}
use Rattle.workers.proofs.working.run_follow_ups.Goals as goal

pub loop-round-preserved : goal.loop-round-preserved
loop-round-preserved g c = (
  search rules,
  λ all left h. runs g.M.FollowUps.event_of g.M.FollowUps.follow_ups all left _ _ _ _ _ _ (c.loop-round.invariant.1 all left h) c.in_ok-enter.ensures.entered (search rules),
)
