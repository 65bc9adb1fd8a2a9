use Rattle.std.proofs.Common.{◌-◌, ◌≤◌}
use Rattle.dispatch.proofs.Naming.{Led}
use Rattle.dispatch.proofs.questions.name_end.Given as goal

abbrev pub invariant-loop-at : goal.invariant-loop-at
invariant-loop-at l = (12 ≤ l.at) × Led l.message l.at

abbrev pub decreases-loop-at : goal.decreases-loop-at
decreases-loop-at l = 330 - l.at
