use Rattle.iterate.specs.Views.{task_view}
use Rattle.resolution.specs.Jobs.{point}
use Rattle.resolution.proofs.Falls.{measure_by}
use Rattle.iterate.proofs.Turns.{Running}
use Rattle.iterate.proofs.advancing.run.Given as goal

abbrev pub invariant-turns : goal.invariant-turns
invariant-turns g l = Running l.home l.now (point (task_view l.fn.first) l.fn.job l.fn.stores) (point (task_view l.task) l.job l.stores)

abbrev pub decreases-turns : goal.decreases-turns
decreases-turns g l = measure_by l.now (task_view l.task) l.job (l.stores).failures
