use Rattle.resolution.specs.Jobs.{point}
use Rattle.iterate.specs.Views.{task_view}
use Rattle.iterate.proofs.Accepted.{on_err}
use Rattle.iterate.proofs.Turns.{running_on, running_falls}
use Rattle.iterate.proofs.advancing.run.Goals as goal

pub returns-in_err-onward-clause-part : goal.returns-in_err-onward-clause-part
returns-in_err-onward-clause-part g c =
    on_err c.from_residual.result (c.turns.invariant.count, point (task_view c.turns.task) c.turns.job c.turns.stores, c.turns.invariant.rules, c.in_err-onward.ensures.part)

pub turns-smaller : goal.turns-smaller
turns-smaller g c =
    running_falls c.args.home.now c.args.now (point (task_view c.args.first) c.args.job.now c.args.stores.now) (point (task_view c.turns.task) c.turns.job c.turns.stores)
    (point (task_view c.in-Onward.onward) c.make_move.new.job c.make_move.new.stores) c.turns.invariant (rw c.in-Onward.is at c.in_ok-onward.ensures.is)

pub turns-preserved : goal.turns-preserved
turns-preserved g c =
    running_on c.args.home.now c.args.now (point (task_view c.args.first) c.args.job.now c.args.stores.now) (point (task_view c.turns.task) c.turns.job c.turns.stores)
    (point (task_view c.in-Onward.onward) c.make_move.new.job c.make_move.new.stores) c.turns.invariant (rw c.in-Onward.is at c.in_ok-onward.ensures.is)
