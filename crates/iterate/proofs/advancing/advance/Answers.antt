use Rattle.resolution.specs.Jobs.{point}
use Rattle.resolution.specs.Stops.{in_input, in_rule}
use Rattle.resolution.proofs.Falls.{enters_fresh}
use Rattle.iterate.specs.Views.{input_view, task_view}
use Rattle.iterate.proofs.Accepted.{on_err}
use Rattle.iterate.proofs.advancing.advance.Goals as goal

pub run-requires : goal.run-requires
run-requires g c =
    enters_fresh c.args.now (input_view c.args.input) c.args.job.now c.args.stores.now (point (task_view c.in_ok-first.first) c.enter.new.job c.enter.new.stores) c.in_ok-first.ensures.enters

pub returns-in_err-first-clause-stops : goal.returns-in_err-first-clause-stops
returns-in_err-first-clause-stops g c = on_err c.from_residual.result (in_input c.in_err-first.ensures.part)

pub returns-in_err-run-clause-stops : goal.returns-in_err-run-clause-stops
returns-in_err-run-clause-stops g c =
    let (count, last, rules, part) = c.in_err-run.ensures.part in
    on_err c.from_residual-in_err-run.result (in_rule (point (task_view c.in_ok-first.first) c.enter.new.job c.enter.new.stores) last count c.in_ok-first.ensures.enters rules part)
