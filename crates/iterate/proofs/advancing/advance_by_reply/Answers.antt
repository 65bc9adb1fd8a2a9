use Rattle.resolution.specs.Jobs.{Told, point}
use Rattle.resolution.specs.Stops.{in_input, in_rule}
use Rattle.resolution.proofs.Falls.{enters_fresh}
use Rattle.iterate.specs.Views.{task_view}
use Rattle.iterate.proofs.Accepted.{on_err}
use Rattle.iterate.proofs.advancing.advance_by_reply.Goals as goal

pub run-requires : goal.run-requires
run-requires g c =
    let (way, m, reads, sought) = c.requires.read in
    enters_fresh c.args.now (Told way c.args.server m) c.args.job.now c.args.stores.now (point (task_view c.in_ok-first.first) c.enter_by_reply.new.job c.enter_by_reply.new.stores)
    (c.in_ok-first.ensures.enters way m reads sought)

pub returns-in_err-first-clause-stops : goal.returns-in_err-first-clause-stops
returns-in_err-first-clause-stops g c = λ way m reads sought. on_err c.from_residual.result (in_input (c.in_err-first.ensures.part way m reads sought))

pub returns-in_err-run-clause-stops : goal.returns-in_err-run-clause-stops
returns-in_err-run-clause-stops g c = λ way m reads sought.
    let (count, last, rules, part) = c.in_err-run.ensures.part in
    on_err c.from_residual-in_err-run.result
    (in_rule (point (task_view c.in_ok-first.first) c.enter_by_reply.new.job c.enter_by_reply.new.stores) last count (c.in_ok-first.ensures.enters way m reads sought) rules part)
