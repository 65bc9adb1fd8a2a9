use Rattle.resolution.specs.Jobs.{Seek, point}
use Rattle.resolution.proofs.Falls.{stays_fresh}
use Rattle.iterate.specs.Views.{task_view, next_view}
use Rattle.iterate.proofs.QueryStarts.{begins_work, stops_found, stops_later}
use Rattle.iterate.proofs.beginning.set_out.Goals as goal

pub run-requires : goal.run-requires
run-requires g c =
    stays_fresh c.args.home.now c.args.now (point Seek c.args.job c.requires.0) (point (task_view c.in-Ok.first) c.due_after.new.job c.args.stores.now)
    (c.in-Ok.ensures c.args.home.now c.args.now c.requires.0 c.requires.1)

pub returns-in-Ok-run-clause-begins : goal.returns-in-Ok-run-clause-begins
returns-in-Ok-run-clause-begins g c = λ before found.
    let ran = c.in-Ok-run.ensures.rules in
    begins_work c.args.home.now c.args.now c.args.job before (point (task_view c.in-Ok.first) c.due_after.new.job c.args.stores.now) ran.1 ran.0 (next_view c.in-Ok-run.next) c.run.new.job c.run.new.stores
    (c.in-Ok.ensures c.args.home.now c.args.now before found) ran.2 ran.3

pub returns-in-Err-clause-stops : goal.returns-in-Err-clause-stops
returns-in-Err-clause-stops g c = λ before found. stops_found c.args.home.now c.args.now c.args.job before c.args.found c.args.stores.now found

pub returns-in-Err-run-clause-stops : goal.returns-in-Err-run-clause-stops
returns-in-Err-run-clause-stops g c = λ before found.
    let (count, last, rules, part) = c.in-Err-run.ensures.part in
    stops_later c.args.home.now c.args.now c.args.job before (point (task_view c.in-Ok.first) c.due_after.new.job c.args.stores.now) last count c.run.new.stores
    (c.in-Ok.ensures c.args.home.now c.args.now before found) rules part
