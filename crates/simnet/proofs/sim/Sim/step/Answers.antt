use Rattle.std.proofs.Common.{Some}
use Rattle.events.specs.Views.{event_view}
use Rattle.simnet.specs.Views.{sim_event_view}
use Rattle.simnet.proofs.Stepped.{comes, is_quiet, is_starved, stays_right, stays_run}
use Rattle.simnet.proofs.sim.Sim.step.Goals as goal

pub returns-in_err-reached-clause-err : goal.returns-in_err-reached-clause-err
returns-in_err-reached-clause-err g c = is_starved c.from_residual.result c.args.self.now (sim_event_view c.args.event)

pub returns-in-None-clause-ok : goal.returns-in-None-clause-ok
returns-in-None-clause-ok g c =
    is_quiet event_view c.args.self.now (sim_event_view c.args.event) c.in_ok-reached.field-0 c.none.result c.in_ok-reached.ensures c.in-None.is c.none.ensures

pub returns-in-None-clause-right : goal.returns-in-None-clause-right
returns-in-None-clause-right g c =
    stays_right c.network_law.ensures.right c.args.self.now (sim_event_view c.args.event) (Some c.none.result) c.args.self.now (returns-in-None-clause-ok g c)

pub returns-in_ok-pass-in-Some-clause-right : goal.returns-in_ok-pass-in-Some-clause-right
returns-in_ok-pass-in-Some-clause-right g c =
    let reaches = comes event_view c.args.self.now (sim_event_view c.args.event) c.in_ok-reached.field-0 c.in-Some.brought c.in_ok-reached.ensures c.in-Some.is in
    stays_right c.network_law.ensures.right c.args.self.now (sim_event_view c.args.event) (Some c.in_ok-pass-in-Some.field-0) c.pass.new.self
    (c.in_ok-pass-in-Some.ensures.ok (sim_event_view c.args.event) reaches)

pub returns-in-None-clause-run : goal.returns-in-None-clause-run
returns-in-None-clause-run g c =
    stays_run c.network_law.ensures.run c.args.self.now (sim_event_view c.args.event) (Some c.none.result) c.args.self.now (returns-in-None-clause-ok g c)

pub returns-in_ok-pass-in-Some-clause-run : goal.returns-in_ok-pass-in-Some-clause-run
returns-in_ok-pass-in-Some-clause-run g c =
    let reaches = comes event_view c.args.self.now (sim_event_view c.args.event) c.in_ok-reached.field-0 c.in-Some.brought c.in_ok-reached.ensures c.in-Some.is in
    stays_run c.network_law.ensures.run c.args.self.now (sim_event_view c.args.event) (Some c.in_ok-pass-in-Some.field-0) c.pass.new.self
    (c.in_ok-pass-in-Some.ensures.ok (sim_event_view c.args.event) reaches)
