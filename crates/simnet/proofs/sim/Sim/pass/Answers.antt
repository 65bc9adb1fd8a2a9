use Rattle.events.specs.Views.{event_view}
use Rattle.simnet.proofs.Stepped.{passed, starved_before, starved_within}
use Rattle.simnet.proofs.sim.Sim.pass.Goals as goal

pub returns-in_err-reserve-clause-err : goal.returns-in_err-reserve-clause-err
returns-in_err-reserve-clause-err g c =
    starved_before c.self.inside.world c.self.inside.resolver c.self.inside.sends.items c.reserve.new.self.items c.args.self.now (event_view c.args.brought.now) c.self.view_is c.reserve.ensures.items
    c.from_residual.result

pub returns-in_err-actions-clause-err : goal.returns-in_err-actions-clause-err
returns-in_err-actions-clause-err g c =
    starved_within c.self.inside.world c.self.inside.resolver c.self.inside.sends.items c.reserve.new.self.items c.args.self.now (event_view c.args.brought.now) c.self.view_is c.reserve.ensures.items
    c.from_residual-in_err-actions.result c.step.new.self c.in_err-actions.ensures.err

pub returns-clause-ok : goal.returns-clause-ok
returns-clause-ok g c =
    passed c.self.inside.world c.self.inside.resolver c.self.inside.sends.items c.reserve.new.self.items c.args.self.now (event_view c.args.brought.now) c.self.view_is c.reserve.ensures.items
    c.step.new.self c.shown.new.sends.items c.in_ok-actions.actions c.shown.result c.in_ok-actions.ensures.ok c.shown.ensures.shown c.shown.ensures.stands
