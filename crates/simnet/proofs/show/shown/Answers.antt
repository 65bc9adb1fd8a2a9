use Rattle.std.proofs.Common.{length}
use Rattle.simnet.specs.Views.{sim_action_view}
use Rattle.simnet.proofs.Shown.{none_shown, none_stands, some_shown, some_stands}
use Rattle.simnet.proofs.show.shown.Goals as goal

pub returns-in-None-clause-shown : goal.returns-in-None-clause-shown
returns-in-None-clause-shown g c =
    none_shown (length c.args.sends.now.items) c.args.sends.now.items c.actions.inside.first c.actions.inside.more_due c.args.actions c.actions.view_is c.in-None.is

pub returns-in-None-clause-stands : goal.returns-in-None-clause-stands
returns-in-None-clause-stands g c =
    none_stands (length c.args.sends.now.items) c.args.sends.now.items c.actions.inside.first c.actions.inside.more_due c.args.actions c.actions.view_is c.in-None.is

pub returns-in-Some-clause-shown : goal.returns-in-Some-clause-shown
returns-in-Some-clause-shown g c =
    some_shown (length c.args.sends.now.items) c.args.sends.now.items c.actions.inside.first c.actions.inside.more_due c.args.actions c.actions.view_is c.in-Some.action c.in-Some.is
    (sim_action_view c.shown_action.result) c.shown_action.ensures.shown

pub returns-in-Some-clause-stands : goal.returns-in-Some-clause-stands
returns-in-Some-clause-stands g c =
    some_stands (length c.args.sends.now.items) c.args.sends.now.items c.actions.inside.first c.actions.inside.more_due c.args.actions c.actions.view_is c.in-Some.action c.in-Some.is
    c.shown_action.new.sends.items c.shown_action.ensures.stands
