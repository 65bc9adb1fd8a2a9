use Rattle.storm.proofs.Counting.{no_action, one_action}
use Rattle.storm.proofs.count.replies_among.Goals as goal

pub returns-in-Some : goal.returns-in-Some
returns-in-Some c =
    one_action c.actions.inside.first c.in-Some.action c.actions.inside.more_due c.args.actions.now c.replies_by.result c.actions.view_is c.in-Some.is c.replies_by.ensures

pub returns-in-None : goal.returns-in-None
returns-in-None c = no_action c.actions.inside.first c.actions.inside.more_due c.args.actions.now c.actions.view_is c.in-None.is
