use Rattle.std.proofs.lemmas.Result.{IfOk-weaker}
use Rattle.storm.proofs.Counting.{action_counts}
use Rattle.storm.proofs.count.with_actions.Goals as goal

pub returns-in-Some : goal.returns-in-Some
returns-in-Some c =
    let W = c.args.world.now in
    let clients = c.args.clients.now in
    IfOk-weaker c.with_action.result _ _
    (λ new h. action_counts W clients c.actions.inside.first c.in-Some.action c.actions.inside.more_due c.args.actions.now c.args.count new c.actions.view_is c.in-Some.is h)
    c.with_action.ensures
