use Rattle.std.proofs.Common.{Some, ap}
use Rattle.std.proofs.lemmas.Result.{IfOk-weaker}
use Rattle.worlds.proofs.hosting.say.Goals as goal

pub returns : goal.returns
returns g c from =
    IfOk-weaker c.sent-given.result _ _
    (λ r k. (Some c.answer.result, (c.in_ok-aliases.aliases, c.in_ok-aliases.end, c.in_ok-aliases.ensures c.args.query.now.name from, ap Some c.answer.ensures), k))
    c.sent-given.ensures
