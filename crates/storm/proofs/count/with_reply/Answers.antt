-- The reply is counted for the query that is shared.
use Rattle.std.proofs.Common.{subst}
use Rattle.std.proofs.lemmas.Result.{IfOk-weaker}
use Rattle.events.specs.Plain.{plain}
use Rattle.score.specs.Counts.{IsCounted, IsCountedFor}
use Rattle.storm.proofs.count.with_reply.Goals as goal

pub returns-in-Some : goal.returns-in-Some
returns-in-Some c =
    IfOk-weaker c.with.result _ _
    (λ n h. subst (λ o. IsCountedFor c.args.world.now o c.args.bytes.now c.args.count n) c.in-Some.ensures
    (subst (λ q. IsCounted c.args.world.now (plain q) c.args.bytes.now c.args.count n) c.deref.ensures h))
    c.with.ensures
