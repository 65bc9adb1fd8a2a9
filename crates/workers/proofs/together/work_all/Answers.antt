use Rattle.std.proofs.Common.{rules, IfOk, get_or, sym, subst}
use Rattle.std.proofs.lemmas.Result.{IfOk-weaker}
use Rattle.workers.specs.Working.{Did}
use Rattle.workers.proofs.Handed.{handed}
use Rattle.workers.proofs.together.work_all.Goals as goal

pub returns-clause-each : goal.returns-clause-each
returns-clause-each g c =
    let event_of = g.M.FollowUps.event_of in
    let follow_ups = g.M.FollowUps.follow_ups in
    let queries = c.args.queries.now in
    let done = c.in-Ok.done.items in
    IfOk-weaker c.all_ok.result _ _
    (λ v is i t q k small.
    handed (λ s p. Did event_of follow_ups s.worker (get_or queries s.worker q).items p) c.args.tickets.items done v.items is (search rules)
    (λ j s r less. let gives = c.in-Ok.ensures.each j r less in
    subst (λ x. IfOk (get_or done j r) (λ p. Did event_of follow_ups x.worker (get_or queries x.worker q).items p)) (sym (gives.1.job_is s))
    (IfOk-weaker (get_or done j r) _ _ (λ p h. h q) gives.1.call.met))
    i t k small)
    c.all_ok.ensures
