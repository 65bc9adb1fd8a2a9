use Rattle.std.proofs.Common.{refl, ap, ◌∙◌, inl}
use Rattle.resolution.specs.Jobs.{Search, AskUdp}
use Rattle.resolution.specs.Rules.{sends, refuses}
use Rattle.iterate.specs.Moves.{with_search}
use Rattle.iterate.proofs.asking.ask.Goals as goal

pub returns-in-Some : goal.returns-in-Some
returns-in-Some g c = λ home stores before up member free is.
    refuses c.in-Some.cause c.args.server before c.args.job.now.searches (inl (record { task = refl; searches = refl; next = up; known = member; free = free })) c.in-Some.ensures refl refl

pub returns : goal.returns
returns g c = λ home stores before up member free is.
    let named = c.in_ok-name.ensures.cases ∙ c.name.ensures ∙ ap (λ (x : Search). x.name) is in
    let kinds = c.kind-kind.ensures ∙ ap (λ (x : Search). x.kind) is in
    let may = c.in_default.ensures in
    sends c.args.server before c.args.job.now.searches (record { task = refl; searches = refl; next = up; known = member; free = free })
    (record { early = may.early; few = may.few }) (λ i. AskUdp c.args.server (named i) (kinds i))
    (c.in_ok-push.ensures ∙ (λ i. with_search (c.count.ensures i) (is i))) refl
