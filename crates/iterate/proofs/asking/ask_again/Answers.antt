use Rattle.std.proofs.Common.{refl, ◌∙◌, inr}
use Rattle.resolution.specs.Jobs.{AskTcp}
use Rattle.resolution.specs.Rules.{sends_again, refuses}
use Rattle.iterate.specs.Moves.{with_search}
use Rattle.iterate.proofs.asking.ask_again.Goals as goal

pub returns-in-Some : goal.returns-in-Some
returns-in-Some g c = λ home stores. refuses c.in-Some.cause c.args.server c.args.search c.args.job.now.searches (inr (record { task = refl; searches = refl })) c.in-Some.ensures refl refl

pub returns : goal.returns
returns g c = λ home stores.
    let named = c.in_ok-name.ensures.cases ∙ c.name.ensures in
    let kinds = c.kind-kind.ensures in
    let may = c.in_default.ensures in
    sends_again c.args.server c.args.search c.args.job.now.searches (record { task = refl; searches = refl })
    (record { early = may.early; few = may.few }) (λ i. AskTcp c.args.server (named i) (kinds i))
    (c.in_ok-push.ensures ∙ (λ i. with_search (c.count.ensures i) c.args.search)) refl
