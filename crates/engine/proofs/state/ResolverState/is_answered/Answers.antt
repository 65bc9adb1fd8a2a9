use Rattle.std.proofs.Common.{sym, ◌∙◌, ap, subst}
use Rattle.std.specs.Prelude.{◌↔◌, IsTrue}
use Rattle.classify.specs.Views.{reading_view}
use Rattle.runs.specs.States.{Ask, Open}
use Rattle.engine.specs.Moves.{Answers}
use Rattle.engine.proofs.state.ResolverState.is_answered.Goals as goal

pub returns : goal.returns
returns g c = λ q one.
    subst (λ (a : Ask). IsTrue c.answers.result ↔ Answers a (reading_view c.args.reading.now))
    (c.ask.ensures ∙ ap (λ (o : Open). o.ask) (sym (c.in-Some.ensures.alone q one.stands one.number_is))) c.answers.ensures
