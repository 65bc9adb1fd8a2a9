use Rattle.std.proofs.Common.{sym, ◌∙◌, ap}
use Rattle.runs.specs.States.{Ask, Open}
use Rattle.engine.proofs.state.ResolverState.kind_of.Goals as goal

pub returns : goal.returns
returns g c = λ q one. ap (λ (o : Open). (o.ask).kind) (c.in-Some.ensures.alone q one.stands one.number_is) ∙ sym (ap (λ (a : Ask). a.kind) (c.behind-open.view_is ∙ c.ask.ensures))
