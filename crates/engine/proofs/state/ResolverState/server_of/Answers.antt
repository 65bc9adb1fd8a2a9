use Rattle.std.proofs.Common.{sym, ◌∙◌, ap}
use Rattle.runs.specs.States.{Ask, Open}
use Rattle.engine.proofs.state.ResolverState.server_of.Goals as goal

pub returns : goal.returns
returns g c = λ q one. ap (λ (a : Ask). a.server) (c.behind-open.view_is ∙ c.ask.ensures) ∙ ap (λ (o : Open). (o.ask).server) (sym (c.in-Some.ensures.alone q one.stands one.number_is))
