use Rattle.std.proofs.Common.{◌∙◌, sym, ap}
use Rattle.typed.specs.Views.{parsed_view}
use Rattle.typed.proofs.Seen.{seen_alike}
use Rattle.typed.proofs.event.TypedEvent.same.Goals as goal

pub returns : goal.returns
returns g c = (
  λ t. sym c.self.view_is ∙ (ap parsed_view (c.same.ensures.0 t) ∙ c.other.view_is),
  λ e. c.same.ensures.1 (seen_alike c.self.inside.parsed c.other.inside.parsed (c.self.view_is ∙ (e ∙ sym c.other.view_is))),
)
