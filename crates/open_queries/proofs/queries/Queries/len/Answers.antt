use Rattle.std.proofs.Common.{sym, ◌∙◌, ap, List, length}
use Rattle.runs.specs.States.{Open}
use Rattle.open_queries.proofs.Slots.{length-held}
use Rattle.open_queries.proofs.queries.Queries.len.Goals as goal

pub returns : goal.returns
returns g c = c.len.ensures ∙ sym (length-held c.self.inside.slots) ∙ ap (λ (qs : List Open). length qs) c.self.view_is
