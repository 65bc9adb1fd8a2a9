use Rattle.std.proofs.Common.{◌∙◌, subst, ℕ, List}
use Rattle.asks.specs.declared.ask.Waiting.{Waiting}
use Rattle.asks.specs.Waits.{IsFound}
use Rattle.asks.proofs.Found.{found}
use Rattle.asks.proofs.asks.AskIndex.find.Goals as goal

pub returns : goal.returns
returns g c =
    subst (λ (asks : List (ℕ × Waiting)). IsFound asks (record { socket = c.args.socket; server = c.args.server; id = c.args.id }) c.copied.result) c.self.view_is
    (found _ _ _ c.self.invariant _ c.copied.result (c.copied.ensures ∙ c.get.ensures.value))
