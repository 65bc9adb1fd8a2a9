use Rattle.std.proofs.Common.{subst, ℕ, List}
use Rattle.asks.specs.declared.ask.Waiting.{Waiting}
use Rattle.asks.specs.Waits.{IsEarliest}
use Rattle.asks.proofs.First.{earliest}
use Rattle.asks.proofs.asks.AskIndex.earliest.Goals as goal

pub returns : goal.returns
returns g c =
    subst (λ (asks : List (ℕ × Waiting)). IsEarliest asks c.copied.result) c.self.view_is
    (earliest _ _ c.self.inside.by_due c.self.invariant c.first.result c.first.ensures.variant c.first.ensures.member c.first.ensures.least c.copied.result c.copied.ensures)
