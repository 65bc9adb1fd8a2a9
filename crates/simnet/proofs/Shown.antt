-- What goes out of a step, and what is shown of it.
use Rattle.std.proofs.Common.{◌≡◌, ◌∙◌, ℕ, ◌+◌, Bool, true, false, Option, Some, None, List, [], ◌∷◌, ◌++◌, refl, sym, ap}
use Rattle.std.proofs.lemmas.List.{append-nil}
use Rattle.runs.specs.States as resolver
use Rattle.events.specs.declared.action.Action.{Action}
use Rattle.events.specs.Views as exchange
use Rattle.network.specs.Networks.{Sent, NetworkAction, Reply, WasSent, WasAsked, MoreDue, numbered, sends_among}
use Rattle.runs.specs.States.{ByUdp, ByTcp}
use Rattle.simnet.specs.Views.{due_listed}

-- Word that another query is due stands behind, and is no ask.
pub due_numbered : (n : ℕ) (due : Bool) → due_listed due ≡ numbered n (exchange.due_listed due)
due_numbered n true = refl
due_numbered n false = refl

pub due_sends : (due : Bool) → [] ≡ sends_among (exchange.due_listed due)
due_sends true = refl
due_sends false = refl

append_due : (n : ℕ) (action : resolver.Action) (due : Bool) → numbered n (action ∷ []) ++ due_listed due ≡ numbered n (action ∷ exchange.due_listed due)
append_due n (resolver.Reply client way bytes cause) due = ap (λ (l : List NetworkAction). Reply client way bytes cause ∷ l) (due_numbered n due)
append_due n (resolver.Send sock to bytes) due = ap (λ (l : List NetworkAction). WasSent (n + 1) ∷ l) (due_numbered (n + 1) due)
append_due n (resolver.TcpAsk number to bytes) due = ap (λ (l : List NetworkAction). WasAsked (n + 1) ∷ l) (due_numbered (n + 1) due)
append_due n resolver.MoreDue due = ap (λ (l : List NetworkAction). MoreDue ∷ l) (due_numbered n due)

pub behind_numbered : (n : ℕ) (action : resolver.Action) (due : Bool) (shown : NetworkAction) → shown ∷ [] ≡ numbered n (action ∷ []) → shown ∷ due_listed due ≡ numbered n (action ∷ exchange.due_listed due)
behind_numbered n action due shown is = ap (λ (l : List NetworkAction). l ++ due_listed due) is ∙ append_due n action due

pub behind_sends : (action : resolver.Action) (due : Bool) → sends_among (action ∷ []) ≡ sends_among (action ∷ exchange.due_listed due)
behind_sends (resolver.Reply client way bytes cause) due = due_sends due
behind_sends (resolver.Send sock to bytes) due = ap (λ (l : List Sent). record { path = ByUdp sock; to = to; bytes = bytes } ∷ l) (due_sends due)
behind_sends (resolver.TcpAsk number to bytes) due = ap (λ (l : List Sent). record { path = ByTcp number; to = to; bytes = bytes } ∷ l) (due_sends due)
behind_sends resolver.MoreDue due = due_sends due

-- All that comes out, as it is kept: one action at most, and word that another query is due.
module _ {A : Type 0} (n : ℕ) (sends : List Sent) (first : Option (Action A)) (due : Bool) (actions : List resolver.Action) (is : exchange.listed first due ≡ actions) where
  pub none_shown : first ≡ None → due_listed due ≡ numbered n actions
  none_shown none = due_numbered n due ∙ ap (numbered n) (ap (λ (f : Option (Action A)). exchange.listed f due) (sym none) ∙ is)

  pub none_stands : first ≡ None → sends ≡ sends ++ sends_among actions
  none_stands none =
      sym (append-nil sends) ∙ ap (λ (l : List Sent). sends ++ l) (due_sends due ∙ ap sends_among (ap (λ (f : Option (Action A)). exchange.listed f due) (sym none) ∙ is))

  module _ (action : Action A) (some : first ≡ Some action) where
    pub some_shown : (out : NetworkAction) → out ∷ [] ≡ numbered n (exchange.action_view action ∷ []) → out ∷ due_listed due ≡ numbered n actions
    some_shown out shown =
        behind_numbered n (exchange.action_view action) due out shown ∙ ap (numbered n) (ap (λ (f : Option (Action A)). exchange.listed f due) (sym some) ∙ is)

    pub some_stands : (noted : List Sent) → noted ≡ sends ++ sends_among (exchange.action_view action ∷ []) → noted ≡ sends ++ sends_among actions
    some_stands noted stands =
        stands ∙ ap (λ (l : List Sent). sends ++ l) (behind_sends (exchange.action_view action) due ∙ ap sends_among (ap (λ (f : Option (Action A)). exchange.listed f due) (sym some) ∙ is))
