-- Which outcomes the replies of a step have.
use Rattle.std.specs.Prelude.{◌≡◌, ℕ, ◌⊎◌, true, false, Option, List}
use Rattle.rdata.specs.Types.{type_number}
use Rattle.authority.specs.Catalogs.{looked}
use Rattle.causes.specs.declared.cause.Cause.{Cause}
use Rattle.wire.specs.declared.via.Via.{Via}
use Rattle.front.specs.Chains.{AnswersLocally}
use Rattle.front.specs.declared.queries.Outcome.{Outcome}
use Rattle.resolution.specs.Jobs.{Home}
use Rattle.runs.specs.States.{Action, Reply, Turn, Plain, ClientQuery, recursive}
use Rattle.runs.specs.Messages.{IsReply}
use Rattle.runs.specs.Runs.{GivesOut}
use Rattle.runs.specs.Replies.{IsServedFor, Refuses}

-- The reply is that of an outcome for the query that is served, to its client by its way. Without RD the local zones
-- alone answer; with RD the outcome is good, in the sense of `IsGood`.
pub record RepliesWith (home : Home) (IsGood : ClientQuery → Outcome Plain → Turn → List Turn → Type 0) (action : Action) (turn : Turn) (past : List Turn) : Type 0 where
  pub who : ClientQuery
  pub served : IsServedFor who turn past
  pub result : Outcome Plain
  pub reply : IsReply who result action
  pub is :
      ((recursive who.query ≡ false) × AnswersLocally (λ n. looked home.zones n (type_number (who.query).kind)) (who.query).name result)
      ⊎ ((recursive who.query ≡ true) × IsGood who result turn past)

-- Each reply of the step is of such an outcome.
abbrev pub RepliesAre : Home → (ClientQuery → Outcome Plain → Turn → List Turn → Type 0) → Turn → List Turn → Type 0
RepliesAre home IsGood turn past = (client : ℕ) (way : Via) (bytes : List ℕ) (c : Option Cause) → GivesOut turn.out (Reply client way bytes c)
    → Refuses (Reply client way bytes c) turn ⊎ RepliesWith home IsGood (Reply client way bytes c) turn past
