-- Treatment of a new query.
use Rattle.std.specs.Prelude.{◌≡◌, ℕ, true, false, ◌⊎◌, List}
use Rattle.wire.specs.declared.via.Via.{Via}
use Rattle.front.specs.declared.queries.Query.{Query}
use Rattle.front.specs.declared.queries.Request.{Request}
use Rattle.front.specs.declared.queries.Request.TheVariants as request
use Rattle.resolution.specs.Jobs.{Stores, Start}
use Rattle.resolution.specs.Stops.{Stops}
use Rattle.runs.specs.States.{Action, Plain, ClientQuery, Served, recursive, job_for, State}
use Rattle.runs.specs.Steps.{AnswersAtHand, Resolves, IsHandled, IsLeft}

-- A client's request is dropped, refused, or answered.
pub record Handles (s : State) (client : ℕ) (way : Via) (asked : Request Plain) (out : List Action) (new : State) : Type 0 where
  pub served : Served
  pub is : IsHandled s client way asked served out new

-- A query is answered by the local zones alone, or resolved.
pub record IsResolved (s : State) (who : ClientQuery) (out : List Action) (new : State) : Type 0 where
  pub served : Served
  pub is : ((recursive who.query ≡ false) × AnswersAtHand s who served out new) ⊎ ((recursive who.query ≡ true) × Resolves s who served out new)

-- The work on a recursive query begins.
pub record Begins (s : State) (who : ClientQuery) (out : List Action) (new : State) : Type 0 where
  pub served : Served
  pub resolves : Resolves s who served out new

-- Memory ran out: the query is dropped. The stores stand as they did, or as its own work left them.
abbrev pub DropsWork : State → Query Plain → State → Type 0
DropsWork s q new = IsLeft s s.opened (λ (stores : Stores). Stops (s.site).home s.clock Start (job_for s.clock q) s.stores stores) new

abbrev pub IsGone : State → Request Plain → State → Type 0
IsGone s asked new =
    IsLeft s s.opened (λ (stores : Stores). (q : Query Plain) × (asked ≡ request.Query q) × (recursive q ≡ true) × Stops (s.site).home s.clock Start (job_for s.clock q) s.stores stores) new
