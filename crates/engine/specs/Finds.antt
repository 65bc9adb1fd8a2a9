-- The query that is found for an event, and the end of an ask that is not answered.
use Rattle.std.specs.Prelude.{◌≡◌, ◌≢◌, ℕ, ◌<◌, ◌≤◌, ◌⊎◌, List, Contains}
use Rattle.rdata.specs.declared.addr.Addr.{Addr}
use Rattle.causes.specs.declared.cause.Cause.TheVariants as cause
use Rattle.front.specs.declared.queries.Outcome.TheVariants as outcome
use Rattle.resolution.specs.Jobs.{Input, TimedOut}
use Rattle.resolution.specs.Stops.{Stops}
use Rattle.runs.specs.States.{Endpoint, Action, Open, due_moment, State}
use Rattle.runs.specs.Steps.{Ends, Serves, IsLeft}
use Rattle.open_queries.specs.Lookups.{IsOnLine, IsTheOne}

-- The one open query of this number has that property.
pub record Finds (IsSo : Open → Type 0) (qs : List Open) (k : ℕ) : Type 0 where
  pub query : Open
  pub one : IsTheOne qs k query
  pub is : IsSo query

-- Whichever open query has this number has that property.
abbrev pub OfTheOne : List Open → ℕ → (Open → Type 0) → Type 0
OfTheOne qs k IsSo = (q : Open) → IsTheOne qs k q → IsSo q

-- A datagram under an ID from the servers' port is for the ask of the open query of a number; or it is for no open ask.
pub record Reaches (s : State) (sock : ℕ) (from : Endpoint) (id k : ℕ) : Type 0 where
  pub port : from.port ≡ (s.site).port
  pub found : Finds (IsOnLine sock from.address id) s.queries k

abbrev pub IsOffLine : State → ℕ → Endpoint → ℕ → Type 0
IsOffLine s sock from id = (from.port ≢ (s.site).port) ⊎ ((q : Open) → Contains s.queries q → IsOnLine sock from.address id q → ⊥)

-- No open query is due.
abbrev pub NoneDue : State → Type 0
NoneDue s = (q : Open) → Contains s.queries q → s.clock < due_moment q

-- The open query of a number is served by word of the server that it asks; out of memory, it is dropped.
pub record Tells (s : State) (k : ℕ) (word : Addr → Input) (out : List Action) (new : State) : Type 0 where
  pub query : Open
  pub one : IsTheOne s.queries k query
  pub serves : Serves s query (word (query.ask).server) out new

pub record Untold (s : State) (k : ℕ) (word : Addr → Input) (new : State) : Type 0 where
  pub query : Open
  pub one : IsTheOne s.queries k query
  pub left : IsLeft s k (Stops (s.site).home s.clock (word (query.ask).server) query.job s.stores) new

-- The time of the open query of a number is up, or it is not.
abbrev pub IsLateOne : State → ℕ → Type 0
IsLateOne s k = OfTheOne s.queries k (λ q. (q.job).deadline ≤ s.clock)

abbrev pub IsEarlyOne : State → ℕ → Type 0
IsEarlyOne s k = OfTheOne s.queries k (λ q. s.clock < (q.job).deadline)

-- The query is over without an answer in time.
pub record Expires (s : State) (k : ℕ) (out : List Action) (new : State) : Type 0 where
  pub query : Open
  pub one : IsTheOne s.queries k query
  pub ends : Ends s query.client_query query.number (outcome.Fail cause.DeadlineOver) s.stores out new

-- A query that is due: its time is up, or its ask waited too long; out of memory in the work, it is dropped.
abbrev pub Rings : State → ℕ → List Action → State → Type 0
Rings s k out new = (IsLateOne s k × Expires s k out new) ⊎ (IsEarlyOne s k × Tells s k TimedOut out new)

abbrev pub Unrung : State → ℕ → State → Type 0
Unrung s k new = IsEarlyOne s k × Untold s k TimedOut new
