-- Queries whose answer is at hand: each is answered in the step in which it comes, and nobody else hears of it.
use Rattle.std.specs.Prelude.{◌≡◌, ℕ, min, max, ◌⊎◌, false, Option, Some, Result, MatchResult, List, [], ◌∷◌}
use Rattle.memory.specs.declared.Starved.{Starved}
use Rattle.wire.specs.declared.via.Via.{Via}
use Rattle.limits.specs.Limits.{max_aliases}
use Rattle.rdata.specs.Types.{type_number}
use Rattle.causes.specs.declared.cause.Cause.{Cause}
use Rattle.front.specs.declared.queries.Query.{Query}
use Rattle.front.specs.declared.queries.Request.TheVariants as request
use Rattle.lookup.specs.Held.{IsAtHand}
use Rattle.front.specs.Queries.{IsRequest}
use Rattle.runs.specs.States.{Event, Action, Reply, Turn, Site, State, Plain, latest, moved}
use Rattle.runs.specs.States as told
use Rattle.runs.specs.Runs.{Run}
use Rattle.typed.specs.Events.{Parsed, Client, Datagram, TcpReply, TcpFailed, Tick, ReadAs}
use Rattle.typed.specs.declared.action.TypedActions.{TypedActions}
use Rattle.typed.specs.Views.{said_listed}
use Rattle.engine.specs.Calls.{Handles, IsGone}
use Rattle.engine.specs.Histories.{written_of}
use Rattle.engine.specs.Promises.{Steps}
use Rattle.engine.specs.Turns.{Turns}

-- A query that comes at this moment. One without RD is answered by the local zones alone (RFC 1034, section 4.3.1), and
-- any other where at most eight aliases and the end behind them stand in the local zones and in the cache.
abbrev pub HasEnd : {A : Type 0} → State → ℕ → Query A → Type 0
HasEnd s moment q = ((q.start).rd ≡ false) ⊎ IsAtHand (s.site).home (max s.clock moment) (type_number q.kind) (s.stores).cache q.name max_aliases

-- An event that is a client's query, whose answer is at hand.
abbrev pub HasAnswer : State → Parsed → Type 0
HasAnswer s (Client now client way (request.Query q)) = HasEnd s (min now latest) q
HasAnswer s (Client now client way request.Drop) = ⊥
HasAnswer s (Client now client way (request.Refuse refusal start echo)) = ⊥
HasAnswer s (Datagram now sock from reading) = ⊥
HasAnswer s (TcpReply now number reading) = ⊥
HasAnswer s (TcpFailed now number) = ⊥
HasAnswer s (Tick now) = ⊥

-- What goes out is the reply to the client, and nothing else.
abbrev pub IsReplyAlone : Parsed → List Action → Type 0
IsReplyAlone (Client now client way request) out = (bytes : List ℕ) × (cause : Option Cause) × (out ≡ Reply client way bytes cause ∷ [])
IsReplyAlone (Datagram now sock from reading) out = ⊥
IsReplyAlone (TcpReply now number reading) out = ⊥
IsReplyAlone (TcpFailed now number) out = ⊥
IsReplyAlone (Tick now) out = ⊥

-- A step on an event whose answer is at hand asks no server.
abbrev pub AtHandAsksNobody : Type 0
AtHandAsksNobody =
    (site : Site) (past : List Turn) (s : State) (e : Event) (parsed : Parsed) (out : List Action) (new : State)
    → Run site past s → ReadAs e parsed → HasAnswer s parsed → Steps s e (Some out) new → IsReplyAlone parsed out

-- A recursive query is answered in the step in which it comes, as its answer is at hand, or is gone for want of memory.
pub record IsAnsweredNow {A : Type 0} (s : State) (client : ℕ) (way : Via) (q : Query Plain) (r : Result (TypedActions A) Starved) (new : State) : Type 0 where
  pub at_hand : IsAtHand (s.site).home s.clock (type_number q.kind) (s.stores).cache q.name max_aliases
  pub handled : MatchResult r (λ said. Handles s client way (request.Query q) (said_listed said.first said.more_due) new) (λ _. IsGone s (request.Query q) new)

-- The same of one that comes at this moment, whichever bytes it was read from.
pub record IsAnsweredAt {A : Type 0} (s : State) (moment client : ℕ) (way : Via) (q : Query Plain) (r : Result (TypedActions A) Starved) (new : State) : Type 0 where
  pub has : HasEnd s (min moment latest) q
  pub turns : (bytes : List ℕ) → IsRequest bytes (request.Query q) → Turns (moved s (told.Client moment client way bytes)) (told.Client moment client way bytes) (written_of r) new
