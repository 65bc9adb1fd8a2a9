-- One reply and one open ask for each query, whatever comes (RFC 1035, section 7; RFC 5452, section 4).
use Rattle.std.specs.Prelude.{◌≡◌, ◌≢◌, ℕ, ◌≤◌, ◌⊎◌, Bool, true, false, Some, List, [], ◌∷◌, Contains}
use Rattle.limits.specs.Limits.{max_asks}
use Rattle.causes.specs.declared.cause.Cause.TheVariants as cause
use Rattle.front.specs.Queries.{IsRequest}
use Rattle.front.specs.declared.queries.Request.TheVariants as request
use Rattle.front.specs.declared.queries.Outcome.TheVariants as outcome
use Rattle.rdata.specs.declared.addr.Addr.{Addr}
use Rattle.runs.specs.States.{Event, Client, Datagram, TcpReply, TcpFailed, Tick, Action, Reply, Send, TcpAsk, MoreDue, Served, Nobody, Own, OpenQuery, Turn, Plain, ClientQuery, ByUdp, Ask, Open, due_moment, Site, State, moved}
use Rattle.runs.specs.Messages.{IsReply}
use Rattle.runs.specs.Steps.{Step, IsFirstDue}
use Rattle.runs.specs.Runs.{Run, Earlier, Always, GivesOut, IsOpenAskOf, Came, is_ask, asks_of}

abbrev pub is_reply : Action → Bool
is_reply (Reply client way bytes cause) = true
is_reply (Send sock to bytes) = false
is_reply (TcpAsk number to bytes) = false
is_reply MoreDue = false

-- ---- one action a step

-- This is the step's only action; behind it word may stand that another query is due.
abbrev pub IsOnlyAction : Action → List Action → Type 0
IsOnlyAction action out = (out ≡ action ∷ []) ⊎ (out ≡ action ∷ MoreDue ∷ [])

-- Bytes of a client that are not answered: those that are no query at all.
abbrev pub IsNoQuery : Event → Type 0
IsNoQuery (Client now client way bytes) = IsRequest {A = Plain} bytes request.Drop
IsNoQuery (Datagram now sock from bytes) = ⊥
IsNoQuery (TcpReply now number bytes) = ⊥
IsNoQuery (TcpFailed now number) = ⊥
IsNoQuery (Tick now) = ⊥

-- The actions of a step. One that serves an open query gives one reply or one ask. One whose query is over at once
-- gives one reply, and one that serves none nothing. Bytes that are no query are dropped.
abbrev pub GivesOne : Event → Served → List Action → Type 0
GivesOne event Nobody out = out ≡ []
GivesOne event Own out = (IsNoQuery event × (out ≡ [])) ⊎ ((action : Action) × (is_reply action ≡ true) × (out ≡ action ∷ []))
GivesOne event (OpenQuery k) out = (action : Action) × ((is_reply action ≡ true) ⊎ (is_ask action ≡ true)) × IsOnlyAction action out

abbrev pub GivesOneAction : Turn → List Turn → Type 0
GivesOneAction t past = (out : List Action) → t.out ≡ Some out → GivesOne t.event t.served out

abbrev pub OneAction : Type 0
OneAction = (site : Site) (run : List Turn) (s : State) → Run site run s → Always GivesOneAction run

-- No event but a tick gives word that another query is due.
abbrev pub IsTick : Event → Type 0
IsTick event = (now : ℕ) × (event ≡ Tick now)

abbrev pub TellsAtTicks : Turn → List Turn → Type 0
TellsAtTicks t past = GivesOut t.out MoreDue → IsTick t.event

abbrev pub MoreDueAtTicks : Type 0
MoreDueAtTicks = (site : Site) (run : List Turn) (s : State) → Run site run s → Always TellsAtTicks run

-- ---- one end

-- Query k is over in a step that serves it and sends no ask: it is answered, or memory ran out.
pub record IsOver (k : ℕ) (t : Turn) (past : List Turn) : Type 0 where
  pub served : t.served ≡ OpenQuery k
  pub no_ask : (action : Action) → GivesOut t.out action → is_ask action ≡ true → ⊥

-- A query that is over is never served again. So it has one reply at most.
abbrev pub IsNotOver : ℕ → Turn → List Turn → Type 0
IsNotOver k t past = t.served ≡ OpenQuery k → Earlier (IsOver k) past → ⊥

abbrev pub NeverAgain : Type 0
NeverAgain = (site : Site) (run : List Turn) (s : State) → Run site run s → (k : ℕ) → Always (IsNotOver k) run

abbrev pub RepliesTo : ℕ → Turn → List Turn → Type 0
RepliesTo k t past = (t.served ≡ OpenQuery k) × ((action : Action) × GivesOut t.out action × (is_reply action ≡ true))

abbrev pub RepliesOnce : ℕ → Turn → List Turn → Type 0
RepliesOnce k t past = RepliesTo k t past → Earlier (RepliesTo k) past → ⊥

abbrev pub OneReply : Type 0
OneReply = (site : Site) (run : List Turn) (s : State) → Run site run s → (k : ℕ) → Always (RepliesOnce k) run

-- Only one client's query comes under a number.
abbrev pub ComesOnce : ℕ → Turn → List Turn → Type 0
ComesOnce k t past = (who : ClientQuery) → Came (OpenQuery k) who t past → Earlier (λ u before. (other : ClientQuery) × Came (OpenQuery k) other u before) past → ⊥

abbrev pub OneComing : Type 0
OneComing = (site : Site) (run : List Turn) (s : State) → Run site run s → (k : ℕ) → Always (ComesOnce k) run

-- ---- one open ask

-- The open queries are those whose last step sent an ask, and that is their one open ask.
pub record AreOpenByRun (port : ℕ) (run : List Turn) (queries : List Open) : Type 0 where
  pub waits : (q : Open) → Contains queries q → IsOpenAskOf port q.number q.ask run
  pub asked : (k : ℕ) (a : Ask) → IsOpenAskOf port k a run → (q : Open) × Contains queries q × (q.number ≡ k) × (q.ask ≡ a)
  pub one : (p q : Open) → Contains queries p → Contains queries q → p.number ≡ q.number → p ≡ q

abbrev pub OpenByRun : Type 0
OpenByRun = (site : Site) (run : List Turn) (s : State) → Run site run s → AreOpenByRun site.port run s.queries

-- At most 40 asks go out for a query.
abbrev pub HasFewAsks : List Turn → Type 0
HasFewAsks run = (k : ℕ) → asks_of k run ≤ max_asks

abbrev pub FewAsks : Type 0
FewAsks = (site : Site) (run : List Turn) (s : State) → Run site run s → HasFewAsks run

-- The open asks of two queries from one socket to one server have two IDs.
abbrev pub IsLine : Open → ℕ → Addr → ℕ → Type 0
IsLine q sock server id = ((q.ask).path ≡ ByUdp sock) × ((q.ask).server ≡ server) × ((q.ask).id ≡ id)

abbrev pub HaveOwnLines : List Open → Type 0
HaveOwnLines queries = (p q : Open) (sock : ℕ) (server : Addr) (id : ℕ) → Contains queries p → Contains queries q → IsLine p sock server id → IsLine q sock server id → p ≡ q

abbrev pub OneLine : Type 0
OneLine = (site : Site) (run : List Turn) (s : State) → Run site run s → HaveOwnLines s.queries

-- ---- one query a step

-- No open query is changed, opened or closed but the one that is served.
abbrev pub LeavesOthers : State → Turn → State → Type 0
LeavesOthers old t new = (q : Open) → t.served ≢ OpenQuery q.number → (Contains old.queries q → Contains new.queries q) × (Contains new.queries q → Contains old.queries q)

abbrev pub OthersStay : Type 0
OthersStay = (site : Site) (past : List Turn) (old : State) (t : Turn) (new : State) → Run site past old → Step old t.event t.served t.out new → LeavesOthers old t new

-- ---- due queries

abbrev pub IsDue : State → Open → Type 0
IsDue s q = Contains s.queries q × (due_moment q ≤ s.clock)

-- A tick serves the query that is due first, the older one among equals, and no query where none is due. One
-- whose time is up is answered so. Word is given that another query is due exactly where one is.
pub record TicksInOrder (s : State) (served : Served) (out : List Action) (new : State) : Type 0 where
  pub none : ((q : Open) → IsDue s q → ⊥) → served ≡ Nobody
  pub first : (p : Open) → IsDue s p → (q : Open) × (served ≡ OpenQuery q.number) × IsFirstDue s q
      × ((q.job).deadline ≤ s.clock → (action : Action) × IsReply q.client_query (outcome.Fail cause.DeadlineOver) action × IsOnlyAction action out)
  pub more : Contains out MoreDue → (p : Open) × IsDue s p × (served ≢ OpenQuery p.number)
  pub told : (p : Open) → IsDue s p → served ≢ OpenQuery p.number → Contains out MoreDue

abbrev pub ServesInOrder : State → Turn → State → Type 0
ServesInOrder old t new = (now : ℕ) (out : List Action) → t.event ≡ Tick now → t.out ≡ Some out → TicksInOrder (moved old t.event) t.served out new

abbrev pub DueInOrder : Type 0
DueInOrder = (site : Site) (past : List Turn) (old : State) (t : Turn) (new : State) → Run site past old → Step old t.event t.served t.out new → ServesInOrder old t new
