-- Which query a step serves and which server it asks, and the fields of an open query by the run.
use Rattle.std.specs.Prelude.{◌≡◌, ◌≢◌, ℕ, ◌+◌, ◌≤◌, ◌⊎◌, true, false, Some, None, List, [], ◌∷◌, length, Contains}
use Rattle.limits.specs.Limits.{max_aliases, query_lifetime, tcp_wait}
use Rattle.rdata.specs.Records.{Record}
use Rattle.rdata.specs.Types.{type_number}
use Rattle.message_grammar.specs.Messages.{Message}
use Rattle.wire.specs.declared.via.Via.{Via}
use Rattle.front.specs.Queries.{IsRequest}
use Rattle.front.specs.declared.queries.Request.{Request}
use Rattle.front.specs.declared.queries.Request.TheVariants as request
use Rattle.front.specs.declared.queries.Outcome.{Outcome}
use Rattle.cache.specs.Failures.{failed_ask, is_failed}
use Rattle.runs.specs.States.{Client, Tick, Action, Served, Own, OpenQuery, Turn, Plain, ClientQuery, client_query, recursive, Path, ByUdp, ByTcp, Open, due_moment, Site, State, moved}
use Rattle.runs.specs.Messages.{Brings, IsSent, IsReply, IsRefusal}
use Rattle.runs.specs.Steps.{IsMeant, IsOfNumber, Step}
use Rattle.runs.specs.Runs.{Run, Earlier, GivesOut, Came, clock_of, asks_of}
use Rattle.runs.specs.Laws.{IsForTcp}
use Rattle.laws.specs.Spent.{IsUdpPath, AcceptedAliasesLead}
use Rattle.laws.specs.LookUps.{look_ups_of}

-- ---- which query a step serves

-- Why an event is for an open query. It brings a message that its ask accepts; it is the end of its ask over TCP; or it
-- is a tick, and the query is due. In a step that ran out of memory it names the query's ask.
abbrev pub IsForOpenQuery : Site → State → Turn → Open → Type 0
IsForOpenQuery site s t q =
    ((m : Message) × Brings site.port q.ask t.event m)
    ⊎ (((number : ℕ) × IsOfNumber number q × IsForTcp number t.event)
    ⊎ (((now : ℕ) × (t.event ≡ Tick now) × (due_moment q ≤ s.clock)) ⊎ ((t.out ≡ None) × IsMeant s t.event q)))

-- A query is served under its number where it comes, or where the event is for it, and in no other step.
abbrev pub IsServedRightly : Site → List Turn → State → Turn → Type 0
IsServedRightly site past old t =
    (k : ℕ) → t.served ≡ OpenQuery k
    → ((who : ClientQuery) × Came (OpenQuery k) who t past) ⊎ ((q : Open) × Contains old.queries q × (q.number ≡ k) × IsForOpenQuery site (moved old t.event) t q)

abbrev pub ServedIsMeant : Type 0
ServedIsMeant = (site : Site) (past : List Turn) (old : State) (t : Turn) (new : State) → Run site past old → Step old t.event t.served t.out new → IsServedRightly site past old t

-- A request that is dropped, refused, or without RD is over in its own step, with its one reply.
abbrev pub IsOverAtOnce : ℕ → Via → Request Plain → Served → List Action → Type 0
IsOverAtOnce client way request.Drop served out = (served ≡ Own) × (out ≡ [])
IsOverAtOnce client way (request.Refuse refusal start echo) served out = (served ≡ Own) × ((action : Action) × IsRefusal client way refusal start echo action × (out ≡ action ∷ []))
IsOverAtOnce client way (request.Query q) served out =
    recursive q ≡ false → (served ≡ Own) × ((o : Outcome Plain) × (action : Action) × IsReply (client_query client way q) o action × (out ≡ action ∷ []))

abbrev pub EndsAtHand : Turn → Type 0
EndsAtHand t =
    (now client : ℕ) (way : Via) (bytes : List ℕ) (out : List Action) (asked : Request Plain)
    → t.event ≡ Client now client way bytes → t.out ≡ Some out → IsRequest bytes asked → IsOverAtOnce client way asked t.served out

abbrev pub AtHandIsReplied : Type 0
AtHandIsReplied = (site : Site) (past : List Turn) (old : State) (t : Turn) (new : State) → Run site past old → Step old t.event t.served t.out new → EndsAtHand t

-- ---- which server a step asks

-- Over UDP no server is asked that failed less than 30 seconds ago to answer the same question (RFC 2308, section 7.1).
abbrev pub AsksNoFailing : State → Turn → State → Type 0
AsksNoFailing old t new =
    (q : Open) → Contains new.queries q → t.served ≡ OpenQuery q.number → IsUdpPath (q.ask).path
    → is_failed (moved old t.event).clock (failed_ask (q.ask).name (q.ask).kind (q.ask).server) (new.stores).failures ≡ false

abbrev pub NobodyFailingIsAsked : Type 0
NobodyFailingIsAsked = (site : Site) (past : List Turn) (old : State) (t : Turn) (new : State) → Run site past old → Step old t.event t.served t.out new → AsksNoFailing old t new

-- ---- the fields of an open query

-- The wait for the reply to an ask: 1,000 or 2,000 milliseconds in a datagram, 3,000 on a stream.
abbrev pub IsWait : Path → ℕ → Type 0
IsWait (ByUdp sock) wait = (wait ≡ 1000) ⊎ (wait ≡ 2000)
IsWait (ByTcp number) wait = wait ≡ tcp_wait

-- The query's last step sent its open ask, whose reply is waited for from there until it is due.
abbrev pub IsAwaited : ℕ → Open → List Turn → Type 0
IsAwaited port q [] = ⊥
IsAwaited port q (t ∷ past) =
    ((t.served ≡ OpenQuery q.number) × ((action : Action) × GivesOut t.out action × IsSent port q.ask action) × ((wait : ℕ) × IsWait (q.ask).path wait × (q.due ≡ clock_of (t ∷ past) + wait)))
    ⊎ ((t.served ≢ OpenQuery q.number) × IsAwaited port q past)

-- The query came so, ten seconds before its deadline, with RD, and its type is sought. Its aliases lead from the name
-- in its question to the one that is sought. Its asks and its look-ups are those of the run.
pub record IsOfRun (site : Site) (run : List Turn) (s : State) (legal : Run site run s) (q : Open) : Type 0 where
  pub came : Earlier (λ u before. Came (OpenQuery q.number) q.client_query u before × ((q.job).deadline ≡ clock_of (u ∷ before) + query_lifetime)) run
  pub wanted : recursive (q.client_query).query ≡ true
  pub kind : (q.job).kind ≡ type_number ((q.client_query).query).kind
  pub few : length (q.job).chain ≤ max_aliases
  pub chain : (aliases : List Record) × (length aliases ≡ length (q.job).chain)
      × AcceptedAliasesLead site.port site.home run (type_number ((q.client_query).query).kind) ((q.client_query).query).name aliases (q.job).name
  pub searches : length (q.job).searches ≤ 4
  pub due : IsAwaited site.port q run
  pub asks : (q.job).asks ≡ asks_of q.number run
  pub look_ups : (q.job).look_ups ≡ look_ups_of q.number site run s legal

abbrev pub AreOfRun : (site : Site) (run : List Turn) (s : State) → Run site run s → Type 0
AreOfRun site run s legal = (q : Open) → Contains s.queries q → IsOfRun site run s legal q

abbrev pub OpenIsOfRun : Type 0
OpenIsOfRun = (site : Site) (run : List Turn) (s : State) (legal : Run site run s) → AreOfRun site run s legal
