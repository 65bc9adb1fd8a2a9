-- Which frames open in a step, by its rules; and that each opens at the start of its question, and the first address of
-- its plan is asked.
use Rattle.std.specs.Prelude.{◌≡◌, ℕ, zero, suc, ◌≤◌, ◌⊎◌, Option, Some, None, List, ◌∷◌, length, Contains}
use Rattle.std.proofs.Common.{inl, inr}
use Rattle.dname.specs.Labels.{Name}
use Rattle.rdata.specs.declared.addr.Addr.{Addr}
use Rattle.causes.specs.declared.cause.Cause.{Cause}
use Rattle.causes.specs.declared.cause.Cause.TheVariants as cause
use Rattle.wire.specs.declared.via.Via.{Via}
use Rattle.front.specs.declared.queries.Request.{Request}
use Rattle.front.specs.declared.queries.Request.TheVariants as request
use Rattle.front.specs.declared.queries.Outcome.TheVariants as outcome
use Rattle.frames.specs.Frames.{opened}
use Rattle.resolution.specs.Jobs.{Home, Stores, level_of, Search, search_at, next_server, Job, Input, Start, Next, Point}
use Rattle.resolution.specs.Rules.{Rules, MayNotSend, Advances}
use Rattle.runs.specs.States.{Event, Client, Datagram, TcpReply, Tick, Action, Served, OpenQuery, Turn, Plain, ClientQuery, client_query, job_for, IsFor, Open, Site, State, moved}
use Rattle.runs.specs.States as event
use Rattle.runs.specs.Messages.{IsSent, IsReply}
use Rattle.runs.specs.Steps.{most_open, IsHandled, IsIgnored, ServesOpen, IsTicked, IsTurn, Step}
use Rattle.runs.specs.Runs.{Run}
use Rattle.laws.specs.Laws.{IsOnlyAction}
use Rattle.laws.specs.Calls.{Opening, opening_of, StartsSearch, IsGivenOf}
use Rattle.laws.specs.Steps.{IsSentByUdp}

-- The call of a query's work that a step makes: the client's query, the input, and the work before and after.
pub record Call (s : State) : Type 0 where
  pub client_query : ClientQuery
  pub input : Input
  pub old : Job
  pub next : Next
  pub new : Job
  pub after : Stores
  pub advances : Advances (s.site).home s.clock input old s.stores next new after

-- ---- which call a step makes

abbrev pub handled_call : (s : State) (client : ℕ) (way : Via) (asked : Request Plain) (served : Served) (out : List Action) (new : State) → IsHandled s client way asked served out new → Option (Call s)
handled_call s client way request.Drop served out new h = None
handled_call s client way (request.Refuse refusal start echo) served out new h = None
handled_call s client way (request.Query q) served out new (inl h) = None
handled_call s client way (request.Query q) served out new (inr (rd, h)) = Some (record { client_query = client_query client way q; input = Start; old = job_for s.clock q; next = h.next; new = h.job; after = h.stores; advances = h.advances })

abbrev pub hears_call : (s : State) (event : Event) (served : Served) (out : List Action) (new : State) → ServesOpen s event served out new → Option (Call s)
hears_call s event served out new h =
    Some (record { client_query = (h.query).client_query; input = h.input; old = (h.query).job; next = (h.serves).next; new = (h.serves).job; after = (h.serves).stores; advances = (h.serves).advances })

abbrev pub either_call : (s : State) (event : Event) (served : Served) (out : List Action) (new : State) → IsIgnored s event served out new ⊎ ServesOpen s event served out new → Option (Call s)
either_call s event served out new (inl h) = None
either_call s event served out new (inr h) = hears_call s event served out new h

abbrev pub ticked_call : (s : State) (now : ℕ) (served : Served) (out : List Action) (new : State) → IsTicked s now served out new → Option (Call s)
ticked_call s now served out new (inl h) = None
ticked_call s now served out new (inr (first, inl h, followed)) = None
ticked_call s now served out new (inr (first, inr h, followed)) = hears_call s (Tick now) served first new h

abbrev pub turn_call : (s : State) (e : Event) (served : Served) (out : Option (List Action)) (new : State) → IsTurn s e served out new → Option (Call s)
turn_call s (Client now client way bytes) served None new h = None
turn_call s (Datagram now sock from bytes) served None new h = None
turn_call s (TcpReply now number bytes) served None new h = None
turn_call s (event.TcpFailed now number) served None new h = None
turn_call s (Tick now) served None new h = None
turn_call s (Client now client way bytes) served (Some out) new (asked, reads, h) = handled_call s client way asked served out new h
turn_call s (Datagram now sock from bytes) served (Some out) new h = either_call s (Datagram now sock from bytes) served out new h
turn_call s (TcpReply now number bytes) served (Some out) new h = either_call s (TcpReply now number bytes) served out new h
turn_call s (event.TcpFailed now number) served (Some out) new h = either_call s (event.TcpFailed now number) served out new h
turn_call s (Tick now) served (Some out) new h = ticked_call s now served out new h

-- The call of a step. There is none where it serves no query, answers without such work, or runs out of memory.
abbrev pub step_call : (old : State) (t : Turn) (new : State) → Step old t.event t.served t.out new → Option (Call (moved old t.event))
step_call old t new step = turn_call (moved old t.event) t.event t.served t.out new step.turn

-- ---- which frames it opens

abbrev pub RulesOpen : (home : Home) (now count : ℕ) (a b : Point) → Rules home now count a b → Opening → Type 0
RulesOpen home now zero a b same frame = ⊥
RulesOpen home now (suc n) a b (mid, before, rule) frame = RulesOpen home now n a mid before frame ⊎ (opening_of home now mid b rule ≡ Some frame)

abbrev pub Opens : (s : State) → Call s → Opening → Type 0
Opens s call frame = RulesOpen (s.site).home s.clock (call.advances).count (call.advances).first (call.advances).last (call.advances).rules frame

-- ---- what goes out

-- The step's one action: this server is asked for this over UDP, for the query that is served.
pub record Goes (site : Site) (served : Served) (server : Addr) (n : Name) (t : ℕ) (out : List Action) (new : State) : Type 0 where
  pub query : Open
  pub there : Contains new.queries query
  pub number : served ≡ OpenQuery query.number
  pub for : IsFor server n t query.ask
  pub path : IsSentByUdp (query.ask).path
  pub action : Action
  pub sent : IsSent site.port query.ask action
  pub alone : IsOnlyAction action out

-- Or the query's time is up, or 40 asks went out for it, or it has only come and 1,024 others are open; then it is
-- answered so.
pub record MayNot (s : State) (call : Call s) (out : List Action) : Type 0 where
  pub c : Cause
  pub may_not : MayNotSend s.clock (call.old) c ⊎ ((call.input ≡ Start) × (c ≡ cause.TooManyOpen) × (most_open ≤ length s.queries))
  pub action : Action
  pub reply : IsReply call.client_query (outcome.Fail c) action
  pub alone : IsOnlyAction action out

-- The frame's cut is where servers of its question are sought first, and its plan's first address that did not fail
-- lately is asked, both by the stores as the step leaves them. Where the query waits for that ask, the frame stands with
-- that plan in its innermost search.
pub record IsOpenedRightly (site : Site) (s : State) (served : Served) (out : List Action) (new : State) (call : Call s) (frame : Opening) : Type 0 where
  pub start : StartsSearch site.home s.clock frame.name frame.kind new.stores frame.cut
  pub first : (d : Addr) → next_server s.clock (new.stores).failures (search_at frame.name frame.kind (opened (level_of new.stores) frame.nesting frame.cut)) ≡ Some d
      → Goes site served d frame.name frame.kind out new ⊎ MayNot s call out
  pub stands : (d : Addr) (q : Open) → next_server s.clock (new.stores).failures (search_at frame.name frame.kind (opened (level_of new.stores) frame.nesting frame.cut)) ≡ Some d
      → Contains new.queries q → served ≡ OpenQuery q.number
      → (sought : Search) × (rest : List Search) × IsGivenOf (search_at frame.name frame.kind (opened (level_of new.stores) frame.nesting frame.cut)) sought × ((q.job).searches ≡ sought ∷ rest)

-- Each frame that opens in a step of a run.
abbrev pub OpensFrames : (site : Site) (old : State) (t : Turn) (new : State) → Step old t.event t.served t.out new → Type 0
OpensFrames site old t new step =
    (out : List Action) (call : Call (moved old t.event)) (frame : Opening)
    → t.out ≡ Some out → step_call old t new step ≡ Some call → Opens (moved old t.event) call frame → IsOpenedRightly site (moved old t.event) t.served out new call frame

abbrev pub FramesOpenInSteps : Type 0
FramesOpenInSteps = (site : Site) (past : List Turn) (old : State) (t : Turn) (new : State) → Run site past old → (step : Step old t.event t.served t.out new) → OpensFrames site old t new step
