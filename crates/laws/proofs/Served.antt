-- Which work a step's call begins with, and which it leaves open.
use Rattle.std.proofs.Common.{◌≡◌, ℕ, ◌+◌, ◌⊎◌, inl, inr, Option, Some, None, List, Contains, refl, sym, ap, ◌∙◌, subst}
use Rattle.dname.specs.Labels.{Name}
use Rattle.rdata.specs.Types.{type_number}
use Rattle.wire.specs.declared.via.Via.{Via}
use Rattle.front.specs.declared.queries.Request.{Request}
use Rattle.front.specs.declared.queries.Request.TheVariants as request
use Rattle.limits.specs.Limits.{tcp_wait}
use Rattle.resolution.specs.Jobs.{Stores, Job, job_at, wait_of_job, Next, AskUdp, AskTcp, Done, Fail}
use Rattle.runs.specs.States.{Event, Client, Datagram, TcpReply, Tick, Action, Served, Nobody, Own, OpenQuery, Turn, Plain, ClientQuery, client_query, job_for, ByUdp, ByTcp, IsFor, Open, State, moved}
use Rattle.runs.specs.States as event
use Rattle.runs.specs.Steps.{AreOthers, AreWith, Comes, IsAsk, IsOpened, at_once, crowded, admitted, IsHandled, IsIgnored, ServesOpen, IsTicked, IsTurn, Step}
use Rattle.laws.specs.Opens.{Call, handled_call, hears_call, either_call, ticked_call, turn_call, step_call}
use Rattle.laws.proofs.OrderlyLists.{same_number}
use Rattle.laws.proofs.TimelyOpens.{not_own, not_nobody}

-- The work on a query that comes.
abbrev pub IsNewJob : Job → Type 0
IsNewJob j = (n : Name) × (t : ℕ) × (now : ℕ) × (j ≡ job_at n t now)

-- The work on an open query of this number, or on one that is opened under it.
abbrev pub IsJobOf : State → ℕ → Job → Type 0
IsJobOf s k j = ((p : Open) × Contains s.queries p × (p.number ≡ k) × (j ≡ p.job)) ⊎ ((k ≡ s.opened) × IsNewJob j)

abbrev pub BeginsWith : State → Served → Job → Type 0
BeginsWith s Nobody j = ⊥
BeginsWith s Own j = IsNewJob j
BeginsWith s (OpenQuery k) j = IsJobOf s k j

-- What a call gave is the query's open ask.
abbrev pub AsksAs : ℕ → Job → Next → Open → Type 0
AsksAs now job (AskUdp server n t) q = IsFor server n t q.ask × ((sock : ℕ) × ((q.ask).path ≡ ByUdp sock)) × (q.due ≡ now + wait_of_job job)
AsksAs now job (AskTcp server n t) q = IsFor server n t q.ask × ((number : ℕ) × ((q.ask).path ≡ ByTcp number)) × (q.due ≡ now + tcp_wait)
AsksAs now job (Done chain last) q = ⊥
AsksAs now job (Fail c) q = ⊥

pub is_ask : (now : ℕ) (job : Job) (next : Next) (q : Open) → AsksAs now job next q → IsAsk next
is_ask now job (AskUdp server n t) q h = tt
is_ask now job (AskTcp server n t) q h = tt
is_ask now job (Done chain last) q h = h
is_ask now job (Fail c) q h = h

-- What a call leaves is the open query's.
pub record IsLeftBy (s : State) (next : Next) (job : Job) (stores : Stores) (new : State) (q : Open) : Type 0 where
  pub asks : AsksAs s.clock job next q
  pub job_is : q.job ≡ job
  pub stores_are : new.stores ≡ stores

-- Where a step makes a call, that begins with the work of the query that is served, and where this is open afterwards it
-- is so with what the call left, by an ask. Where it makes none, that query is over.
abbrev pub IsCallOf : (s : State) → Served → State → Option (Call s) → Type 0
IsCallOf s served new None = (q : Open) → Contains new.queries q → served ≡ OpenQuery q.number → ⊥
IsCallOf s served new (Some call) = BeginsWith s served call.old × ((q : Open) → Contains new.queries q → served ≡ OpenQuery q.number → IsLeftBy s call.next call.new call.after new q)

-- ---- the query that is served, afterwards

only_after : (after q : Open) (old new : List Open) → AreWith after old new → Contains new q → q.number ≡ after.number → q ≡ after
only_after after q old new are c same = elim (are.only q c) [ inl is ↦ is | inr d ↦ absurd (d.1 same) ]

-- It waits with what its work left, or is over.
comes_after : (s : State) (who : ClientQuery) (k opened : ℕ) (next : Next) (job : Job) (stores : Stores) (out : List Action) (new : State) → Comes s who k opened next job stores out new
    → (q : Open) → Contains new.queries q → q.number ≡ k → IsLeftBy s next job stores new q
comes_after s who k opened (AskUdp server n t) job stores out new w q c same =
    let is = only_after _ q s.queries new.queries (w.waits).queries c same in record {
      asks = subst (λ (x : Open). AsksAs s.clock job (AskUdp server n t) x) (sym is) (w.for, ((w.goes).sock, (w.goes).path), refl);
      job_is = ap (λ (x : Open). x.job) is;
      stores_are = ap (λ (x : State). x.stores) (w.waits).state;
    }
comes_after s who k opened (AskTcp server n t) job stores out new w q c same =
    let is = only_after _ q s.queries new.queries (w.waits).queries c same in record {
      asks = subst (λ (x : Open). AsksAs s.clock job (AskTcp server n t) x) (sym is) (w.for, (s.tcp_asks, (w.goes).path), refl);
      job_is = ap (λ (x : Open). x.job) is;
      stores_are = ap (λ (x : State). x.stores) (w.waits).state;
    }
comes_after s who k opened (Done chain last) job stores out new e q c same = absurd (((e.queries).only q c).1 same)
comes_after s who k opened (Fail cause) job stores out new e q c same = absurd (((e.queries).only q c).1 same)

none_after : (k : ℕ) (old new : List Open) → AreOthers k old new → (q : Open) → Contains new q → k ≡ q.number → ⊥
none_after k old new are q c same = (are.only q c).1 (sym same)

-- ---- each step

pub handled_calls : (s : State) (client : ℕ) (way : Via) (asked : Request Plain) (served : Served) (out : List Action) (new : State) → (h : IsHandled s client way asked served out new)
    → IsCallOf s served new (handled_call s client way asked served out new h)
handled_calls s client way request.Drop served out new (is, none, same) = λ q c e. not_own q.number (sym is ∙ e)
handled_calls s client way (request.Refuse refusal start echo) served out new (is, refuses, same) = λ q c e. not_own q.number (sym is ∙ e)
handled_calls s client way (request.Query q) served out new (inl h) = λ p c e. not_own p.number (sym (h.1).served_is ∙ e)
handled_calls s client way (request.Query q) served out new (inr (rd, h)) = by h.opened
  where
    fresh : IsNewJob (job_for s.clock q)
    fresh = (q.name, type_number q.kind, s.clock, refl)

    by : IsOpened s (client_query client way q) h.next h.job h.stores served out new → IsCallOf s served new (handled_call s client way (request.Query q) served out new (inr (rd, h)))
    by (at_once is none comes) = (subst (λ (v : Served). BeginsWith s v (job_for s.clock q)) (sym is) fresh, λ p c e. absurd (not_own p.number (sym is ∙ e)))
    by (crowded is asks many ends) = (subst (λ (v : Served). BeginsWith s v (job_for s.clock q)) (sym is) fresh, λ p c e. absurd (not_own p.number (sym is ∙ e)))
    by (admitted is asks few comes) = (
      subst (λ (v : Served). BeginsWith s v (job_for s.clock q)) (sym is) (inr (refl, fresh)),
      λ p c e. comes_after s (client_query client way q) s.opened (s.opened + 1) h.next h.job h.stores out new comes p c (same_number (sym e ∙ is)),
    )

pub hears_calls : (s : State) (event : Event) (served : Served) (out : List Action) (new : State) → (h : ServesOpen s event served out new) → IsCallOf s served new (hears_call s event served out new h)
hears_calls s event served out new h = (
  subst (λ (v : Served). BeginsWith s v ((h.query).job)) (sym h.served_is) (inl (h.query, (h.serves).stands, refl, refl)),
  λ p c e. comes_after s (h.query).client_query (h.query).number s.opened (h.serves).next (h.serves).job (h.serves).stores out new (h.serves).comes p c (same_number (sym e ∙ h.served_is)),
)

either_calls : (s : State) (event : Event) (served : Served) (out : List Action) (new : State) → (h : IsIgnored s event served out new ⊎ ServesOpen s event served out new)
    → IsCallOf s served new (either_call s event served out new h)
either_calls s event served out new (inl h) = λ q c e. not_nobody q.number (sym h.served_is ∙ e)
either_calls s event served out new (inr h) = hears_calls s event served out new h

ticked_calls : (s : State) (now : ℕ) (served : Served) (out : List Action) (new : State) → (h : IsTicked s now served out new) → IsCallOf s served new (ticked_call s now served out new h)
ticked_calls s now served out new (inl h) = λ q c e. not_nobody q.number (sym h.served_is ∙ e)
ticked_calls s now served out new (inr (first, inl h, followed)) = λ q c e. none_after (h.query).number s.queries new.queries (h.ends).queries q c (same_number (sym h.served_is ∙ e))
ticked_calls s now served out new (inr (first, inr h, followed)) = hears_calls s (Tick now) served first new h

left_calls : (s : State) (k : ℕ) (served : Served) (new : State) → served ≡ OpenQuery k → AreOthers k s.queries new.queries → (q : Open) → Contains new.queries q → served ≡ OpenQuery q.number → ⊥
left_calls s k served new is are q c e = none_after k s.queries new.queries are q c (same_number (sym is ∙ e))

pub turn_calls : (s : State) (e : Event) (served : Served) (out : Option (List Action)) (new : State) → (h : IsTurn s e served out new) → IsCallOf s served new (turn_call s e served out new h)
turn_calls s (Client now client way bytes) served None new (is, left) = λ q c e. not_own q.number (sym is ∙ e)
turn_calls s (Datagram now sock from bytes) served None new (p, there, is, meant, left) = left_calls s p.number served new is left.queries
turn_calls s (TcpReply now number bytes) served None new (p, there, is, meant, left) = left_calls s p.number served new is left.queries
turn_calls s (event.TcpFailed now number) served None new (p, there, is, meant, left) = left_calls s p.number served new is left.queries
turn_calls s (Tick now) served None new (p, there, is, meant, left) = left_calls s p.number served new is left.queries
turn_calls s (Client now client way bytes) served (Some out) new (asked, reads, h) = handled_calls s client way asked served out new h
turn_calls s (Datagram now sock from bytes) served (Some out) new h = either_calls s (Datagram now sock from bytes) served out new h
turn_calls s (TcpReply now number bytes) served (Some out) new h = either_calls s (TcpReply now number bytes) served out new h
turn_calls s (event.TcpFailed now number) served (Some out) new h = either_calls s (event.TcpFailed now number) served out new h
turn_calls s (Tick now) served (Some out) new h = ticked_calls s now served out new h

pub step_calls : (old : State) (t : Turn) (new : State) → (step : Step old t.event t.served t.out new) → IsCallOf (moved old t.event) t.served new (step_call old t new step)
step_calls old t new step = turn_calls (moved old t.event) t.event t.served t.out new step.turn
