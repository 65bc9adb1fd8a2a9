-- What a step does to the stores, and that no penalty is over 8 after any run.
use Rattle.std.proofs.Common.{◌≡◌, ℕ, ◌⊎◌, inl, inr, Option, Some, None, List, [], ◌∷◌, sym, ap, ◌∙◌, subst}
use Rattle.rdata.specs.declared.addr.Addr.{Addr}
use Rattle.zone.specs.Links.{Link}
use Rattle.wire.specs.declared.via.Via.{Via}
use Rattle.front.specs.declared.queries.Request.{Request}
use Rattle.front.specs.declared.queries.Request.TheVariants as request
use Rattle.classify.specs.Classes as class
use Rattle.classify.specs.Classes.{class_of}
use Rattle.retry.specs.Penalties.{AreAtMost}
use Rattle.retry.proofs.Steps.{timed_out_low, answered_low}
use Rattle.resolution.specs.Jobs.{Stores, with_answer, with_timeout, with_told, Search, Job, Input, Start, Told, TimedOut, TcpFailed, Next, AskUdp, AskTcp, Done, Fail, Point}
use Rattle.resolution.specs.Rules.{IsAnswered, ByClass, Enters, Advances, WritesPenalty, BringsOnly}
use Rattle.resolution.proofs.Keeping.{stops_bring}
use Rattle.runs.specs.States.{Event, Client, Datagram, TcpReply, TcpFailed, Tick, Action, Served, Turn, Plain, ClientQuery, Site, State, moved}
use Rattle.runs.specs.Steps.{Comes, IsOpened, at_once, crowded, admitted, IsHandled, IsIgnored, ServesOpen, IsLeft, IsTurn}
use Rattle.runs.specs.Runs.{Run}
use Rattle.laws.proofs.Opened.{starts_rules}
use Rattle.laws.proofs.Skipped.{same_after}

-- ---- what a step does to the stores

-- They stand as they did; or as one call of a query's work leaves them, or one that memory was wanting for.
abbrev pub Changes : State → Stores → Type 0
Changes s after =
    (after ≡ s.stores)
    ⊎ (((input : Input) × (j : Job) × (next : Next) × (new : Job) × Advances (s.site).home s.clock input j s.stores next new after)
    ⊎ ((input : Input) × (j : Job) × BringsOnly input s.clock j s.stores after))

pub comes_stores : (s : State) (who : ClientQuery) (k opened : ℕ) (next : Next) (job : Job) (stores : Stores) (out : List Action) (new : State) → Comes s who k opened next job stores out new → new.stores ≡ stores
comes_stores s who k opened (AskUdp server n t) job stores out new h = ap (λ (x : State). x.stores) (h.waits).state
comes_stores s who k opened (AskTcp server n t) job stores out new h = ap (λ (x : State). x.stores) (h.waits).state
comes_stores s who k opened (Done chain last) job stores out new h = ap (λ (x : State). x.stores) h.state
comes_stores s who k opened (Fail c) job stores out new h = ap (λ (x : State). x.stores) h.state

same : (s new : State) → new ≡ s → Changes s new.stores
same s new e = inl (ap (λ (x : State). x.stores) e)

handled_stores : (s : State) (client : ℕ) (way : Via) (asked : Request Plain) (served : Served) (out : List Action) (new : State) → IsHandled s client way asked served out new → Changes s new.stores
handled_stores s client way request.Drop served out new h = same s new h.2
handled_stores s client way (request.Refuse refusal start echo) served out new h = same s new h.2
handled_stores s client way (request.Query q) served out new (inl (rd, h)) = same s new h.state
handled_stores s client way (request.Query q) served out new (inr (rd, h)) =
    subst (Changes s) (sym (by h.opened)) (inr (inl (Start, _, h.next, h.job, h.advances)))
  where
    by : IsOpened s (record { client = client; way = way; query = q }) h.next h.job h.stores served out new → new.stores ≡ h.stores
    by (at_once is none comes) = comes_stores s _ _ _ h.next h.job h.stores out new comes
    by (crowded is asks many e) = ap (λ (x : State). x.stores) e.state
    by (admitted is asks few comes) = comes_stores s _ _ _ h.next h.job h.stores out new comes

hears_stores : (s : State) (event : Event) (served : Served) (out : List Action) (new : State) → ServesOpen s event served out new → Changes s new.stores
hears_stores s event served out new h =
    let v = h.serves in
    subst (Changes s) (sym (comes_stores s _ _ _ v.next v.job v.stores out new v.comes)) (inr (inl (h.input, (h.query).job, v.next, v.job, v.advances)))

either_stores : (s : State) (event : Event) (served : Served) (out : List Action) (new : State) → IsIgnored s event served out new ⊎ ServesOpen s event served out new → Changes s new.stores
either_stores s event served out new (inl h) = same s new h.state
either_stores s event served out new (inr h) = hears_stores s event served out new h

left_stores : (s : State) (k : ℕ) (P : Stores → Type 0) (new : State) → ((after : Stores) → P after → Changes s after) → IsLeft s k P new → Changes s new.stores
left_stores s k P new gives h = elim h.stores [ inl e ↦ inl e | inr p ↦ gives new.stores p ]

pub turn_stores : (s : State) (event : Event) (served : Served) (out : Option (List Action)) (new : State) → IsTurn s event served out new → Changes s new.stores
turn_stores s (Client now client way bytes) served None new h = left_stores s _ _ new (λ after p. inr (inr (Start, _, stops_bring _ _ _ _ _ _ p.3))) h.1
turn_stores s (Datagram now sock from bytes) served None new (q, there, is, meant, h) = left_stores s _ _ new (λ after p. inr (inr (p.0, q.job, stops_bring _ _ _ _ _ _ p.2))) h
turn_stores s (TcpReply now number bytes) served None new (q, there, is, meant, h) = left_stores s _ _ new (λ after p. inr (inr (p.0, q.job, stops_bring _ _ _ _ _ _ p.2))) h
turn_stores s (TcpFailed now number) served None new (q, there, is, meant, h) = left_stores s _ _ new (λ after p. inr (inr (p.0, q.job, stops_bring _ _ _ _ _ _ p.2))) h
turn_stores s (Tick now) served None new (q, there, is, meant, h) = left_stores s _ _ new (λ after p. inr (inr (p.0, q.job, stops_bring _ _ _ _ _ _ p.2))) h
turn_stores s (Client now client way bytes) served (Some out) new (asked, reads, h) = handled_stores s client way asked served out new h
turn_stores s (Datagram now sock from bytes) served (Some out) new h = either_stores s _ served out new h
turn_stores s (TcpReply now number bytes) served (Some out) new h = either_stores s _ served out new h
turn_stores s (TcpFailed now number) served (Some out) new h = either_stores s _ served out new h
turn_stores s (Tick now) served (Some out) new (inl h) = same s new h.state
turn_stores s (Tick now) served (Some out) new (inr (first, inl h, followed)) = inl (ap (λ (x : State). x.stores) (h.ends).state)
turn_stores s (Tick now) served (Some out) new (inr (first, inr h, followed)) = hears_stores s (Tick now) served first new h

-- ---- penalties

abbrev AreLow : Stores → Type 0
AreLow stores = AreAtMost 8 stores.penalties

low_by : (old new : Stores) → new.penalties ≡ old.penalties → AreLow old → AreLow new
low_by old new e h = subst (AreAtMost 8) (sym e) h

answered_so : (now : ℕ) (s : Search) (rest : List Search) (l : Link) (j : Job) (stores : Stores) (p : Point) → IsAnswered now s rest l j stores p → AreLow stores → AreLow p.stores
answered_so now s [] l j stores p (task, job, learnt) h = low_by stores p.stores (ap (λ (x : Stores). x.penalties) learnt.stores) h
answered_so now s (around ∷ rest) l j stores p (after, marks, task, learnt, told, job) h = low_by stores p.stores (ap (λ (x : Stores). x.penalties) learnt.stores) h

class_low : (now : ℕ) (server : Addr) (s : Search) (rest : List Search) (c : class.Class) (j : Job) (stores : Stores) (p : Point) → ByClass now server s rest c j stores p → AreLow stores → AreLow p.stores
class_low now server s rest (class.Answer l) j stores p is h = answered_so now s rest l j stores p is h
class_low now server s rest (class.Referral at ns glue ttl) j stores p is h = low_by stores p.stores (ap (λ (x : Stores). x.penalties) is.stored) h
class_low now server s rest class.Truncated j stores p is h = low_by stores p.stores (ap (λ (x : Point). (x.stores).penalties) is) h
class_low now server s rest (class.Failed f) j stores p is h = low_by stores p.stores (ap (λ (x : Point). (x.stores).penalties) is) h

enters_low : (now : ℕ) (input : Input) (j : Job) (stores : Stores) (p : Point) → Enters now input j stores p → AreLow stores → AreLow p.stores
enters_low now Start j stores p is h = low_by stores p.stores (ap (λ (x : Point). (x.stores).penalties) is) h
enters_low now (Told via server m) j stores p (inl (none, is)) h = low_by (with_answer stores server) p.stores (ap (λ (x : Point). (x.stores).penalties) is) (answered_low server stores.penalties h)
enters_low now (Told via server m) j stores p (inr (s, rest, top, is)) h =
    class_low now server s rest (class_of (s.frame).zone s.name s.kind via m) j (with_told now s server m stores) p is (answered_low server stores.penalties h)
enters_low now (TimedOut server) j stores p is h = low_by (with_timeout stores server) p.stores (ap (λ (x : Point). (x.stores).penalties) is) (timed_out_low server stores.penalties_cap stores.penalties h)
enters_low now (TcpFailed server) j stores p is h = low_by (with_timeout stores server) p.stores (ap (λ (x : Point). (x.stores).penalties) is) (timed_out_low server stores.penalties_cap stores.penalties h)

written_low : (input : Input) (stores : Stores) (new : List (Addr × ℕ)) → WritesPenalty input stores new → AreLow stores → AreAtMost 8 new
written_low Start stores new none h = absurd none
written_low (Told via server m) stores new e h = subst (AreAtMost 8) (sym e) (answered_low server stores.penalties h)
written_low (TimedOut server) stores new e h = subst (AreAtMost 8) (sym e) (timed_out_low server stores.penalties_cap stores.penalties h)
written_low (TcpFailed server) stores new e h = subst (AreAtMost 8) (sym e) (timed_out_low server stores.penalties_cap stores.penalties h)

changes_low : (s : State) (after : Stores) → Changes s after → AreLow s.stores → AreLow after
changes_low s after (inl e) h = low_by s.stores after (ap (λ (x : Stores). x.penalties) e) h
changes_low s after (inr (inl (input, j, next, new, call))) h =
    let first = enters_low s.clock input j s.stores call.first call.enters h in
    let rules = starts_rules (s.site).home s.clock call.count call.first call.last call.rules in
    low_by (call.first).stores after (ap (λ (x : Stores). x.penalties) (same_after (s.site).home s.clock call.last next new after call.leaves) ∙ rules.penalties) first
changes_low s after (inr (inr (input, j, stops))) h = elim stops.penalties [
  | inl e ↦ low_by s.stores after e h
  | inr writes ↦ written_low input s.stores after.penalties writes h
]

pub low_run : (site : Site) (run : List Turn) (s : State) → Run site run s → AreAtMost 8 (s.stores).penalties
low_run site [] s new = subst (AreAtMost 8) (sym new.penalties) tt
low_run site (t ∷ past) s (old, legal, step) =
    changes_low (moved old t.event) s.stores (turn_stores (moved old t.event) t.event t.served t.out s step.turn) (low_run site past old legal)
