-- The stores keep their room.
use Rattle.std.proofs.Common.{◌≡◌, ℕ, zero, suc, ◌⊎◌, inl, inr, Option, Some, None, List, [], ◌∷◌, refl, ap, ◌∙◌}
use Rattle.dname.specs.Labels.{Name}
use Rattle.rdata.specs.declared.addr.Addr.{Addr}
use Rattle.zone.specs.Links.{Link}
use Rattle.zone.specs.Look.{Linked}
use Rattle.wire.specs.declared.via.Via.{Via}
use Rattle.front.specs.declared.queries.Request.{Request}
use Rattle.front.specs.declared.queries.Request.TheVariants as request
use Rattle.classify.specs.Classes as class
use Rattle.classify.specs.Classes.{class_of}
use Rattle.cache.specs.Cached.{Hit}
use Rattle.resolution.specs.Jobs.{Home, Stores, with_told, Search, Taken, local_link, Job, Input, Start, Told, TimedOut, TcpFailed, Next, Point}
use Rattle.resolution.specs.Rules.{Says, Hits, Finds, Rule, takes, asks, follows, restarts, skips, hears, descends, gives_up, Rules, IsAnswered, ByClass, Enters, Advances}
use Rattle.resolution.specs.Stops.{Stops}
use Rattle.resolution.proofs.Keeping.{stops_bring}
use Rattle.runs.specs.States.{Event, Client, Datagram, TcpReply, Tick, Action, Served, Plain, State, moved}
use Rattle.runs.specs.States as event
use Rattle.runs.specs.Steps.{IsOpened, at_once, crowded, admitted, IsIgnored, ServesOpen, IsHandled, IsTicked, IsLeft, IsTurn}
use Rattle.laws.proofs.Skipped.{same_after}
use Rattle.laws.proofs.FollowedStores.{comes_stores}
use Rattle.laws.specs.FirstStates.{room_of, RoomStays}

abbrev SameRoom : Stores → Stores → Type 0
SameRoom old new = room_of new ≡ room_of old

-- ---- a call

found_room : (home : Home) (now : ℕ) (n : Name) (t : ℕ) (old : Stores) (l : Taken) (new : Stores) → Finds home now n t old l new → SameRoom old new
found_room home now n t old l new f = by f.is
  where
    by : (x : ((k : Link) × Says home n t (Linked k) × (l ≡ local_link n k) × (new ≡ old)) ⊎ ((hit : Hit) × Hits home now n t old l hit new)) → SameRoom old new
    by (inl (k, says, is, stays)) = ap room_of stays
    by (inr (hit, h)) = ap room_of h.stores

module _ (home : Home) (now : ℕ) where
  rule_room : (a b : Point) → Rule home now a b → SameRoom a.stores b.stores
  rule_room a b (takes l t f u j) = found_room home now (a.job).name (a.job).kind a.stores l b.stores f
  rule_room a b (asks c t m u j) = ap room_of m.stores
  rule_room a b (follows l r t is few u j e) = ap room_of e
  rule_room a b (restarts l d front back t is whole fresh dead u j e) = ap room_of e
  rule_room a b (skips n s u rest failures t searches passes free v j e) = ap room_of e
  rule_room a b (hears before around rest n l marks t turn f h u j) = found_room home now n _ a.stores l b.stores f
  rule_room a b (descends s rest n c t turn m u j) = ap room_of m.stores
  rule_room a b (gives_up s around rest t up u j e) = ap room_of e

  rules_room : (n : ℕ) (a b : Point) → Rules home now n a b → SameRoom a.stores b.stores
  rules_room zero a b e = ap (λ (p : Point). room_of p.stores) e
  rules_room (suc n) a b (mid, more, rule) = rule_room mid b rule ∙ rules_room n a mid more

answered_room : (now : ℕ) (s : Search) (rest : List Search) (l : Link) (j : Job) (stores : Stores) (p : Point) → IsAnswered now s rest l j stores p → SameRoom stores p.stores
answered_room now s [] l j stores p (task, job, learnt) = ap room_of learnt.stores
answered_room now s (around ∷ rest) l j stores p (after, marks, task, learnt, told, job) = ap room_of learnt.stores

class_room : (now : ℕ) (server : Addr) (s : Search) (rest : List Search) (c : class.Class) (j : Job) (stores : Stores) (p : Point) → ByClass now server s rest c j stores p → SameRoom stores p.stores
class_room now server s rest (class.Answer l) j stores p h = answered_room now s rest l j stores p h
class_room now server s rest (class.Referral at ns glue ttl) j stores p h = ap room_of h.stored
class_room now server s rest class.Truncated j stores p h = ap (λ (x : Point). room_of x.stores) h
class_room now server s rest (class.Failed f) j stores p h = ap (λ (x : Point). room_of x.stores) h

enters_room : (now : ℕ) (input : Input) (j : Job) (stores : Stores) (p : Point) → Enters now input j stores p → SameRoom stores p.stores
enters_room now Start j stores p h = ap (λ (x : Point). room_of x.stores) h
enters_room now (Told via server m) j stores p (inl (top, h)) = ap (λ (x : Point). room_of x.stores) h
enters_room now (Told via server m) j stores p (inr (s, rest, top, h)) =
    class_room now server s rest (class_of (s.frame).zone s.name s.kind via m) j (with_told now s server m stores) p h
enters_room now (TimedOut server) j stores p h = ap (λ (x : Point). room_of x.stores) h
enters_room now (TcpFailed server) j stores p h = ap (λ (x : Point). room_of x.stores) h

call_room : (home : Home) (now : ℕ) (input : Input) (old : Job) (stores : Stores) (next : Next) (new : Job) (after : Stores) → Advances home now input old stores next new after → SameRoom stores after
call_room home now input old stores next new after call =
    ap room_of (same_after home now call.last next new after call.leaves)
    ∙ (rules_room home now call.count call.first call.last call.rules ∙ enters_room now input old stores call.first call.enters)

stops_room : (home : Home) (now : ℕ) (input : Input) (old : Job) (stores after : Stores) → Stops home now input old stores after → SameRoom stores after
stops_room home now input old stores after stops = let h = stops_bring home now input old stores after stops in λ i. h.cache_cap i ∷ h.delegations_cap i ∷ h.penalties_cap i ∷ h.failures_cap i ∷ []

-- ---- a step

abbrev SameIn : State → State → Type 0
SameIn s new = SameRoom s.stores new.stores

same_room : (s new : State) → new ≡ s → SameIn s new
same_room s new e = ap (λ (x : State). room_of x.stores) e

handled_room : (s : State) (client : ℕ) (way : Via) (asked : Request Plain) (served : Served) (out : List Action) (new : State) → IsHandled s client way asked served out new → SameIn s new
handled_room s client way request.Drop served out new h = same_room s new h.2
handled_room s client way (request.Refuse refusal start echo) served out new h = same_room s new h.2
handled_room s client way (request.Query q) served out new (inl (rd, h)) = same_room s new h.state
handled_room s client way (request.Query q) served out new (inr (rd, h)) = ap room_of (by h.opened) ∙ call_room _ _ _ _ _ _ _ _ h.advances
  where
    by : IsOpened s (record { client = client; way = way; query = q }) h.next h.job h.stores served out new → new.stores ≡ h.stores
    by (at_once is over comes) = comes_stores s _ _ _ h.next h.job h.stores out new comes
    by (crowded is asking many e) = ap (λ (x : State). x.stores) e.state
    by (admitted is asking few comes) = comes_stores s _ _ _ h.next h.job h.stores out new comes

serves_room : (s : State) (e : Event) (served : Served) (out : List Action) (new : State) → ServesOpen s e served out new → SameIn s new
serves_room s e served out new h = let v = h.serves in ap room_of (comes_stores s _ _ _ v.next v.job v.stores out new v.comes) ∙ call_room _ _ _ _ _ _ _ _ v.advances

either_room : (s : State) (e : Event) (served : Served) (out : List Action) (new : State) → IsIgnored s e served out new ⊎ ServesOpen s e served out new → SameIn s new
either_room s e served out new (inl h) = same_room s new h.state
either_room s e served out new (inr h) = serves_room s e served out new h

ticked_room : (s : State) (now : ℕ) (served : Served) (out : List Action) (new : State) → IsTicked s now served out new → SameIn s new
ticked_room s now served out new (inl h) = same_room s new h.state
ticked_room s now served out new (inr (first, inl h, followed)) = ap (λ (x : State). room_of x.stores) (h.ends).state
ticked_room s now served out new (inr (first, inr h, followed)) = serves_room s (Tick now) served first new h

module _ (s new : State) (k : ℕ) where
  left_room : (Way : Stores → Type 0) → ((stores : Stores) → Way stores → SameRoom s.stores stores) → IsLeft s k Way new → SameIn s new
  left_room Way same left = elim left.stores [ inl e ↦ ap room_of e | inr way ↦ same new.stores way ]

turn_room : (s : State) (e : Event) (served : Served) (out : Option (List Action)) (new : State) → IsTurn s e served out new → SameIn s new
turn_room s (Client now client way bytes) served None new (is, left) = left_room s new s.opened _ (λ stores h. stops_room _ _ _ _ _ _ h.3) left
turn_room s (Datagram now sock from bytes) served None new (q, there, is, meant, left) = left_room s new q.number _ (λ stores h. stops_room _ _ _ _ _ _ h.2) left
turn_room s (TcpReply now number bytes) served None new (q, there, is, meant, left) = left_room s new q.number _ (λ stores h. stops_room _ _ _ _ _ _ h.2) left
turn_room s (event.TcpFailed now number) served None new (q, there, is, meant, left) = left_room s new q.number _ (λ stores h. stops_room _ _ _ _ _ _ h.2) left
turn_room s (Tick now) served None new (q, there, is, meant, left) = left_room s new q.number _ (λ stores h. stops_room _ _ _ _ _ _ h.2) left
turn_room s (Client now client way bytes) served (Some out) new (asked, reads, h) = handled_room s client way asked served out new h
turn_room s (Datagram now sock from bytes) served (Some out) new h = either_room s (Datagram now sock from bytes) served out new h
turn_room s (TcpReply now number bytes) served (Some out) new h = either_room s (TcpReply now number bytes) served out new h
turn_room s (event.TcpFailed now number) served (Some out) new h = either_room s (event.TcpFailed now number) served out new h
turn_room s (Tick now) served (Some out) new h = ticked_room s now served out new h

pub room_stays : RoomStays
room_stays site [] s new = refl
room_stays site (t ∷ past) s (old, legal, step) = turn_room (moved old t.event) t.event t.served t.out s step.turn ∙ room_stays site past old legal
