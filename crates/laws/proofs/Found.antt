-- What a step does to the cache, and that a kept link is found while it lives.
use Rattle.std.proofs.Common.{◌≡◌, ◌≢◌, ℕ, zero, suc, ◌+◌, ◌<◌, ◌⊎◌, inl, inr, Option, Some, None, IsSome, List, [], ◌∷◌, ◌++◌, length, refl, sym, ap, ◌∙◌, subst, arith}
use Rattle.dname.specs.Labels.{Name}
use Rattle.rdata.specs.Records.{Record}
use Rattle.rdata.specs.declared.addr.Addr.{Addr}
use Rattle.zone.specs.Zones.{a_type, cname_type}
use Rattle.zone.specs.Links.{Link, Found, Alias, NoData, NxDomain}
use Rattle.zone.specs.Look.{Linked}
use Rattle.authority.specs.Catalogs.{looked}
use Rattle.wire.specs.declared.via.Via.{Via}
use Rattle.message_grammar.specs.Messages.{Message}
use Rattle.front.specs.declared.queries.Request.{Request}
use Rattle.front.specs.declared.queries.Request.TheVariants as request
use Rattle.classify.specs.Classes as class
use Rattle.classify.specs.Classes.{class_of}
use Rattle.classify.specs.Lifetimes.{received}
use Rattle.classify.proofs.Uses.{no_alias_class}
use Rattle.cache.specs.Keys.{Key, key_for}
use Rattle.cache.specs.Cached.{Hit, lent, hit_of, moved}
use Rattle.cache.specs.Cached as cache
use Rattle.resolution.specs.Jobs.{Home, Stores, with_told, Search, Taken, local_link, Job, Input, Start, Told, TimedOut, TcpFailed, Next, Point, hit_from}
use Rattle.resolution.specs.Rules.{Says, asked_of, above_by, Hits, Finds, Rule, takes, asks, follows, restarts, skips, hears, descends, gives_up, Rules, IsAnswered, ByClass, Enters, Advances}
use Rattle.runs.specs.States.{Event, Client, Datagram, TcpReply, Tick, Action, Served, Turn, Plain, job_for, Site, State, moved as moved_to}
use Rattle.runs.specs.States as event
use Rattle.runs.specs.Steps.{IsOpened, at_once, crowded, admitted, IsIgnored, ServesOpen, IsHandled, IsTicked, IsTurn, Step}
use Rattle.runs.specs.Runs.{Run}
use Rattle.laws.proofs.Skipped.{same_after}
use Rattle.laws.proofs.FollowedStores.{comes_stores}
use Rattle.laws.specs.Uses.{KeptAnswer, AreHits, took, is_kept}
use Rattle.laws.specs.Looks.{Looks, none, hits_by, rule_hits, rules_hits, accepted_by, enters_accepted, call_looks, handled_looks, hears_looks, either_looks, ticked_looks, turn_looks, step_looks, IsKeptSince, KeptIsFound}
use Rattle.laws.proofs.KeptEntries.{looked_in, lone_is_lent}
use Rattle.laws.proofs.Near.{IsNear, near_found, near_kept, near_other, near_hits}

abbrev Entries : Type 0
Entries = List (Key × Hit)

-- ---- look-ups, one after another

hits_both : (now : ℕ) (xs ys : List cache.Question) (a b c : Entries) → AreHits now xs a b → AreHits now ys b c → AreHits now (xs ++ ys) a c
hits_both now [] ys a b c g h = subst (λ (es : Entries). AreHits now ys es c) g h
hits_both now (x ∷ xs) ys a b c (some, g) h = (some, hits_both now xs ys (moved (lent x now a) a) b c g h)

-- What is kept and found, and the capacity stays.
pub record IsUsed (now : ℕ) (looks : Looks) (old new : Stores) : Type 0 where
  pub cache : AreHits now looks.hits (took old.cache_cap looks.accepted old.cache) new.cache
  pub cap : new.cache_cap ≡ old.cache_cap

pub record IsLooked (now : ℕ) (hits : List cache.Question) (old new : Stores) : Type 0 where
  pub cache : AreHits now hits old.cache new.cache
  pub cap : new.cache_cap ≡ old.cache_cap

looked_none : (now : ℕ) (old new : Stores) → new.cache ≡ old.cache → new.cache_cap ≡ old.cache_cap → IsLooked now [] old new
looked_none now old new e f = record { cache = e; cap = f }

found_looked : (home : Home) (now : ℕ) (n : Name) (t : ℕ) (old : Stores) (l : Taken) (new : Stores) → (f : Finds home now n t old l new) → IsLooked now (hits_by home n t f.is) old new
found_looked home now n t old l new f = by f.is
  where
    some_there : (o : Option (Key × Hit)) (h : Hit) → hit_of o ≡ Some h → IsSome o
    some_there None h e = absurd (cc)
    some_there (Some a) h e = refl

    by : (x : ((k : Link) × Says home n t (Linked k) × (l ≡ local_link n k) × (new ≡ old)) ⊎ ((hit : Hit) × Hits home now n t old l hit new)) → IsLooked now (hits_by home n t x) old new
    by (inl (k, says, is, stays)) = looked_none now old new (ap (λ (x : Stores). x.cache) stays) (ap (λ (x : Stores). x.cache_cap) stays)
    by (inr (hit, h)) = record {
      cache = (some_there (lent (asked_of home n t) now old.cache) hit h.found, ap (λ (x : Stores). x.cache) h.stores);
      cap = ap (λ (x : Stores). x.cache_cap) h.stores;
    }

same_looked : (now : ℕ) (old new : Stores) → new ≡ old → IsLooked now [] old new
same_looked now old new e = looked_none now old new (ap (λ (x : Stores). x.cache) e) (ap (λ (x : Stores). x.cache_cap) e)

module _ (home : Home) (now : ℕ) where
  rule_looked : (a b : Point) → (rule : Rule home now a b) → IsLooked now (rule_hits home now a b rule) a.stores b.stores
  rule_looked a b (takes l t f u j) = found_looked home now (a.job).name (a.job).kind a.stores l b.stores f
  rule_looked a b (asks c t m u j) = looked_none now a.stores b.stores (ap (λ (x : Stores). x.cache) m.stores) (ap (λ (x : Stores). x.cache_cap) m.stores)
  rule_looked a b (follows l r t is few u j e) = same_looked now a.stores b.stores e
  rule_looked a b (restarts l d front back t is whole fresh dead u j e) = same_looked now a.stores b.stores e
  rule_looked a b (skips n s u rest failures t searches passes free v j e) = looked_none now a.stores b.stores (ap (λ (x : Stores). x.cache) e) (ap (λ (x : Stores). x.cache_cap) e)
  rule_looked a b (hears before around rest n l marks t turn f h u j) = found_looked home now n a_type a.stores l b.stores f
  rule_looked a b (descends s rest n c t turn m u j) = looked_none now a.stores b.stores (ap (λ (x : Stores). x.cache) m.stores) (ap (λ (x : Stores). x.cache_cap) m.stores)
  rule_looked a b (gives_up s around rest t up u j e) = same_looked now a.stores b.stores e

  rules_looked : (n : ℕ) (a b : Point) → (rules : Rules home now n a b) → IsLooked now (rules_hits home now n a b rules) a.stores b.stores
  rules_looked zero a b e = same_looked now a.stores b.stores (ap (λ (p : Point). p.stores) e)
  rules_looked (suc n) a b (mid, more, rule) =
      let before = rules_looked n a mid more in
      let here = rule_looked mid b rule in
      record {
        cache = hits_both now (rules_hits home now n a mid more) (rule_hits home now mid b rule) (a.stores).cache (mid.stores).cache (b.stores).cache before.cache here.cache;
        cap = here.cap ∙ before.cap;
      }

-- ---- what is kept

pub record IsTaken (accepted : Option KeptAnswer) (old new : Stores) : Type 0 where
  pub cache : new.cache ≡ took old.cache_cap accepted old.cache
  pub cap : new.cache_cap ≡ old.cache_cap

none_taken : (old new : Stores) → new.cache ≡ old.cache → new.cache_cap ≡ old.cache_cap → IsTaken None old new
none_taken old new e f = record { cache = e; cap = f }

answered_taken : (now : ℕ) (s : Search) (rest : List Search) (l : Link) (j : Job) (stores : Stores) (p : Point) → IsAnswered now s rest l j stores p
    → IsTaken (Some (record { name = s.name; kind = s.kind; hit = hit_from l now })) stores p.stores
answered_taken now s [] l j stores p (task, job, learnt) = record { cache = ap (λ (x : Stores). x.cache) learnt.stores; cap = ap (λ (x : Stores). x.cache_cap) learnt.stores }
answered_taken now s (around ∷ rest) l j stores p (after, marks, task, learnt, told, job) = record { cache = ap (λ (x : Stores). x.cache) learnt.stores; cap = ap (λ (x : Stores). x.cache_cap) learnt.stores }

class_taken : (now : ℕ) (server : Addr) (s : Search) (rest : List Search) (c : class.Class) (j : Job) (stores : Stores) (p : Point) → ByClass now server s rest c j stores p → IsTaken (accepted_by now s c) stores p.stores
class_taken now server s rest (class.Answer l) j stores p h = answered_taken now s rest l j stores p h
class_taken now server s rest (class.Referral at ns glue ttl) j stores p h = none_taken stores p.stores (ap (λ (x : Stores). x.cache) h.stored) (ap (λ (x : Stores). x.cache_cap) h.stored)
class_taken now server s rest class.Truncated j stores p h = none_taken stores p.stores (ap (λ (x : Point). (x.stores).cache) h) (ap (λ (x : Point). (x.stores).cache_cap) h)
class_taken now server s rest (class.Failed f) j stores p h = none_taken stores p.stores (ap (λ (x : Point). (x.stores).cache) h) (ap (λ (x : Point). (x.stores).cache_cap) h)

enters_taken : (now : ℕ) (input : Input) (j : Job) (stores : Stores) (p : Point) → (h : Enters now input j stores p) → IsTaken (enters_accepted now input j stores p h) stores p.stores
enters_taken now Start j stores p h = none_taken stores p.stores (ap (λ (x : Point). (x.stores).cache) h) (ap (λ (x : Point). (x.stores).cache_cap) h)
enters_taken now (Told via server m) j stores p (inl (top, h)) = none_taken stores p.stores (ap (λ (x : Point). (x.stores).cache) h) (ap (λ (x : Point). (x.stores).cache_cap) h)
enters_taken now (Told via server m) j stores p (inr (s, rest, top, h)) =
    let x = class_taken now server s rest (class_of (s.frame).zone s.name s.kind via m) j (with_told now s server m stores) p h in record { cache = x.cache; cap = x.cap }
enters_taken now (TimedOut server) j stores p h = none_taken stores p.stores (ap (λ (x : Point). (x.stores).cache) h) (ap (λ (x : Point). (x.stores).cache_cap) h)
enters_taken now (TcpFailed server) j stores p h = none_taken stores p.stores (ap (λ (x : Point). (x.stores).cache) h) (ap (λ (x : Point). (x.stores).cache_cap) h)

pub call_used : (home : Home) (now : ℕ) (input : Input) (old : Job) (stores : Stores) (next : Next) (new : Job) (after : Stores) → (call : Advances home now input old stores next new after)
    → IsUsed now (call_looks home now input old stores next new after call) stores after
call_used home now input old stores next new after call =
    let kept = enters_taken now input old stores call.first call.enters in
    let looked = rules_looked home now call.count call.first call.last call.rules in
    let left = same_after home now call.last next new after call.leaves in
    let hits : List cache.Question = rules_hits home now call.count call.first call.last call.rules in
    record {
      cache = subst (λ (es : Entries). AreHits now hits es after.cache) kept.cache
          (subst (λ (x : Stores). AreHits now hits ((call.first).stores).cache x.cache) (sym left) looked.cache);
      cap = ap (λ (x : Stores). x.cache_cap) left ∙ (looked.cap ∙ kept.cap);
    }

-- ---- steps

same_used : (s new : State) → new ≡ s → IsUsed s.clock none s.stores new.stores
same_used s new e = record { cache = ap (λ (x : State). (x.stores).cache) e; cap = ap (λ (x : State). (x.stores).cache_cap) e }

used_by : (now : ℕ) (looks : Looks) (old new stores : Stores) → new ≡ stores → IsUsed now looks old stores → IsUsed now looks old new
used_by now looks old new stores e h = subst (IsUsed now looks old) (sym e) h

handled_used : (s : State) (client : ℕ) (way : Via) (asked : Request Plain) (served : Served) (out : List Action) (new : State) → (h : IsHandled s client way asked served out new)
    → IsUsed s.clock (handled_looks s client way asked served out new h) s.stores new.stores
handled_used s client way request.Drop served out new h = same_used s new h.2
handled_used s client way (request.Refuse refusal start echo) served out new h = same_used s new h.2
handled_used s client way (request.Query q) served out new (inl (rd, h)) = same_used s new h.state
handled_used s client way (request.Query q) served out new (inr (rd, h)) =
    used_by s.clock _ s.stores new.stores h.stores (by h.opened) (call_used _ _ _ _ _ _ _ _ h.advances)
  where
    by : IsOpened s (record { client = client; way = way; query = q }) h.next h.job h.stores served out new → new.stores ≡ h.stores
    by (at_once is over comes) = comes_stores s _ _ _ h.next h.job h.stores out new comes
    by (crowded is asking many e) = ap (λ (x : State). x.stores) e.state
    by (admitted is asking few comes) = comes_stores s _ _ _ h.next h.job h.stores out new comes

hears_used : (s : State) (e : Event) (served : Served) (out : List Action) (new : State) → (h : ServesOpen s e served out new) → IsUsed s.clock (hears_looks s e served out new h) s.stores new.stores
hears_used s e served out new h = let v = h.serves in
    used_by s.clock _ s.stores new.stores v.stores (comes_stores s _ _ _ v.next v.job v.stores out new v.comes) (call_used _ _ _ _ _ _ _ _ v.advances)

either_used : (s : State) (e : Event) (served : Served) (out : List Action) (new : State) → (h : IsIgnored s e served out new ⊎ ServesOpen s e served out new) → IsUsed s.clock (either_looks s e served out new h) s.stores new.stores
either_used s e served out new (inl h) = same_used s new h.state
either_used s e served out new (inr h) = hears_used s e served out new h

ticked_used : (s : State) (now : ℕ) (served : Served) (out : List Action) (new : State) → (h : IsTicked s now served out new) → IsUsed s.clock (ticked_looks s now served out new h) s.stores new.stores
ticked_used s now served out new (inl h) = same_used s new h.state
ticked_used s now served out new (inr (first, inl h, followed)) = used_by s.clock none s.stores new.stores s.stores (ap (λ (x : State). x.stores) (h.ends).state) (record { cache = refl; cap = refl })
ticked_used s now served out new (inr (first, inr h, followed)) = hears_used s (Tick now) served first new h

pub turn_used : (s : State) (e : Event) (served : Served) (out : Option (List Action)) (new : State) → out ≢ None → (h : IsTurn s e served out new) → IsUsed s.clock (turn_looks s e served out new h) s.stores new.stores
turn_used s e served None new fed h = absurd (fed refl)
turn_used s (Client now client way bytes) served (Some out) new fed (asked, reads, h) = handled_used s client way asked served out new h
turn_used s (Datagram now sock from bytes) served (Some out) new fed h = either_used s (Datagram now sock from bytes) served out new h
turn_used s (TcpReply now number bytes) served (Some out) new fed h = either_used s (TcpReply now number bytes) served out new h
turn_used s (event.TcpFailed now number) served (Some out) new fed h = either_used s (event.TcpFailed now number) served out new h
turn_used s (Tick now) served (Some out) new fed h = ticked_used s now served out new h

-- ---- how far down a kept link goes

abbrev key_of : KeptAnswer → Key
key_of a = key_for a.name a.kind (a.hit).link

near_step : (now : ℕ) (a : KeptAnswer) (n : ℕ) (looks : Looks) (old new : Stores) → IsUsed now looks old new → ((b : KeptAnswer) → looks.accepted ≡ Some b → (b.name ≢ a.name) × (n < old.cache_cap))
    → IsNear n (key_of a) a.hit old.cache → IsNear (n + (is_kept looks.accepted + length looks.hits)) (key_of a) a.hit new.cache
near_step now a n looks old new used other near = by looks.accepted refl
  where
    by : (o : Option KeptAnswer) → looks.accepted ≡ o → IsNear (n + (is_kept looks.accepted + length looks.hits)) (key_of a) a.hit new.cache
    by None e =
        let hits : AreHits now looks.hits old.cache new.cache = subst (λ (o : Option KeptAnswer). AreHits now looks.hits (took old.cache_cap o old.cache) new.cache) e used.cache in
        let (m, le, w) = near_hits now n (key_of a) a.hit looks.hits old.cache new.cache hits near in
        let count : is_kept looks.accepted ≡ 0 = ap is_kept e in
        (m, omega arith, w)
    by (Some b) e =
        let hits : AreHits now looks.hits (took old.cache_cap (Some b) old.cache) new.cache = subst (λ (o : Option KeptAnswer). AreHits now looks.hits (took old.cache_cap o old.cache) new.cache) e used.cache in
        let kept = near_other old.cache_cap n (key_of a) a.hit b.name b.kind b.hit old.cache (other b e).0 (other b e).1 near in
        let (m, le, w) = near_hits now (suc n) (key_of a) a.hit looks.hits (took old.cache_cap (Some b) old.cache) new.cache hits kept in
        let count : is_kept looks.accepted ≡ 1 = ap is_kept e in
        (m, omega arith, w)

near_first : (now : ℕ) (a : KeptAnswer) (looks : Looks) (old new : Stores) → IsUsed now looks old new → looks.accepted ≡ Some a → (a.hit).ttl ≢ 0
    → IsNear (1 + length looks.hits) (key_of a) a.hit new.cache
near_first now a looks old new used e some =
    let hits : AreHits now looks.hits (took old.cache_cap (Some a) old.cache) new.cache = subst (λ (o : Option KeptAnswer). AreHits now looks.hits (took old.cache_cap o old.cache) new.cache) e used.cache in
    near_hits now 1 (key_of a) a.hit looks.hits (took old.cache_cap (Some a) old.cache) new.cache hits (near_kept old.cache_cap a.name a.kind a.hit old.cache some)

step_used : (old : State) (t : Turn) (new : State) → t.out ≢ None → (step : Step old t.event t.served t.out new)
    → IsUsed (moved_to old t.event).clock (step_looks old t new step) old.stores new.stores
step_used old t new fed step = turn_used (moved_to old t.event) t.event t.served t.out new fed step.turn

pub near_since : (site : Site) (run : List Turn) (s : State) (legal : Run site run s) (a : KeptAnswer) (n : ℕ) → IsKeptSince site a run s legal n → n < (s.stores).cache_cap → (a.hit).ttl ≢ 0
    → IsNear (suc n) (key_of a) a.hit (s.stores).cache
near_since site [] s legal a n h few some = absurd h
near_since site (t ∷ past) s (old, legal, step) a n (fed, inl (is, count)) few some =
    let (m, le, w) = near_first (moved_to old t.event).clock a (step_looks old t s step) old.stores s.stores (step_used old t s fed step) is some in (m, omega arith, w)
near_since site (t ∷ past) s (old, legal, step) a n (fed, inr (other, (k, since, count))) few some = by (near_since site past old legal a k since less some)
  where
    used : IsUsed (moved_to old t.event).clock (step_looks old t s step) old.stores s.stores
    used = step_used old t s fed step

    less : k < (old.stores).cache_cap
    less = let same = used.cap in omega arith

    room : (b : KeptAnswer) → (step_looks old t s step).accepted ≡ Some b → suc k < (old.stores).cache_cap
    room b e = let one : is_kept (step_looks old t s step).accepted ≡ 1 = ap is_kept e in let same = used.cap in omega arith

    by : IsNear (suc k) (key_of a) a.hit (old.stores).cache → IsNear (suc n) (key_of a) a.hit (s.stores).cache
    by near =
        let (m, le, w) = near_step (moved_to old t.event).clock a (suc k) (step_looks old t s step) old.stores s.stores used (λ b e. (other b e, room b e)) near in (m, omega arith, w)

-- ---- no alias is accepted for a question of type CNAME

no_alias : (f q : Name) (t : ℕ) (via : Via) (m : Message) (l : Link) (r : Record) → class_of f q t via m ≡ class.Answer l → received l ≡ Alias r → t ≢ cname_type
no_alias f q t via m (Found rs) r e is = absurd (cc)
no_alias f q t via m (NoData soa) r e is = absurd (cc)
no_alias f q t via m (NxDomain soa) r e is = absurd (cc)
no_alias f q t via m (Alias x) r e is = λ cname. no_alias_class f q via m x (ap (λ (u : ℕ). class_of f q u via m) (sym cname) ∙ e)

-- What was accepted as an alias was asked for by another type.
abbrev IsPlain : Option KeptAnswer → Type 0
IsPlain o = (a : KeptAnswer) → o ≡ Some a → (r : Record) → (a.hit).link ≡ Alias r → a.kind ≢ cname_type

nothing_plain : (o : Option KeptAnswer) → o ≡ None → IsPlain o
nothing_plain o e a f r is = absurd (cc)

enters_plain : (now : ℕ) (input : Input) (j : Job) (stores : Stores) (p : Point) → (h : Enters now input j stores p) → IsPlain (enters_accepted now input j stores p h)
enters_plain now Start j stores p h a f r is = nothing_plain None refl a f r is
enters_plain now (Told via server m) j stores p (inl h) a f r is = nothing_plain None refl a f r is
enters_plain now (Told via server m) j stores p (inr (s, rest, top, h)) a f r is = by (class_of (s.frame).zone s.name s.kind via m) refl a f r is
  where
    by : (c : class.Class) → class_of (s.frame).zone s.name s.kind via m ≡ c → IsPlain (accepted_by now s c)
    by (class.Answer l) e b g x was =
        let same : record { name = s.name; kind = s.kind; hit = hit_from l now } ≡ b = cc in
        subst (λ (y : KeptAnswer). y.kind ≢ cname_type) same (no_alias (s.frame).zone s.name s.kind via m l x e (ap (λ (y : KeptAnswer). (y.hit).link) same ∙ was))
    by (class.Referral at ns glue ttl) e b g x was = nothing_plain None refl b g x was
    by class.Truncated e b g x was = nothing_plain None refl b g x was
    by (class.Failed y) e b g x was = nothing_plain None refl b g x was
enters_plain now (TimedOut server) j stores p h a f r is = nothing_plain None refl a f r is
enters_plain now (TcpFailed server) j stores p h a f r is = nothing_plain None refl a f r is

handled_plain : (s : State) (client : ℕ) (way : Via) (asked : Request Plain) (served : Served) (out : List Action) (new : State) → (h : IsHandled s client way asked served out new)
    → IsPlain (handled_looks s client way asked served out new h).accepted
handled_plain s client way request.Drop served out new h = nothing_plain None refl
handled_plain s client way (request.Refuse refusal start echo) served out new h = nothing_plain None refl
handled_plain s client way (request.Query q) served out new (inl h) = nothing_plain None refl
handled_plain s client way (request.Query q) served out new (inr (rd, h)) = enters_plain s.clock Start (job_for s.clock q) s.stores ((h.advances).first) (h.advances).enters

hears_plain : (s : State) (e : Event) (served : Served) (out : List Action) (new : State) → (h : ServesOpen s e served out new) → IsPlain (hears_looks s e served out new h).accepted
hears_plain s e served out new h = enters_plain s.clock h.input (h.query).job s.stores (((h.serves).advances).first) ((h.serves).advances).enters

either_plain : (s : State) (e : Event) (served : Served) (out : List Action) (new : State) → (h : IsIgnored s e served out new ⊎ ServesOpen s e served out new) → IsPlain (either_looks s e served out new h).accepted
either_plain s e served out new (inl h) = nothing_plain None refl
either_plain s e served out new (inr h) = hears_plain s e served out new h

turn_plain : (s : State) (e : Event) (served : Served) (out : Option (List Action)) (new : State) → (h : IsTurn s e served out new) → IsPlain (turn_looks s e served out new h).accepted
turn_plain s (Client now client way bytes) served None new h = nothing_plain None refl
turn_plain s (Datagram now sock from bytes) served None new h = nothing_plain None refl
turn_plain s (TcpReply now number bytes) served None new h = nothing_plain None refl
turn_plain s (event.TcpFailed now number) served None new h = nothing_plain None refl
turn_plain s (Tick now) served None new h = nothing_plain None refl
turn_plain s (Client now client way bytes) served (Some out) new (asked, reads, h) = handled_plain s client way asked served out new h
turn_plain s (Datagram now sock from bytes) served (Some out) new h = either_plain s (Datagram now sock from bytes) served out new h
turn_plain s (TcpReply now number bytes) served (Some out) new h = either_plain s (TcpReply now number bytes) served out new h
turn_plain s (event.TcpFailed now number) served (Some out) new h = either_plain s (event.TcpFailed now number) served out new h
turn_plain s (Tick now) served (Some out) new (inl h) = nothing_plain None refl
turn_plain s (Tick now) served (Some out) new (inr (first, inl h, followed)) = nothing_plain None refl
turn_plain s (Tick now) served (Some out) new (inr (first, inr h, followed)) = hears_plain s (Tick now) served first new h

plain_since : (site : Site) (run : List Turn) (s : State) (legal : Run site run s) (a : KeptAnswer) (n : ℕ) → IsKeptSince site a run s legal n → (r : Record) → (a.hit).link ≡ Alias r → a.kind ≢ cname_type
plain_since site [] s legal a n h r is = absurd h
plain_since site (t ∷ past) s (old, legal, step) a n (fed, inl (taken, count)) r is = turn_plain (moved_to old t.event) t.event t.served t.out s step.turn a taken r is
plain_since site (t ∷ past) s (old, legal, step) a n (fed, inr (other, (k, since, count))) r is = plain_since site past old legal a k since r is

-- ---- the law

pub kept_is_found : KeptIsFound
kept_is_found site run s legal a n now since few some lives alone =
    let near = near_since site run s legal a n since few some in
    lone_is_lent a.name a.kind now (s.stores).cache (above_by (looked (site.home).zones a.name a.kind) a.name) a.hit
    (near_found (suc n) (key_of a) a.hit (s.stores).cache near) lives
    (λ k named other h there. alone k h (looked_in k (s.stores).cache h there) named other)
    (plain_since site run s legal a n since)
