-- Which link a step caches and which of its look-ups find something in the cache, by its rules; and that a cached link
-- is found while it lives.
use Rattle.std.specs.Prelude.{◌≡◌, ◌≢◌, ℕ, zero, suc, ◌+◌, ◌<◌, ◌⊎◌, true, false, Option, Some, None, List, [], ◌∷◌, ◌++◌, length, Contains}
use Rattle.std.proofs.Common.{inl, inr}
use Rattle.dname.specs.Labels.{Name}
use Rattle.message_grammar.specs.Messages.{Message}
use Rattle.zone.specs.Zones.{a_type}
use Rattle.zone.specs.Links.{Link}
use Rattle.wire.specs.declared.via.Via.{Via}
use Rattle.front.specs.declared.queries.Request.{Request}
use Rattle.front.specs.declared.queries.Request.TheVariants as request
use Rattle.classify.specs.Classes as class
use Rattle.classify.specs.Classes.{class_of}
use Rattle.cache.specs.Keys.{Key, key_for}
use Rattle.cache.specs.Cached.{Hit, is_live, lent, hit_of}
use Rattle.cache.specs.Cached as cache
use Rattle.resolution.specs.Jobs.{Home, Stores, Search, Job, Input, Start, Told, TimedOut, TcpFailed, Next, Point, hit_from}
use Rattle.resolution.specs.Rules.{asked_of, Rule, takes, asks, follows, restarts, skips, hears, descends, gives_up, Rules, Enters, Advances}
use Rattle.runs.specs.States.{Event, Client, Datagram, TcpReply, Tick, Action, Served, OpenQuery, Turn, Plain, via_of, Open, Site, State, moved}
use Rattle.runs.specs.States as event
use Rattle.runs.specs.Messages.{Brings}
use Rattle.runs.specs.Steps.{IsIgnored, ServesOpen, IsHandled, IsTicked, IsTurn, Step}
use Rattle.runs.specs.Runs.{Run}
use Rattle.laws.specs.Uses.{KeptAnswer, is_kept}

-- The link that a step caches, if it does, and the look-ups that find something, in order.
pub record Looks : Type 0 where
  pub accepted : Option KeptAnswer
  pub hits : List cache.Question

abbrev pub none : Looks
none = record { accepted = None; hits = [] }

-- ---- of one call

-- The question of a look-up that the cache answers; none where a local zone does.
abbrev pub hits_by : {A B : Type 0} → Home → Name → ℕ → A ⊎ B → List cache.Question
hits_by home n t (inl zones) = []
hits_by home n t (inr kept) = asked_of home n t ∷ []

abbrev pub rule_hits : (home : Home) (now : ℕ) (a b : Point) → Rule home now a b → List cache.Question
rule_hits home now a b (takes l t f u j) = hits_by home (a.job).name (a.job).kind f.is
rule_hits home now a b (asks c t m u j) = []
rule_hits home now a b (follows l r t is few u j e) = []
rule_hits home now a b (restarts l d front back t is whole fresh dead u j e) = []
rule_hits home now a b (skips n s u rest failures t searches passes free v j e) = []
rule_hits home now a b (hears before around rest n l marks t turn f h u j) = hits_by home n a_type f.is
rule_hits home now a b (descends s rest n c t turn m u j) = []
rule_hits home now a b (gives_up s around rest t up u j e) = []

abbrev pub rules_hits : (home : Home) (now count : ℕ) (a b : Point) → Rules home now count a b → List cache.Question
rules_hits home now zero a b same = []
rules_hits home now (suc n) a b (mid, before, rule) = rules_hits home now n a mid before ++ rule_hits home now mid b rule

-- The answer is cached for the search that it is for.
abbrev pub accepted_by : ℕ → Search → class.Class → Option KeptAnswer
accepted_by now s (class.Answer l) = Some (record { name = s.name; kind = s.kind; hit = hit_from l now })
accepted_by now s (class.Referral at ns glue ttl) = None
accepted_by now s class.Truncated = None
accepted_by now s (class.Failed f) = None

abbrev pub enters_accepted : (now : ℕ) (input : Input) (j : Job) (stores : Stores) (p : Point) → Enters now input j stores p → Option KeptAnswer
enters_accepted now Start j stores p enters = None
enters_accepted now (Told via server m) j stores p (inl nothing) = None
enters_accepted now (Told via server m) j stores p (inr (s, rest, top, is)) = accepted_by now s (class_of (s.frame).zone s.name s.kind via m)
enters_accepted now (TimedOut server) j stores p enters = None
enters_accepted now (TcpFailed server) j stores p enters = None

abbrev pub call_looks : (home : Home) (now : ℕ) (input : Input) (old : Job) (stores : Stores) (next : Next) (new : Job) (after : Stores) → Advances home now input old stores next new after → Looks
call_looks home now input old stores next new after call = record {
  accepted = enters_accepted now input old stores call.first call.enters;
  hits = rules_hits home now call.count call.first call.last call.rules;
}

-- ---- of a step

abbrev pub handled_looks : (s : State) (client : ℕ) (way : Via) (asked : Request Plain) (served : Served) (out : List Action) (new : State) → IsHandled s client way asked served out new → Looks
handled_looks s client way request.Drop served out new h = none
handled_looks s client way (request.Refuse refusal start echo) served out new h = none
handled_looks s client way (request.Query q) served out new (inl h) = none
handled_looks s client way (request.Query q) served out new (inr h) = call_looks _ _ _ _ _ _ _ _ (h.1).advances

abbrev pub hears_looks : (s : State) (event : Event) (served : Served) (out : List Action) (new : State) → ServesOpen s event served out new → Looks
hears_looks s event served out new h = call_looks _ _ _ _ _ _ _ _ (h.serves).advances

abbrev pub either_looks : (s : State) (event : Event) (served : Served) (out : List Action) (new : State) → IsIgnored s event served out new ⊎ ServesOpen s event served out new → Looks
either_looks s event served out new (inl h) = none
either_looks s event served out new (inr h) = hears_looks s event served out new h

abbrev pub ticked_looks : (s : State) (now : ℕ) (served : Served) (out : List Action) (new : State) → IsTicked s now served out new → Looks
ticked_looks s now served out new (inl h) = none
ticked_looks s now served out new (inr (first, inl h, followed)) = none
ticked_looks s now served out new (inr (first, inr h, followed)) = hears_looks s (Tick now) served first new h

abbrev pub turn_looks : (s : State) (e : Event) (served : Served) (out : Option (List Action)) (new : State) → IsTurn s e served out new → Looks
turn_looks s (Client now client way bytes) served None new h = none
turn_looks s (Datagram now sock from bytes) served None new h = none
turn_looks s (TcpReply now number bytes) served None new h = none
turn_looks s (event.TcpFailed now number) served None new h = none
turn_looks s (Tick now) served None new h = none
turn_looks s (Client now client way bytes) served (Some out) new (asked, reads, h) = handled_looks s client way asked served out new h
turn_looks s (Datagram now sock from bytes) served (Some out) new h = either_looks s (Datagram now sock from bytes) served out new h
turn_looks s (TcpReply now number bytes) served (Some out) new h = either_looks s (TcpReply now number bytes) served out new h
turn_looks s (event.TcpFailed now number) served (Some out) new h = either_looks s (event.TcpFailed now number) served out new h
turn_looks s (Tick now) served (Some out) new h = ticked_looks s now served out new h

abbrev pub step_looks : (old : State) (t : Turn) (new : State) → Step old t.event t.served t.out new → Looks
step_looks old t new step = turn_looks (moved old t.event) t.event t.served t.out new step.turn

-- ---- the accepted answer is the cached one

-- The step serves this query, whose innermost search is `sought`, and accepts for it a message with this link as its
-- answer.
pub record AcceptsLink (port : ℕ) (old : State) (t : Turn) (q : Open) (sought : Search) (others : List Search) (l : Link) : Type 0 where
  pub there : Contains old.queries q
  pub served : t.served ≡ OpenQuery q.number
  pub searches : (q.job).searches ≡ sought ∷ others
  pub message : Message
  pub brings : Brings port q.ask t.event message
  pub is_class : class_of (sought.frame).zone sought.name sought.kind (via_of (q.ask).path) message ≡ class.Answer l

abbrev pub kept_of : Search → Link → ℕ → KeptAnswer
kept_of sought l now = record { name = sought.name; kind = sought.kind; hit = hit_from l now }

-- A step that does not run out of memory caches the answer that it accepts, and no other.
abbrev pub CachesAnswer : (site : Site) (old : State) (t : Turn) (new : State) → Step old t.event t.served t.out new → Type 0
CachesAnswer site old t new step =
    t.out ≢ None
    → ((q : Open) (sought : Search) (others : List Search) (l : Link) → AcceptsLink site.port old t q sought others l → (step_looks old t new step).accepted ≡ Some (kept_of sought l (moved old t.event).clock))
    × ((a : KeptAnswer) → (step_looks old t new step).accepted ≡ Some a
    → (q : Open) × (sought : Search) × (others : List Search) × (l : Link) × AcceptsLink site.port old t q sought others l × (a ≡ kept_of sought l (moved old t.event).clock))

abbrev pub AcceptedIsLooked : Type 0
AcceptedIsLooked = (site : Site) (past : List Turn) (old : State) (t : Turn) (new : State) → Run site past old → (step : Step old t.event t.served t.out new) → CachesAnswer site old t new step

-- ---- over a run

-- This link was accepted in a step of the run. Since then no link of its name was, memory ran out in no step, and n
-- links were cached and found in the cache.
abbrev pub IsKeptSince : (site : Site) (a : KeptAnswer) (run : List Turn) (s : State) → Run site run s → ℕ → Type 0
IsKeptSince site a [] s new n = ⊥
IsKeptSince site a (t ∷ past) s (old, legal, step) n =
    (t.out ≢ None)
    × ((((step_looks old t s step).accepted ≡ Some a) × (n ≡ length (step_looks old t s step).hits))
    ⊎ (((b : KeptAnswer) → (step_looks old t s step).accepted ≡ Some b → b.name ≢ a.name)
    × ((m : ℕ) × IsKeptSince site a past old legal m × (n ≡ m + (is_kept (step_looks old t s step).accepted + length (step_looks old t s step).hits)))))

-- No other entry of its name lives.
abbrev pub IsOnlyLiveEntry : ℕ → KeptAnswer → List (Key × Hit) → Type 0
IsOnlyLiveEntry now a es = (k : Key) (h : Hit) → Contains es (k, h) → k.name ≡ a.name → k ≢ key_for a.name a.kind (a.hit).link → is_live now h ≡ false

-- A link that was accepted with a TTL above 0 is the cache's answer to its question while it lives. That holds where
-- since then no link of its name was accepted, no other entry of its name lives, fewer links were cached and found than
-- the cache has room for, and memory ran out in no step.
abbrev pub FindsKept : (site : Site) (run : List Turn) (s : State) → Run site run s → Type 0
FindsKept site run s legal =
    (a : KeptAnswer) (n now : ℕ)
    → IsKeptSince site a run s legal n → n < (s.stores).cache_cap → (a.hit).ttl ≢ 0 → is_live now a.hit ≡ true → IsOnlyLiveEntry now a (s.stores).cache
    → hit_of (lent (asked_of site.home a.name a.kind) now (s.stores).cache) ≡ Some a.hit

abbrev pub KeptIsFound : Type 0
KeptIsFound = (site : Site) (run : List Turn) (s : State) (legal : Run site run s) → FindsKept site run s legal
