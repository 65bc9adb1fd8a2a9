-- The rules by which a query is resolved (RFC 1034, section 5.3.3), each as one small step over exact values: how an
-- input is used (`Enters`), the eight rules (`Rule`), and the result where none of them applies (`Leaves`).
use Rattle.std.specs.Prelude.{◌≡◌, ◌≢◌, ℕ, zero, suc, ◌+◌, ◌<◌, ◌≤◌, ◌⊎◌, Bool, true, false, Option, Some, None, List, [], ◌∷◌, ◌++◌, length, Contains}
use Rattle.limits.specs.Limits.{max_aliases, max_asks, max_look_ups}
use Rattle.dname.specs.Labels.{Name, root, IsName}
use Rattle.rdata.specs.Records.{Record}
use Rattle.rdata.specs.declared.addr.Addr.{Addr}
use Rattle.zone.specs.Zones.{IsBeneath, a_type}
use Rattle.zone.specs.Links as said
use Rattle.zone.specs.Links.{Link}
use Rattle.zone.specs.Look as local
use Rattle.authority.specs.Catalogs.{IsLooked, looked}
use Rattle.causes.specs.declared.cause.Cause.{Cause}
use Rattle.causes.specs.declared.cause.Cause.TheVariants as cause
use Rattle.classify.specs.Classes as class
use Rattle.classify.specs.Classes.{class_of}
use Rattle.front.specs.Chains.{alias_target}
use Rattle.lru_laws.specs.Orders.{used, KeepsOnly, LosesOnly, MayGo}
use Rattle.retry.specs.Penalties.{answered, timed_out}
use Rattle.retry.specs.Plans.{upcoming}
use Rattle.referral.specs.Cuts.{Cut, Known, IsBest, after_best}
use Rattle.referral.specs.Cuts as referral
use Rattle.cache.specs.Keys.{Key}
use Rattle.cache.specs.Cached.{Hit, Question, above_to, lent, hit_of, moved, IsHeld}
use Rattle.cache.specs.Cached as cache
use Rattle.cache.specs.Failures.{FailedAsk, same_failed}
use Rattle.frames.specs.Frames.{Failed, marked, opened, next_name, after_name, after_add, fresh_addresses}
use Rattle.resolution.specs.Jobs.{Home, Stores, level_of, with_answer, with_timeout, with_told, Taken, local_link, kept_link, received_link, IsDead, AreFresh, IsEnding, IsCutOf, IsRootCut, AreAddressesOf, Search, search_at, with_frame, given, ask_of, fails_now, is_server_failure, Job, MayLookUp, Input, Start, Told, TimedOut, TcpFailed, Next, AskUdp, AskTcp, Done, Fail, MaySend, asked, asked_again, Seek, Take, Go, Again, Point, point, hit_from, cut_from}

-- ---- look-ups without a query to a server

-- The local zones' result for a question. Where it is a cut, or nothing, the question is remote.
abbrev pub Says : Home → Name → ℕ → local.Local → Type 0
Says home n t what = (looked home.zones n t ≡ what) × IsLooked home.zones n t what

abbrev pub IsRemote : Home → Name → ℕ → Type 0
IsRemote home n t = ((c : Name) × (ns : List Record) × (glue : List Record) × Says home n t (local.Cut c ns glue)) ⊎ Says home n t local.NotHere

-- The names above a name whose NXDOMAIN the cache may answer with: up to the cut that the local zones name, or to the
-- root where none is over the name (RFC 8020, section 2).
abbrev pub above_by : local.Local → Name → List Name
above_by (local.Linked l) n = []
above_by (local.Cut at ns glue) n = above_to at n
above_by local.NotHere n = above_to root n

abbrev pub asked_by : local.Local → Name → ℕ → Question
asked_by what n t = record { name = n; kind = t; above = above_by what n }

abbrev pub asked_of : Home → Name → ℕ → Question
asked_of home n t = asked_by (looked home.zones n t) n t

-- A remote question that the cache answers.
pub record Hits (home : Home) (now : ℕ) (n : Name) (t : ℕ) (old : Stores) (l : Taken) (hit : Hit) (new : Stores) : Type 0 where
  pub remote : IsRemote home n t
  pub found : hit_of (lent (asked_of home n t) now old.cache) ≡ Some hit
  pub held : IsHeld (asked_of home n t) now old.cache hit
  pub link : l ≡ kept_link n hit
  pub stores : new ≡ record old { cache = moved (lent (asked_of home n t) now old.cache) old.cache }

-- The local zones come first, then the cache.
pub record Finds (home : Home) (now : ℕ) (n : Name) (t : ℕ) (old : Stores) (l : Taken) (new : Stores) : Type 0 where
  pub is :
      ((k : Link) × Says home n t (local.Linked k) × (l ≡ local_link n k) × (new ≡ old))
      ⊎ ((hit : Hit) × Hits home now n t old l hit new)

-- The cut where servers are sought first: the one that the local zones name, or a deeper one that is cached; where they
-- name none, the deepest cached one, or the root's.
abbrev pub Begins : Home → Name → local.Local → Option Cut → Cut → Type 0
Begins home n (local.Linked l) best c = ⊥
Begins home n (local.Cut at ns glue) None c = IsCutOf at ns glue c
Begins home n (local.Cut at ns glue) (Some k) c = (IsBeneath k.owner at × (c ≡ k)) ⊎ ((IsBeneath k.owner at → ⊥) × IsCutOf at ns glue c)
Begins home n local.NotHere None c = IsRootCut home c
Begins home n local.NotHere (Some k) c = c ≡ k

-- A question that neither local zones nor the cache answer, and the cut where its servers are sought.
pub record Misses (home : Home) (now : ℕ) (n : Name) (t : ℕ) (old : Stores) (c : Cut) (new : Stores) : Type 0 where
  pub name : IsName n
  pub what : local.Local
  pub says : Says home n t what
  pub miss : hit_of (lent (asked_of home n t) now old.cache) ≡ None
  pub best : Option Cut
  pub is_best : IsBest n now old.delegations best
  pub begins : Begins home n what best c
  pub stores : new ≡ record old { delegations = after_best n now old.delegations }

-- ---- a server's name

-- The use of the result for a server's name. Of a set, the addresses that are not known yet are asked next; any other
-- link says that the name has no address, for the rest of this query. `before` is the search that wanted them.
pub record UsesServerAddress (stores : Stores) (n : Name) (l : Link) (before : Search) (failed : Failed) (after : Search) (marks : Failed) : Type 0 where
  pub is :
      ((set : List Record) × (found : List Addr) × (l ≡ said.Found set) × AreAddressesOf set found
      × (after ≡ with_frame before (after_add (level_of stores) before.frame (fresh_addresses before.frame found))) × (marks ≡ failed))
      ⊎ (((set : List Record) → l ≢ said.Found set) × (after ≡ before) × (marks ≡ marked failed n 0))

-- The search after the turn of a server's name.
abbrev pub turned : Failed → Search → Search
turned failed s = with_frame s (after_name failed s.frame)

-- All known addresses of this search's servers were asked, and this server's name has its turn: fewer than 64 had.
pub record IsTurnOf (j : Job) (s : Search) (rest : List Search) (n : Name) : Type 0 where
  pub searches : j.searches ≡ s ∷ rest
  pub asked_all : upcoming (s.frame).plan ≡ None
  pub turn : next_name j.failed s.frame ≡ Some n
  pub few : MayLookUp j

-- This server's name would have its turn, but 64 had.
pub record IsLookedOut (j : Job) (s : Search) (rest : List Search) (n : Name) : Type 0 where
  pub searches : j.searches ≡ s ∷ rest
  pub asked_all : upcoming (s.frame).plan ≡ None
  pub turn : next_name j.failed s.frame ≡ Some n
  pub many : max_look_ups ≤ j.look_ups

-- All addresses were asked, and no name is left.
pub record IsUsedUp (j : Job) (s : Search) (rest : List Search) : Type 0 where
  pub searches : j.searches ≡ s ∷ rest
  pub asked_all : upcoming (s.frame).plan ≡ None
  pub none_left : next_name j.failed s.frame ≡ None

-- ---- servers that are passed over

-- So many addresses that come next failed lately to answer what the search seeks: each is passed over, and its failure
-- becomes the most recently used.
abbrev pub PassesOver : ℕ → ℕ → Search → List (FailedAsk × ℕ) → Search → List (FailedAsk × ℕ) → Type 0
PassesOver now zero s fs t gs = (t ≡ s) × (gs ≡ fs)
PassesOver now (suc n) s fs t gs =
    (mid : Search) × (held : List (FailedAsk × ℕ)) × (server : Addr) × PassesOver now n s fs mid held
    × (upcoming (mid.frame).plan ≡ Some server) × (fails_now now held mid server ≡ true) × (t ≡ given mid) × (gs ≡ used same_failed (ask_of mid server) held)

-- The address that comes next did not fail lately.
abbrev pub IsFree : ℕ → Search → List (FailedAsk × ℕ) → Type 0
IsFree now s fs = (server : Addr) → upcoming (s.frame).plan ≡ Some server → fails_now now fs s server ≡ false

-- ---- the rules

pub data Rule (home : Home) (now : ℕ) (a b : Point) : Type 0 where
  -- The link that is found for the name is used.
  takes : (l : Taken) → a.task ≡ Seek → Finds home now (a.job).name (a.job).kind a.stores l b.stores → b.task ≡ Take l → b.job ≡ a.job → Rule home now a b
  -- Where none is found, servers are asked for it.
  asks : (c : Cut) → a.task ≡ Seek → Misses home now (a.job).name (a.job).kind a.stores c b.stores → b.task ≡ Go
      → b.job ≡ record a.job { searches = search_at (a.job).name (a.job).kind (opened (level_of b.stores) 0 c) ∷ [] } → Rule home now a b
  -- An alias joins the chain, and its target is sought: up to eight of them.
  follows : (l : Taken) (r : Record) → a.task ≡ Take l → l.link ≡ said.Alias r → length (a.job).chain < max_aliases → b.task ≡ Seek
      → b.job ≡ record a.job { chain = (a.job).chain ++ l ∷ []; name = alias_target r } → b.stores ≡ a.stores → Rule home now a b
  -- The chain has its end, and a link of it from the cache has expired meanwhile: its name is sought again.
  restarts : (l d : Taken) (front back : List Taken) → a.task ≡ Take l → IsEnding l.link → (a.job).chain ++ l ∷ [] ≡ front ++ d ∷ back → AreFresh now front → IsDead now d
      → b.task ≡ Seek → b.job ≡ record a.job { chain = front; name = d.name; searches = [] } → b.stores ≡ a.stores → Rule home now a b
  -- Addresses that come next failed lately to answer this very question: they are passed over, up to one that did
  -- not.
  skips : (n : ℕ) (s t : Search) (rest : List Search) (failures : List (FailedAsk × ℕ)) → a.task ≡ Go → (a.job).searches ≡ s ∷ rest
      → PassesOver now (suc n) s (a.stores).failures t failures → IsFree now t failures → b.task ≡ Go
      → b.job ≡ record a.job { searches = t ∷ rest; skipped = true } → b.stores ≡ record a.stores { failures = failures } → Rule home now a b
  -- A server's name for which a link is found: it is used.
  hears : (before after : Search) (rest : List Search) (n : Name) (l : Taken) (marks : Failed) → a.task ≡ Go → IsTurnOf a.job before rest n
      → Finds home now n a_type a.stores l b.stores → UsesServerAddress b.stores n l.link (turned (a.job).failed before) (a.job).failed after marks → b.task ≡ Go
      → b.job ≡ record a.job { searches = after ∷ rest; failed = marks; look_ups = (a.job).look_ups + 1 } → Rule home now a b
  -- A server's name for which none is found: its address is sought, one nesting deeper.
  descends : (s : Search) (rest : List Search) (n : Name) (c : Cut) → a.task ≡ Go → IsTurnOf a.job s rest n → Misses home now n a_type a.stores c b.stores → b.task ≡ Go
      → b.job ≡ record a.job { searches = search_at n a_type (opened (level_of b.stores) ((s.frame).nesting + 1) c) ∷ turned (a.job).failed s ∷ rest; look_ups = (a.job).look_ups + 1 } → Rule home now a b
  -- The search for a server's address has no server left: back to the search around it.
  gives_up : (s around : Search) (rest : List Search) → a.task ≡ Go → IsUsedUp a.job s (around ∷ rest) → b.task ≡ Go
      → b.job ≡ record a.job { searches = around ∷ rest; failed = marked (a.job).failed s.name (s.frame).nesting } → b.stores ≡ a.stores → Rule home now a b

-- This many rules, one after another.
abbrev pub Rules : Home → ℕ → ℕ → Point → Point → Type 0
Rules home now zero a b = b ≡ a
Rules home now (suc n) a b = (mid : Point) × Rules home now n a mid × Rule home now mid b

-- ---- inputs

-- A link that was accepted for the innermost search is cached. One of the query's own name is the next task; one of a
-- server's name is used by the search around.
pub record KeepsAnswer (now : ℕ) (s : Search) (l : Link) (old new : Stores) : Type 0 where
  pub stores : new ≡ record old { cache = cache.after_keep old.cache_cap s.name s.kind (hit_from l now) old.cache }

abbrev pub IsAnswered : ℕ → Search → List Search → Link → Job → Stores → Point → Type 0
IsAnswered now s [] l j stores p =
    (p.task ≡ Take (received_link s.name l now)) × (p.job ≡ record j { searches = [] }) × KeepsAnswer now s l stores p.stores
IsAnswered now s (around ∷ rest) l j stores p =
    (after : Search) × (marks : Failed) × (p.task ≡ Go) × KeepsAnswer now s l stores p.stores
    × UsesServerAddress p.stores s.name (received_link s.name l now).link around j.failed after marks
    × (p.job ≡ record j { searches = after ∷ rest; failed = marks })

-- A referral is cached, and the search begins anew at its cut.
pub record IsReferred (now : ℕ) (s : Search) (rest : List Search) (at : Name) (ns glue : List Record) (ttl : ℕ) (j : Job) (stores : Stores) (p : Point) : Type 0 where
  pub cut : Cut
  pub is_cut : IsCutOf at ns glue cut
  pub task : p.task ≡ Go
  pub job : p.job ≡ record j { searches = with_frame s (opened (level_of stores) (s.frame).nesting cut) ∷ rest }
  pub stored : p.stores ≡ record stores { delegations = referral.after_keep stores.delegations_cap (cut_from cut ttl now) stores.delegations }

-- The use of an accepted message, by its class under the zone whose server was asked.
abbrev pub ByClass : ℕ → Addr → Search → List Search → class.Class → Job → Stores → Point → Type 0
ByClass now server s rest (class.Answer l) j stores p = IsAnswered now s rest l j stores p
ByClass now server s rest (class.Referral at ns glue ttl) j stores p = IsReferred now s rest at ns glue ttl j stores p
ByClass now server s rest class.Truncated j stores p = p ≡ point (Again server) j stores
ByClass now server s rest (class.Failed f) j stores p = p ≡ point Go j stores

-- The use of an input. The penalty of a server that answered is halved, that of one that did not is raised; that it
-- failed to answer is cached. A job without a search has nothing that an answer could be for.
abbrev pub Enters : ℕ → Input → Job → Stores → Point → Type 0
Enters now Start j stores p = p ≡ point Seek j stores
Enters now (Told via server m) j stores p =
    ((j.searches ≡ []) × (p ≡ point Go j (with_answer stores server)))
    ⊎ ((s : Search) × (rest : List Search) × (j.searches ≡ s ∷ rest)
    × ByClass now server s rest (class_of (s.frame).zone s.name s.kind via m) j (with_told now s server m stores) p)
Enters now (TimedOut server) j stores p = p ≡ point Go j (with_timeout stores server)
Enters now (TcpFailed server) j stores p = p ≡ point Go j (with_timeout stores server)

-- ---- results

-- The next server of the innermost search's plan, one of the addresses that are known, which did not fail lately.
pub record IsDue (now : ℕ) (p : Point) (server : Addr) (s : Search) (rest : List Search) : Type 0 where
  pub task : p.task ≡ Go
  pub searches : (p.job).searches ≡ s ∷ rest
  pub next : upcoming (s.frame).plan ≡ Some server
  pub known : Contains (s.frame).addresses server
  pub free : fails_now now (p.stores).failures s server ≡ false

-- The server whose reply was truncated is asked again, over TCP.
pub record IsDueAgain (p : Point) (server : Addr) (s : Search) (rest : List Search) : Type 0 where
  pub task : p.task ≡ Again server
  pub searches : (p.job).searches ≡ s ∷ rest

-- Nothing more is sent from the deadline on, or after 40 asks.
abbrev pub MayNotSend : ℕ → Job → Cause → Type 0
MayNotSend now j c = ((c ≡ cause.DeadlineOver) × (j.deadline ≤ now)) ⊎ ((c ≡ cause.TooManyAsks) × (now < j.deadline) × (max_asks ≤ j.asks))

-- Why no server is left: some were passed over since they failed lately, or none was.
abbrev pub spent_cause : Bool → Cause
spent_cause true = cause.KnownFailure
spent_cause false = cause.NoServerLeft

pub data Leaves (home : Home) (now : ℕ) (p : Point) (next : Next) (job : Job) (stores : Stores) : Type 0 where
  -- A server is asked.
  sends : (server : Addr) (s : Search) (rest : List Search) → IsDue now p server s rest → MaySend now p.job → next ≡ AskUdp server s.name s.kind → job ≡ asked p.job s rest
      → stores ≡ p.stores → Leaves home now p next job stores
  sends_again : (server : Addr) (s : Search) (rest : List Search) → IsDueAgain p server s rest → MaySend now p.job → next ≡ AskTcp server s.name s.kind
      → job ≡ asked_again p.job → stores ≡ p.stores → Leaves home now p next job stores
  -- A server would have to be asked, and may not.
  refuses : (c : Cause) (server : Addr) (s : Search) (rest : List Search) → IsDue now p server s rest ⊎ IsDueAgain p server s rest → MayNotSend now p.job c → next ≡ Fail c
      → stores ≡ p.stores → Leaves home now p next job stores
  -- No server is left for the query's own name.
  spent : (s : Search) → p.task ≡ Go → IsUsedUp p.job s [] → next ≡ Fail (spent_cause (p.job).skipped) → stores ≡ p.stores → Leaves home now p next job stores
  -- A server's name would have to be looked up, and 64 were.
  looked_out : (s : Search) (rest : List Search) (n : Name) → p.task ≡ Go → IsLookedOut p.job s rest n → next ≡ Fail cause.TooManyLookUps → stores ≡ p.stores → Leaves home now p next job stores
  -- Servers are to be asked, and there is no search: this does not come about.
  nowhere : (p.task ≡ Go) ⊎ ((server : Addr) × (p.task ≡ Again server)) → (p.job).searches ≡ [] → next ≡ Fail cause.NoServerLeft → stores ≡ p.stores → Leaves home now p next job stores
  -- A ninth alias.
  too_long : (l : Taken) (r : Record) → p.task ≡ Take l → l.link ≡ said.Alias r → max_aliases ≤ length (p.job).chain → next ≡ Fail cause.ChainTooLong → stores ≡ p.stores
      → Leaves home now p next job stores
  -- The whole chain, of which nothing has expired.
  done : (l : Taken) → p.task ≡ Take l → IsEnding l.link → AreFresh now ((p.job).chain ++ l ∷ []) → next ≡ Done (p.job).chain l → stores ≡ p.stores
      → Leaves home now p next job stores

-- ---- one call

-- The effect of one input on a job and on the stores, and the result.
pub record Advances (home : Home) (now : ℕ) (input : Input) (old : Job) (stores : Stores) (next : Next) (new : Job) (after : Stores) : Type 0 where
  pub first : Point
  pub count : ℕ
  pub last : Point
  pub enters : Enters now input old stores first
  pub rules : Rules home now count first last
  pub leaves : Leaves home now last next new after

-- The class of an accepted message, and the search that it is for.
abbrev pub IsClass : Job → Input → Search → class.Class → Type 0
IsClass j Start s c = ⊥
IsClass j (Told via server m) s c = ((rest : List Search) × (j.searches ≡ s ∷ rest)) × (class_of (s.frame).zone s.name s.kind via m ≡ c)
IsClass j (TimedOut server) s c = ⊥
IsClass j (TcpFailed server) s c = ⊥

-- An entry that such a message may add to the stores.
abbrev pub IsTakenEntry : Job → Input → ℕ → Key × Hit → Type 0
IsTakenEntry j input now e = (s : Search) × (l : Link) × IsClass j input s (class.Answer l) × cache.IsKept s.name s.kind (hit_from l now) e

abbrev pub IsTakenCut : Job → Input → ℕ → Name × Known → Type 0
IsTakenCut j input now e =
    (s : Search) × (at : Name) × (ns : List Record) × (glue : List Record) × (ttl : ℕ) × (c : Cut)
    × IsClass j input s (class.Referral at ns glue ttl) × IsCutOf at ns glue c × referral.IsKept (cut_from c ttl now) e

-- The message says that the server failed to answer what the innermost search seeks.
abbrev pub IsFailureOf : Job → Input → Search → Addr → Type 0
IsFailureOf j Start s a = ⊥
IsFailureOf j (Told via server m) s a = ((rest : List Search) × (j.searches ≡ s ∷ rest)) × (a ≡ server) × (is_server_failure m ≡ true)
IsFailureOf j (TimedOut server) s a = ⊥
IsFailureOf j (TcpFailed server) s a = ⊥

abbrev pub IsTakenFailure : Job → Input → ℕ → FailedAsk × ℕ → Type 0
IsTakenFailure j input now e = (s : Search) × (a : Addr) × IsFailureOf j input s a × (e ≡ (ask_of s a, now))

-- An entry that may be gone from the stores for such a message: one that one `keep` of the accepted link or cut pushes
-- out of them as they stood before the call (`IsGone`).
abbrev pub IsLostEntry : Job → Input → ℕ → Stores → Key × Hit → Type 0
IsLostEntry j input now stores e = (s : Search) × (l : Link) × IsClass j input s (class.Answer l) × cache.IsGone stores.cache_cap s.name s.kind (hit_from l now) stores.cache e

abbrev pub IsLostCut : Job → Input → ℕ → Stores → Name × Known → Type 0
IsLostCut j input now stores e =
    (s : Search) × (at : Name) × (ns : List Record) × (glue : List Record) × (ttl : ℕ) × (c : Cut)
    × IsClass j input s (class.Referral at ns glue ttl) × IsCutOf at ns glue c × referral.IsGone stores.delegations_cap (cut_from c ttl now) stores.delegations e

abbrev pub IsLostFailure : Job → Input → Stores → FailedAsk × ℕ → Type 0
IsLostFailure j input stores e = (s : Search) × (a : Addr) × IsFailureOf j input s a × MayGo same_failed stores.failures_cap (ask_of s a) stores.failures e

-- The penalties after the input: that of a server that answered is halved, that of one that did not is raised.
abbrev pub WritesPenalty : Input → Stores → List (Addr × ℕ) → Type 0
WritesPenalty Start stores penalties = ⊥
WritesPenalty (Told via server m) stores penalties = penalties ≡ answered server stores.penalties
WritesPenalty (TimedOut server) stores penalties = penalties ≡ timed_out server stores.penalties_cap stores.penalties
WritesPenalty (TcpFailed server) stores penalties = penalties ≡ timed_out server stores.penalties_cap stores.penalties

-- What a call brings into the stores and takes from them, whole or where memory ran out on the way. What was accepted
-- may be cached or not, and what one `keep` of it pushes out may be gone; every other entry that was there stays, maybe
-- in another order, and nothing else is new. A penalty is as it was, or as this input writes it.
pub record BringsOnly (input : Input) (now : ℕ) (old : Job) (stores after : Stores) : Type 0 where
  pub cache : KeepsOnly stores.cache (IsTakenEntry old input now) after.cache
  pub cache_lost : LosesOnly stores.cache (IsLostEntry old input now stores) after.cache
  pub delegations : KeepsOnly stores.delegations (IsTakenCut old input now) after.delegations
  pub delegations_lost : LosesOnly stores.delegations (IsLostCut old input now stores) after.delegations
  pub penalties : (after.penalties ≡ stores.penalties) ⊎ WritesPenalty input stores after.penalties
  pub failures : KeepsOnly stores.failures (IsTakenFailure old input now) after.failures
  pub failures_lost : LosesOnly stores.failures (IsLostFailure old input stores) after.failures
  pub cache_cap : after.cache_cap ≡ stores.cache_cap
  pub delegations_cap : after.delegations_cap ≡ stores.delegations_cap
  pub penalties_cap : after.penalties_cap ≡ stores.penalties_cap
  pub failures_cap : after.failures_cap ≡ stores.failures_cap
