-- The work on one query (RFC 1034, section 5.3.3): the resolver's zones and stores, the links that are used, the
-- searches for servers, inputs, and results. Moments are milliseconds, TTLs seconds.
use Rattle.std.specs.Prelude.{◌≡◌, ℕ, ◌+◌, ◌-◌, ◌*◌, ◌<◌, Bool, true, false, not, ◌&&◌, cond, nat_eq, nat_le, Option, Some, None, List, [], ◌∷◌, ◌++◌, take, drop, map}
use Rattle.std.specs.List.{flat_map}
use Rattle.limits.specs.Limits.{max_asks, max_look_ups, query_lifetime}
use Rattle.dname.specs.Labels.{Name, root}
use Rattle.rdata.specs.Data.{Datum, Ipv4}
use Rattle.rdata.specs.Records.{Record}
use Rattle.rdata.specs.declared.addr.Addr.{Addr}
use Rattle.zone.specs.Zones.{Zone}
use Rattle.zone.specs.Links.{Link, Found, Alias, NoData, NxDomain}
use Rattle.causes.specs.declared.cause.Cause.{Cause}
use Rattle.message_grammar.specs.Messages.{Message}
use Rattle.wire.specs.declared.via.Via.{Via}
use Rattle.classify.specs.Lifetimes.{received, lifetime_of, referral_lifetime}
use Rattle.rdata.specs.Targets.{targets_of}
use Rattle.retry.specs.Penalties.{penalty, answered, timed_out}
use Rattle.retry.specs.Plans.{Plan, advanced, wait_of}
use Rattle.referral.specs.Cuts.{ServerAddress, Cut, Known}
use Rattle.referral.specs.Cuts as referral
use Rattle.cache.specs.Keys.{Key}
use Rattle.rdata.specs.Ages.{seconds_left}
use Rattle.cache.specs.Cached.{Hit, retimed}
use Rattle.cache.specs.Cached as cache
use Rattle.cache.specs.Failures.{FailedAsk, failed_ask, is_failed, after_failed}
use Rattle.frames.specs.Frames.{Frame, Failed, most_taken}
use Rattle.frames.specs.Trimmed.{trimmed}

-- ---- zones and stores

-- The local zones, and addresses of servers of the root (RFC 1034, section 5.3.2, SBELT).
pub record Home : Type 0 where
  pub zones : List Zone
  pub hints : List Addr

-- The stores: links, delegations, penalties of servers that did not answer, and which servers failed to answer which
-- questions; each with its capacity. The most recently used entry stands first.
pub record Stores : Type 0 where
  pub cache : List (Key × Hit)
  pub cache_cap : ℕ
  pub delegations : List (Name × Known)
  pub delegations_cap : ℕ
  pub penalties : List (Addr × ℕ)
  pub penalties_cap : ℕ
  pub failures : List (FailedAsk × ℕ)
  pub failures_cap : ℕ

abbrev pub level_of : Stores → Addr → ℕ
level_of stores a = penalty a stores.penalties

-- The stores after a server answered, whatever its answer; after one did not.
abbrev pub with_answer : Stores → Addr → Stores
with_answer stores server = record stores { penalties = answered server stores.penalties }

abbrev pub with_timeout : Stores → Addr → Stores
with_timeout stores server = record stores { penalties = timed_out server stores.penalties_cap stores.penalties }

-- ---- links that are used

-- The source of a link: a local zone, the cache, or a message that was accepted for this very query. The latter two
-- have the TTL of the link, and the moment at which it was cached or accepted.
pub data Source : Type 0 where
  Local : Source
  Cached : ℕ → ℕ → Source
  Accepted : ℕ → ℕ → Source

-- A link and its name.
pub record Taken : Type 0 where
  pub name : Name
  pub link : Link
  pub source : Source

abbrev pub local_link : Name → Link → Taken
local_link n l = record { name = n; link = l; source = Local }

abbrev pub kept_link : Name → Hit → Taken
kept_link n h = record { name = n; link = h.link; source = Cached h.ttl h.since }

-- The link of a message, within the limits on TTLs.
abbrev pub received_link : Name → Link → ℕ → Taken
received_link n l now = record { name = n; link = received l; source = Accepted (lifetime_of (received l)) now }

-- A link from the cache that has expired by now. Links of other sources never have: one that was accepted for this
-- query may be used once, whatever its TTL (RFC 1034, section 3.6).
abbrev pub has_ended : ℕ → Source → Bool
has_ended now Local = false
has_ended now (Cached ttl since) = nat_le (1000 * ttl) (now - since)
has_ended now (Accepted ttl since) = false

abbrev pub is_dead : ℕ → Taken → Bool
is_dead now l = has_ended now l.source

abbrev pub IsDead : ℕ → Taken → Type 0
IsDead now l = is_dead now l ≡ true

abbrev pub AreFresh : ℕ → List Taken → Type 0
AreFresh now [] = Unit {0}
AreFresh now (l ∷ ls) = (is_dead now l ≡ false) × AreFresh now ls

-- The link that ends a chain, and one that leads on.
abbrev pub IsEnding : Link → Type 0
IsEnding (Found set) = Unit {0}
IsEnding (Alias r) = ⊥
IsEnding (NoData soa) = Unit {0}
IsEnding (NxDomain soa) = Unit {0}

-- A link as it is sent: a local one as it is, others with what is left of their TTL.
abbrev pub sent_from : ℕ → Source → Link → Link
sent_from now Local l = l
sent_from now (Cached ttl since) l = retimed (seconds_left now ttl since) l
sent_from now (Accepted ttl since) l = retimed (seconds_left now ttl since) l

abbrev pub sent : ℕ → Taken → Link
sent now l = sent_from now l.source l.link

-- ---- cuts

-- The IPv4 addresses in records, each with its owner.
abbrev pub ipv4_of : Datum → List (List ℕ)
ipv4_of (Ipv4 bytes) = bytes ∷ []
ipv4_of _ = []

abbrev pub rows_of : List Record → List (Name × List ℕ)
rows_of rs = flat_map (λ (r : Record). map (λ (bytes : List ℕ). (r.owner, bytes)) (ipv4_of r.value)) rs

abbrev pub row_of : ServerAddress → Name × List ℕ
row_of s = (s.name, (s.address).0)

-- The cut that an NS set and glue make: its servers' names, and the A records among the glue.
pub record IsCutOf (at : Name) (ns glue : List Record) (c : Cut) : Type 0 where
  pub owner : c.owner ≡ at
  pub names : c.names ≡ targets_of ns
  pub addresses : map row_of c.addresses ≡ rows_of glue

-- The root's cut with the hints: addresses of which no name is known.
abbrev pub hinted : Addr → ServerAddress
hinted a = record { name = root; address = a }

abbrev pub root_cut : Home → Cut
root_cut home = record { owner = root; names = []; addresses = map hinted home.hints }

abbrev pub IsRootCut : Home → Cut → Type 0
IsRootCut home c = c ≡ root_cut home

-- The addresses that a set of A records gives: the first sixteen are used.
abbrev pub bytes_of : Addr → List ℕ
bytes_of a = a.0

abbrev pub AreAddressesOf : List Record → List Addr → Type 0
AreAddressesOf set found = map bytes_of found ≡ take most_taken (flat_map (λ (r : Record). ipv4_of r.value) set)

-- ---- one query's work

-- A search: its servers are asked for this name and type.
pub record Search : Type 0 where
  pub name : Name
  pub kind : ℕ
  pub frame : Frame

abbrev pub search_at : Name → ℕ → Frame → Search
search_at n t f = record { name = n; kind = t; frame = f }

-- `name` and `kind`: the question that is sought now. `chain`: the aliases that led to it. `searches`: for that name,
-- and for addresses of servers, the innermost first. `failed`: servers' names that were looked up in vain. `asks`: how
-- many were sent. `look_ups`: how often a server's name had its turn. `deadline`: the moment past which nothing more is
-- sent. `skipped`: whether a server was passed over, since it had lately failed to answer the question.
pub record Job : Type 0 where
  pub name : Name
  pub kind : ℕ
  pub chain : List Taken
  pub searches : List Search
  pub failed : Failed
  pub asks : ℕ
  pub look_ups : ℕ
  pub deadline : ℕ
  pub skipped : Bool

-- A query has ten seconds.
abbrev pub job_at : Name → ℕ → ℕ → Job
job_at n t now = record { name = n; kind = t; chain = []; searches = []; failed = []; asks = 0; look_ups = 0; deadline = now + query_lifetime; skipped = false }

-- An input: the query itself; the message that was accepted for its ask of a server; the end of the wait for one; the
-- failure of an ask over TCP.
pub data Input : Type 0 where
  Start : Input
  Told : Via → Addr → Message → Input
  TimedOut : Addr → Input
  TcpFailed : Addr → Input

-- A result: an ask of a server for a name and a type, by UDP or by TCP; the aliases and the end of a whole chain; a
-- failure.
pub data Next : Type 0 where
  AskUdp : Addr → Name → ℕ → Next
  AskTcp : Addr → Name → ℕ → Next
  Done : List Taken → Taken → Next
  Fail : Cause → Next

-- An ask may be sent before the deadline, and where fewer than 40 were.
pub record MaySend (now : ℕ) (j : Job) : Type 0 where
  pub early : now < j.deadline
  pub few : j.asks < max_asks

-- The wait for the reply of the innermost search's server.
abbrev pub wait_in : List Search → ℕ
wait_in [] = 1000
wait_in (s ∷ rest) = wait_of (s.frame).plan

abbrev pub wait_of_job : Job → ℕ
wait_of_job j = wait_in j.searches

-- The search after its plan's next address was given out, and the job after an ask.
abbrev pub with_frame : Search → Frame → Search
with_frame s f = record s { frame = f }

abbrev pub given : Search → Search
given s = with_frame s (record s.frame { plan = advanced (s.frame).plan })

abbrev pub asked : Job → Search → List Search → Job
asked j s rest = record j { searches = given s ∷ rest; asks = j.asks + 1 }

abbrev pub asked_again : Job → Job
asked_again j = record j { asks = j.asks + 1 }

-- A server's name may have its turn where fewer than 64 had; and the job after one.
abbrev pub MayLookUp : Job → Type 0
MayLookUp j = j.look_ups < max_look_ups

abbrev pub looked_up : Job → Job
looked_up j = record j { look_ups = j.look_ups + 1 }

-- ---- servers that failed lately (RFC 2308, section 7.1)

-- The ask of a server for what a search seeks, and whether the server failed lately to answer it.
abbrev pub ask_of : Search → Addr → FailedAsk
ask_of s server = failed_ask s.name s.kind server

abbrev pub fails_now : ℕ → List (FailedAsk × ℕ) → Search → Addr → Bool
fails_now now failures s server = is_failed now (ask_of s server) failures

-- The addresses that are left of a plan's two rounds, and the first of some that did not fail.
abbrev pub left_of : Plan → List Addr
left_of p = drop p.given (p.order ++ p.order)

abbrev pub first_without : (Addr → Bool) → List Addr → Option Addr
first_without fails [] = None
first_without fails (a ∷ more) = cond (fails a) (first_without fails more) (Some a)

-- The address that a search asks next: the first one that is left of its plan and did not fail lately.
abbrev pub next_server : ℕ → List (FailedAsk × ℕ) → Search → Option Addr
next_server now failures s = first_without (fails_now now failures s) (left_of (s.frame).plan)

-- SERVFAIL (RFC 1035, section 4.1.1) that is not truncated.
abbrev pub is_server_failure : Message → Bool
is_server_failure m = nat_eq (m.header).rcode 2 && not (m.header).tc

-- The stores after a message for a search, whatever its class: its server answered; and where the message says that it
-- failed, that is cached.
abbrev pub with_failure : ℕ → Search → Addr → Message → Stores → Stores
with_failure now s server m stores =
    record stores { failures = cond (is_server_failure m) (after_failed stores.failures_cap (ask_of s server) now stores.failures) stores.failures }

abbrev pub with_told : ℕ → Search → Addr → Message → Stores → Stores
with_told now s server m stores = with_failure now s server m (with_answer stores server)

-- ---- a job at work

-- The next task: to look for the name in local zones and cache; to use a link for the name; to ask servers; to ask a
-- server again over TCP.
pub data Task : Type 0 where
  Seek : Task
  Take : Taken → Task
  Go : Task
  Again : Addr → Task

-- A link that is to be used has not expired.
abbrev pub IsFreshTask : ℕ → Task → Type 0
IsFreshTask now Seek = Unit {0}
IsFreshTask now (Take l) = is_dead now l ≡ false
IsFreshTask now Go = Unit {0}
IsFreshTask now (Again server) = Unit {0}

pub record Point : Type 0 where
  pub task : Task
  pub job : Job
  pub stores : Stores

abbrev pub point : Task → Job → Stores → Point
point task job stores = record { task = task; job = job; stores = stores }

-- The cached entry of a message: a link; a delegation.
abbrev pub hit_from : Link → ℕ → Hit
hit_from l now = cache.as_kept (received l) (lifetime_of (received l)) now

-- Of a delegation the part that a frame can use is cached, however much a referral lists.
abbrev pub cut_from : Cut → ℕ → ℕ → Known
cut_from c ttl now = referral.as_kept (trimmed c) (referral_lifetime ttl) now
