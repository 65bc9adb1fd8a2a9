-- The premises of the laws over runs can be met: by a run in which a referral is followed and a query answered, by one
-- in which servers are silent, one in which a server fails, one in which memory is refused, one in which the cache
-- answers, one that goes on over TCP, one that follows an alias, one that looks up a server's name, and one that would
-- have to look up too many.
use Rattle.std.specs.Prelude.{◌≡◌, ◌≢◌, ℕ, ◌<◌, true, Some, None, List, [], ◌∷◌, ◌++◌, Contains}
use Rattle.dname.specs.Labels.{Name, root}
use Rattle.rdata.specs.Data.{Ipv4}
use Rattle.rdata.specs.Records.{Record}
use Rattle.rdata.specs.Types.{type_number}
use Rattle.message_grammar.specs.Messages.{Message, IsMessage}
use Rattle.wire.specs.declared.via.Via.{Via}
use Rattle.causes.specs.declared.cause.Cause.{Cause}
use Rattle.causes.specs.declared.cause.Cause.TheVariants.{NoServerLeft, KnownFailure, TooManyLookUps}
use Rattle.front.specs.Queries.{IsRequest}
use Rattle.front.specs.declared.queries.Request.TheVariants as request
use Rattle.front.specs.declared.queries.Query.{Query}
use Rattle.cache.specs.Cached.{is_live}
use Rattle.resolution.specs.Jobs.{Taken}
use Rattle.zone.specs.Zones.{a_type}
use Rattle.zone.specs.Links.{Alias}
use Rattle.front.specs.Chains.{alias_target}
use Rattle.classify.specs.Classes.{Answer, Referral, class_of}
use Rattle.rdata.specs.Targets.{targets_of}
use Rattle.world_truth.specs.Worlds.{World, IsWorld}
use Rattle.resolution.specs.Held.{IsHeldChain}
use Rattle.runs.specs.States.{Client, TcpReply, Tick, Action, Reply, Own, OpenQuery, Turn, Plain, ClientQuery, recursive, ByTcp, Ask, Site, State, via_of}
use Rattle.runs.specs.Messages.{IsSent}
use Rattle.runs.specs.Runs.{Run, GivesOut, Accepts, Came}
use Rattle.laws.specs.Headline.{IsHonest, IsHomeIn}
use Rattle.laws.specs.Uses.{KeptAnswer}
use Rattle.laws.specs.Looks.{IsKeptSince, IsOnlyLiveEntry}

-- A step accepts a referral for the open ask of query k, and asks a server whose address the referral gives
-- the same question (RFC 1034, sections 4.3.2, step 3b, and 5.3.3, step 4b).
pub record FollowsReferral (port k : ℕ) (t : Turn) (past : List Turn) : Type 0 where
  pub ask : Ask
  pub message : Message
  pub accepts : Accepts port k ask message t past
  pub cut : Name
  pub servers : List Record
  pub addresses : List Record
  pub ttl : ℕ
  pub refers : class_of root ask.name ask.kind (via_of ask.path) message ≡ Referral cut servers addresses ttl
  pub next : Ask
  pub action : Action
  pub gives : GivesOut t.out action
  pub sent : IsSent port next action
  pub name : next.name ≡ ask.name
  pub kind : next.kind ≡ ask.kind
  pub address : Record
  pub stands : Contains addresses address
  pub value : address.value ≡ Ipv4 (next.server).0

-- A step replies to query k with a record in the answer, and without an error (RFC 1035, section 4.1.1).
pub record RepliesWithRecord (k : ℕ) (who : ClientQuery) (t : Turn) (past : List Turn) : Type 0 where
  pub served : t.served ≡ OpenQuery k
  pub bytes : List ℕ
  pub gives : GivesOut t.out (Reply who.client who.way bytes None)
  pub message : Message
  pub is : IsMessage bytes message
  pub rcode : (message.header).rcode ≡ 0
  pub first : Record
  pub answer : Contains message.answer first

-- Of three steps the first is a recursive query's, the second follows a referral for it, the third answers it.
abbrev pub IsAnsweredByReferral : ℕ → List Turn → Type 0
IsAnsweredByReferral port (third ∷ second ∷ first ∷ []) =
    (k : ℕ) × (who : ClientQuery) × (recursive who.query ≡ true) × Came (OpenQuery k) who first [] × FollowsReferral port k second (first ∷ [])
    × RepliesWithRecord k who third (second ∷ first ∷ [])
IsAnsweredByReferral port _ = ⊥

-- What the laws over runs ask for: a well formed world, whose local zones and hints are the resolver's, and a
-- run in which servers say only what they may.
pub record AreMet (W : World) (site : Site) (run : List Turn) (s : State) : Type 0 where
  pub world : IsWorld W
  pub home : IsHomeIn W site.home
  pub leads : Run site run s
  pub honest : IsHonest W site.port run

-- It is met by a run in which a referral is followed and an answer given: the laws are not empty.
abbrev pub LawsStand : Type 0
LawsStand = (W : World) × (site : Site) × (run : List Turn) × (s : State) × AreMet W site run s × IsAnsweredByReferral site.port run

-- ---- failures

-- A step replies to query k with SERVFAIL, for this cause.
pub record FailsFor (c : Cause) (k : ℕ) (who : ClientQuery) (t : Turn) : Type 0 where
  pub served : t.served ≡ OpenQuery k
  pub bytes : List ℕ
  pub gives : GivesOut t.out (Reply who.client who.way bytes (Some c))

-- The steps are a query and ticks of the clock: no server says anything. The last tick says that no server is left.
abbrev pub AreTicks : List Turn → Type 0
AreTicks [] = Unit {0}
AreTicks (t ∷ ts) = ((now : ℕ) × (t.event ≡ Tick now)) × AreTicks ts

pub record IsSilence (run : List Turn) : Type 0 where
  pub k : ℕ
  pub who : ClientQuery
  pub last : Turn
  pub between : List Turn
  pub first : Turn
  pub run_is : run ≡ (last ∷ between) ++ first ∷ []
  pub came : Came (OpenQuery k) who first []
  pub ticks : AreTicks (last ∷ between)
  pub fails : FailsFor NoServerLeft k who last

-- Nobody lies in such a run.
abbrev pub SilenceStands : Type 0
SilenceStands = (W : World) × (site : Site) × (run : List Turn) × (s : State) × AreMet W site run s × IsSilence run

-- A server says SERVFAIL, and the query fails in that step, since that server is not asked again and there is no other.
pub record IsKnownFailure (port : ℕ) (run : List Turn) : Type 0 where
  pub k : ℕ
  pub who : ClientQuery
  pub second : Turn
  pub first : Turn
  pub run_is : run ≡ second ∷ first ∷ []
  pub came : Came (OpenQuery k) who first []
  pub ask : Ask
  pub message : Message
  pub accepts : Accepts port k ask message second (first ∷ [])
  pub rcode : (message.header).rcode ≡ 2
  pub fails : FailsFor KnownFailure k who second

abbrev pub KnownFailureStands : Type 0
KnownFailureStands = (site : Site) × (run : List Turn) × (s : State) × Run site run s × IsKnownFailure site.port run

-- ---- memory

-- The last step of the run is refused its memory.
abbrev pub EndsStarved : List Turn → Type 0
EndsStarved [] = ⊥
EndsStarved (t ∷ past) = (t.out ≡ None) × (past ≢ [])

abbrev pub StarvedStands : Type 0
StarvedStands = (W : World) × (site : Site) × (run : List Turn) × (s : State) × AreMet W site run s × EndsStarved run

-- ---- the cache

-- After an answer was accepted the same question comes again, and is answered in its own step, from the cache: what
-- `HeldIsReplied` and `KeptIsFound` ask for is met.
pub record IsHeldLater (site : Site) (run : List Turn) (s : State) (legal : Run site run s) : Type 0 where
  pub last : Turn
  pub past : List Turn
  pub run_is : run ≡ last ∷ past
  pub now : ℕ
  pub client : ℕ
  pub way : Via
  pub bytes : List ℕ
  pub event : last.event ≡ Client now client way bytes
  pub query : Query Plain
  pub reads : IsRequest bytes (request.Query query)
  pub recursive_is : recursive query ≡ true
  pub served : last.served ≡ Own
  pub replied : List ℕ
  pub gives : GivesOut last.out (Reply client way replied None)
  pub end : Taken
  pub held : IsHeldChain site.home now (type_number query.kind) (s.stores).cache query.name [] end
  pub kept : KeptAnswer
  pub count : ℕ
  pub since : IsKeptSince site kept run s legal count
  pub room : count < (s.stores).cache_cap
  pub lasting : (kept.hit).ttl ≢ 0
  pub lives : is_live now kept.hit ≡ true
  pub only : IsOnlyLiveEntry now kept (s.stores).cache

abbrev pub CacheStands : Type 0
CacheStands = (W : World) × (site : Site) × (run : List Turn) × (s : State) × (met : AreMet W site run s) × IsHeldLater site run s met.leads

-- ---- streams

-- A reply that is accepted for the ask is truncated, so the same is asked over TCP, and the reply that comes there is
-- answered with (RFC 1035, section 4.2.1).
pub record IsAnsweredOverTcp (port : ℕ) (run : List Turn) : Type 0 where
  pub k : ℕ
  pub who : ClientQuery
  pub last : Turn
  pub cut : Turn
  pub past : List Turn
  pub run_is : run ≡ last ∷ cut ∷ past
  pub ask : Ask
  pub message : Message
  pub accepts : Accepts port k ask message cut past
  pub truncated : (message.header).tc ≡ true
  pub again : Ask
  pub number : ℕ
  pub path : again.path ≡ ByTcp number
  pub same : (again.server ≡ ask.server) × (again.name ≡ ask.name) × (again.kind ≡ ask.kind)
  pub action : Action
  pub gives : GivesOut cut.out action
  pub sent : IsSent port again action
  pub moment : ℕ
  pub bytes : List ℕ
  pub event : last.event ≡ TcpReply moment number bytes
  pub replies : RepliesWithRecord k who last (cut ∷ past)

abbrev pub StreamStands : Type 0
StreamStands = (W : World) × (site : Site) × (run : List Turn) × (s : State) × AreMet W site run s × IsAnsweredOverTcp site.port run

-- ---- aliases

-- A step accepts an alias for the open ask of query k, and asks for its target, of the same type (RFC 1034, section
-- 3.6.2); the next step replies with the alias and with what it leads to.
pub record IsAnsweredByAlias (port : ℕ) (run : List Turn) : Type 0 where
  pub k : ℕ
  pub who : ClientQuery
  pub last : Turn
  pub led : Turn
  pub past : List Turn
  pub run_is : run ≡ last ∷ led ∷ past
  pub ask : Ask
  pub message : Message
  pub accepts : Accepts port k ask message led past
  pub zone : Name
  pub alias : Record
  pub leads : class_of zone ask.name ask.kind (via_of ask.path) message ≡ Answer (Alias alias)
  pub next : Ask
  pub action : Action
  pub gives : GivesOut led.out action
  pub sent : IsSent port next action
  pub target : next.name ≡ alias_target alias
  pub kind : next.kind ≡ ask.kind
  pub served : last.served ≡ OpenQuery k
  pub bytes : List ℕ
  pub replied : GivesOut last.out (Reply who.client who.way bytes None)
  pub reply : Message
  pub is : IsMessage bytes reply
  pub first : Contains reply.answer alias
  pub second : Record
  pub behind : Contains reply.answer second
  pub owner : second.owner ≡ alias_target alias

abbrev pub AliasStands : Type 0
AliasStands = (W : World) × (site : Site) × (run : List Turn) × (s : State) × AreMet W site run s × IsAnsweredByAlias site.port run

-- ---- names of servers

-- A step accepts a referral for the open ask of query k that names a server and gives no address, and asks for one. The
-- next step accepts it, and asks the server at it what was asked before (RFC 1034, section 5.3.3, steps 2 and 3); the
-- last one replies.
pub record LooksUpServer (port : ℕ) (run : List Turn) : Type 0 where
  pub k : ℕ
  pub who : ClientQuery
  pub last : Turn
  pub found : Turn
  pub referred : Turn
  pub past : List Turn
  pub run_is : run ≡ last ∷ found ∷ referred ∷ past
  pub ask : Ask
  pub message : Message
  pub accepts : Accepts port k ask message referred past
  pub cut : Name
  pub servers : List Record
  pub ttl : ℕ
  pub refers : class_of root ask.name ask.kind (via_of ask.path) message ≡ Referral cut servers [] ttl
  pub server : Name
  pub named : Contains (targets_of servers) server
  pub inner : Ask
  pub action : Action
  pub gives : GivesOut referred.out action
  pub sent : IsSent port inner action
  pub sought : (inner.name ≡ server) × (inner.kind ≡ a_type)
  pub reply : Message
  pub heard : Accepts port k inner reply found (referred ∷ past)
  pub address : Record
  pub stands : Contains reply.answer address
  pub next : Ask
  pub asking : Action
  pub asks_on : GivesOut found.out asking
  pub sent_on : IsSent port next asking
  pub same : (next.name ≡ ask.name) × (next.kind ≡ ask.kind)
  pub value : address.value ≡ Ipv4 (next.server).0
  pub replies : RepliesWithRecord k who last (found ∷ referred ∷ past)

abbrev pub LookUpStands : Type 0
LookUpStands = (W : World) × (site : Site) × (run : List Turn) × (s : State) × AreMet W site run s × LooksUpServer site.port run

-- ---- too many look-ups

-- A query is over in its own step, before any server is asked: 64 names of servers were looked up for it, and another one
-- would have to be.
pub record IsTooManyLookUps (run : List Turn) : Type 0 where
  pub who : ClientQuery
  pub last : Turn
  pub run_is : run ≡ last ∷ []
  pub recursive_is : recursive who.query ≡ true
  pub came : Came Own who last []
  pub bytes : List ℕ
  pub gives : GivesOut last.out (Reply who.client who.way bytes (Some TooManyLookUps))

abbrev pub TooManyLookUpsStands : Type 0
TooManyLookUpsStands = (W : World) × (site : Site) × (run : List Turn) × (s : State) × AreMet W site run s × IsTooManyLookUps run
