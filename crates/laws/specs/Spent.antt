-- When all servers of a name are used up (RFC 1034, section 5.3.3, step 3; RFC 1035, section 7.2): which servers there
-- are to begin with, which of them were asked twice in vain, and which of their names have no address. All of it is
-- read from the run, and nothing from the resolver's state.
use Rattle.std.specs.Prelude.{◌≡◌, ◌≢◌, ℕ, zero, suc, ◌-◌, ◌⊎◌, true, List, [], ◌∷◌, Contains}
use Rattle.dname.specs.Labels.{Name, root, IsAtOrUnder}
use Rattle.rdata.specs.Records.{Record}
use Rattle.rdata.specs.declared.addr.Addr.{Addr}
use Rattle.message_grammar.specs.Messages.{Message}
use Rattle.zone.specs.Zones.{a_type, cname_type}
use Rattle.zone.specs.Links.{Link, Found, Alias, NoData, NxDomain}
use Rattle.zone.specs.Look as local
use Rattle.classify.specs.Classes as class
use Rattle.classify.specs.Classes.{class_of}
use Rattle.classify.specs.declared.class.Failure.{Failure}
use Rattle.classify.specs.Lifetimes.{received}
use Rattle.referral.specs.Cuts.{Cut}
use Rattle.frames.specs.Frames.{taken_addresses, unknown_names}
use Rattle.front.specs.Chains.{alias_target}
use Rattle.resolution.specs.Jobs.{Home, Search, IsCutOf, IsRootCut, AreAddressesOf}
use Rattle.resolution.specs.Rules.{Says, asked_of}
use Rattle.runs.specs.States.{Turn, Event, Tick, TcpReply, TcpFailed, Action, OpenQuery, Path, ByUdp, ByTcp, Ask, IsFor, Open, Site, State, via_of}
use Rattle.runs.specs.Messages.{IsSent, Brings}
use Rattle.runs.specs.Runs.{Run, GivesOut, Earlier, IsOpenAskOf, Accepts}
use Rattle.laws.specs.Timely.{AcceptsAnswer}

-- Two steps of the run are so.
abbrev pub Twice : (Turn → List Turn → Type 0) → List Turn → Type 0
Twice P run = Earlier (λ turn past. P turn past × Earlier P past) run

-- ---- asks

abbrev pub IsUdpPath : Path → Type 0
IsUdpPath (ByUdp sock) = Unit {0}
IsUdpPath (ByTcp number) = ⊥

-- This step brings a truncated reply to the query's open ask over UDP of that server.
pub record BringsTruncated (port k : ℕ) (a : Addr) (n : Name) (t : ℕ) (turn : Turn) (past : List Turn) : Type 0 where
  pub ask : Ask
  pub udp : IsUdpPath ask.path
  pub asked : IsOpenAskOf port k ask past
  pub same : IsFor a n t ask
  pub message : Message
  pub brings : Brings port ask turn.event message
  pub tc : message.header.tc ≡ true

-- The query's open ask over TCP went out in the step that brought a truncated reply to the same ask over UDP (RFC 1035,
-- section 4.2.1). With it that ask goes on.
abbrev pub Repeats : ℕ → ℕ → Ask → List Turn → Type 0
Repeats port k ask [] = ⊥
Repeats port k ask (turn ∷ past) =
    ((turn.served ≡ OpenQuery k) × ((action : Action) × GivesOut turn.out action × IsSent port ask action) × BringsTruncated port k ask.server ask.name ask.kind turn past)
    ⊎ ((turn.served ≢ OpenQuery k) × Repeats port k ask past)

abbrev pub AsksBy : ℕ → ℕ → Ask → Path → List Turn → Type 0
AsksBy port k ask (ByUdp sock) run = IsOpenAskOf port k ask run
AsksBy port k ask (ByTcp number) run = Repeats port k ask run

-- The open ask of the query with this number.
abbrev pub IsOpenAsk : ℕ → ℕ → Ask → List Turn → Type 0
IsOpenAsk port k ask run = AsksBy port k ask ask.path run

-- ---- asks that end in vain

-- The end of an ask is of no use to the servers of a zone. No reply came in time, a TCP ask failed or brought no reply
-- to it, or the reply is neither an answer nor a referral from that zone.
abbrev pub IsBad : ℕ → Name → Ask → Event → Type 0
IsBad port z ask event =
    ((now : ℕ) × (event ≡ Tick now))
    ⊎ (((now : ℕ) × (number : ℕ) × (ask.path ≡ ByTcp number)
    × ((event ≡ TcpFailed now number) ⊎ ((bytes : List ℕ) × (event ≡ TcpReply now number bytes) × ((m : Message) → Brings port ask event m → ⊥))))
    ⊎ ((m : Message) × (f : Failure) × Brings port ask event m × (class_of z ask.name ask.kind (via_of ask.path) m ≡ class.Failed f)))

-- The zone whose servers query k asks after these steps: that of its innermost search, in a state to which they lead.
pub record AsksZone (port : ℕ) (home : Home) (k : ℕ) (z : Name) (past : List Turn) : Type 0 where
  pub site : Site
  pub port_is : site.port ≡ port
  pub home_is : site.home ≡ home
  pub state : State
  pub leads : Run site past state
  pub query : Open
  pub open_now : Contains state.queries query
  pub number : query.number ≡ k
  pub sought : Search
  pub others : List Search
  pub searches : (query.job).searches ≡ sought ∷ others
  pub zone : (sought.frame).zone ≡ z

-- In this step an ask of the address for the name and type ends in vain. It was an ask of the servers of that zone: what
-- a server of another zone said, such as a referral from above, is no failure of theirs.
abbrev pub EndsBadly : ℕ → Home → ℕ → Name → Name → ℕ → Addr → Turn → List Turn → Type 0
EndsBadly port home k z n t a turn past =
    (ask : Ask) × (turn.served ≡ OpenQuery k) × IsOpenAsk port k ask past × IsFor a n t ask × IsBad port z ask turn.event × AsksZone port home k z past

-- The address was asked twice, and each time in vain.
abbrev pub HasFailed : ℕ → Home → List Turn → ℕ → Name → Name → ℕ → Addr → Type 0
HasFailed port home run k z n t a = Twice (EndsBadly port home k z n t a) run

-- In this step the address is asked for the name and type over UDP.
abbrev pub SendsTo : ℕ → ℕ → Addr → Name → ℕ → Turn → List Turn → Type 0
SendsTo port k a n t turn past =
    (ask : Ask) × IsUdpPath ask.path × IsFor a n t ask × (turn.served ≡ OpenQuery k) × ((action : Action) × GivesOut turn.out action × IsSent port ask action)

-- Two such ends are those of two asks over UDP: an ask that goes on over TCP ends once.
abbrev pub AsksFailedTwice : ℕ → Home → List Turn → Type 0
AsksFailedTwice port home run = (k : ℕ) (z n : Name) (t : ℕ) (a : Addr) → HasFailed port home run k z n t a → Twice (SendsTo port k a n t) run

abbrev pub FailedIsAskedTwice : Type 0
FailedIsAskedTwice = (port : ℕ) (home : Home) (run : List Turn) → AsksFailedTwice port home run

-- ---- links and addresses of servers' names

-- In this step an answer with this link was accepted for the name and type.
abbrev pub LearnsLink : ℕ → Name → ℕ → Link → Turn → List Turn → Type 0
LearnsLink port n t l turn past = (by : ℕ) × (said : Link) × (since : ℕ) × AcceptsAnswer port by n t said since turn past × (l ≡ received said)

-- The name has this set of A records: by the local zones, or by an answer.
abbrev pub IsFound : ℕ → Home → List Turn → Name → List Record → Type 0
IsFound port home run n set = Says home n a_type (local.Linked (Found set)) ⊎ Earlier (LearnsLink port n a_type (Found set)) run

-- A link for the type t says that the name has no A record: an alias and an NXDOMAIN for any type, NODATA for A alone;
-- and a CNAME that was asked for.
abbrev pub TellsOfNone : ℕ → Link → Type 0
TellsOfNone t (Found set) = t ≡ cname_type
TellsOfNone t (Alias r) = Unit {0}
TellsOfNone t (NoData soa) = t ≡ a_type
TellsOfNone t (NxDomain soa) = Unit {0}

abbrev pub IsNotFound : Link → Type 0
IsNotFound l = (set : List Record) → l ≢ Found set

-- The name has no address: by the local zones; by an answer; or by the NXDOMAIN of a name above that counts for it (RFC
-- 8020, section 2).
abbrev pub HasNoAddress : ℕ → Home → List Turn → Name → Type 0
HasNoAddress port home run n =
    ((l : Link) × Says home n a_type (local.Linked l) × IsNotFound l)
    ⊎ (((t : ℕ) × (l : Link) × Earlier (LearnsLink port n t l) run × TellsOfNone t l)
    ⊎ ((p : Name) × (t : ℕ) × (soa : Record) × Contains (asked_of home n a_type).above p × Earlier (LearnsLink port p t (NxDomain soa)) run))

-- The name is an alias for the type t by this record: by the local zones, or by an answer; a CNAME that was asked for
-- is an alias for every other type.
abbrev pub IsAliasOf : ℕ → Home → List Turn → Name → ℕ → Record → Type 0
IsAliasOf port home run n t r =
    Says home n t (local.Linked (Alias r))
    ⊎ ((v : ℕ) × (l : Link) × Earlier (LearnsLink port n v l) run × ((l ≡ Alias r) ⊎ ((v ≡ cname_type) × ((rs : List Record) × (l ≡ Found (r ∷ rs))))))

-- These aliases lead from a name to another.
abbrev pub AcceptedAliasesLead : ℕ → Home → List Turn → ℕ → Name → List Record → Name → Type 0
AcceptedAliasesLead port home run t from [] to = to ≡ from
AcceptedAliasesLead port home run t from (r ∷ rs) to = IsAliasOf port home run from t r × AcceptedAliasesLead port home run t (alias_target r) rs to

-- ---- where a search for servers starts

-- In this step a server of the zone z refers the query to the cut c.
abbrev pub Refers : ℕ → Name → Cut → Turn → List Turn → Type 0
Refers port z c turn past =
    (k : ℕ) × (ask : Ask) × (m : Message) × (at : Name) × (ns : List Record) × (glue : List Record) × (ttl : ℕ)
    × Accepts port k ask m turn past × (class_of z ask.name ask.kind (via_of ask.path) m ≡ class.Referral at ns glue ttl) × IsCutOf at ns glue c

-- The cuts where a search may start: the hints; a cut of a local zone; a cut that a server of such a start referred to.
-- The zone whose server was asked decides which addresses of a referral are used.
abbrev pub MayStart : ℕ → Home → List Turn → Cut → Type 0
MayStart port home [] c =
    IsRootCut home c ⊎ ((n : Name) × (t : ℕ) × (at : Name) × (ns : List Record) × (glue : List Record) × Says home n t (local.Cut at ns glue) × IsCutOf at ns glue c)
MayStart port home (turn ∷ past) c = MayStart port home past c ⊎ ((z : Cut) × MayStart port home past z × Refers port z.owner c turn past)

-- The cut is over the name; the root is over every name.
abbrev pub IsOver : Cut → Name → Type 0
IsOver c n = (c.owner ≡ root) ⊎ IsAtOrUnder n c.owner

-- ---- servers that are used up

-- Why the name x of a server of the zone z is of no use: it lies in that zone itself; its addresses are all among those
-- that failed; it has none; or its own servers are used up.
abbrev pub IsOfNoUse : ℕ → Home → List Turn → Name → (Addr → Type 0) → (Name → Type 0) → Name → Type 0
IsOfNoUse port home run z Has Beneath x =
    IsAtOrUnder x z
    ⊎ (((set : List Record) × (found : List Addr) × IsFound port home run x set × AreAddressesOf set found × ((a : Addr) → Contains found a → Has a))
    ⊎ (HasNoAddress port home run x ⊎ Beneath x))

-- All that is used of the start c is of no use for the name n and the type t: the first sixteen addresses and the first
-- sixteen names without one of these. `Fails`: why a server of a zone is of no use for a name and a type.
pub record AreUsedUp (port : ℕ) (home : Home) (run : List Turn) (Fails : Name → Name → ℕ → Addr → Type 0) (n : Name) (t : ℕ) (Beneath : Name → Type 0) (c : Cut) : Type 0 where
  pub start : MayStart port home run c
  pub over : IsOver c n
  pub addresses : (a : Addr) → Contains (taken_addresses c) a → Fails c.owner n t a
  pub names : (x : Name) → Contains (unknown_names c) x → IsOfNoUse port home run c.owner (Fails c.owner n t) Beneath x

-- No address of this name can be looked up, where look-ups may nest so many times more.
abbrev pub IsBeyond : ℕ → Home → List Turn → (Name → Name → ℕ → Addr → Type 0) → ℕ → Name → Type 0
IsBeyond port home run Fails zero x = Unit {0}
IsBeyond port home run Fails (suc deeper) x = (c : Cut) × AreUsedUp port home run Fails x a_type (IsBeyond port home run Fails deeper) c

-- The servers of some start over the name are used up; d look-ups of servers' addresses are under way around it, and
-- there are three at most.
abbrev pub IsSpent : ℕ → Home → List Turn → (Name → Name → ℕ → Addr → Type 0) → Name → ℕ → ℕ → Type 0
IsSpent port home run Fails n t d = (c : Cut) × AreUsedUp port home run Fails n t (IsBeyond port home run Fails (3 - d)) c
