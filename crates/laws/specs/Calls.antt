-- The effect of one input on a query's work (RFC 1034, section 5.3.3, steps 3 and 4): servers are asked in turn, a
-- referral is followed, a truncated reply is asked for again, an answer is used.
use Rattle.std.specs.Prelude.{◌≡◌, ℕ, ◌⊎◌, ◌+◌, ◌-◌, ◌<◌, true, false, Option, Some, None, List, [], ◌∷◌, Contains}
use Rattle.dname.specs.Labels.{Name}
use Rattle.rdata.specs.Records.{Record}
use Rattle.rdata.specs.declared.addr.Addr.{Addr}
use Rattle.zone.specs.Zones.{a_type}
use Rattle.zone.specs.Links.{Link, Alias}
use Rattle.zone.specs.Look.{Local}
use Rattle.causes.specs.declared.cause.Cause.{Cause}
use Rattle.message_grammar.specs.Messages.{Message}
use Rattle.wire.specs.declared.via.Via.{Via}
use Rattle.classify.specs.Classes as class
use Rattle.classify.specs.Classes.{Class, class_of}
use Rattle.classify.specs.declared.class.Failure.{Failure}
use Rattle.retry.specs.Penalties.{AreAtMost}
use Rattle.referral.specs.Cuts.{Cut, IsBest}
use Rattle.cache.specs.Failures.{failed_ask, is_failed}
use Rattle.frames.specs.Frames.{opened, taken_addresses}
use Rattle.resolution.specs.Jobs.{Home, Stores, level_of, with_answer, Taken, received_link, AreFresh, IsEnding, IsCutOf, Search, search_at, with_frame, fails_now, next_server, is_server_failure, Job, Input, Told, TimedOut, TcpFailed, Next, AskUdp, AskTcp, Done, Fail, MaySend, Point}
use Rattle.resolution.specs.Rules.{Says, Begins, Rule, takes, asks, follows, restarts, skips, hears, descends, gives_up, Rules, Leaves, Advances, MayNotSend}
use Rattle.runs.specs.Steps.{IsAsk}

-- ---- inputs

-- A message that was accepted for the innermost search, and its class under that search's zone.
pub record AcceptsReply (old : Job) (input : Input) (s : Search) (rest : List Search) (server : Addr) (c : Class) : Type 0 where
  pub searches : old.searches ≡ s ∷ rest
  pub via : Via
  pub message : Message
  pub told : input ≡ Told via server message
  pub is_class : class_of (s.frame).zone s.name s.kind via message ≡ c

-- The innermost search's ask ended in vain: its wait is over, or it failed over TCP, or its reply is of no use.
pub record IsLost (old : Job) (input : Input) (s : Search) (rest : List Search) : Type 0 where
  pub searches : old.searches ≡ s ∷ rest
  pub server : Addr
  pub lost : (input ≡ TimedOut server) ⊎ ((input ≡ TcpFailed server) ⊎ ((f : Failure) × AcceptsReply old input s rest server (class.Failed f)))

-- ---- results

-- This ask goes out, where the deadline and the number of asks allow one.
abbrev pub GoesOut : ℕ → Job → Next → Next → Type 0
GoesOut now j ask next = (MaySend now j × (next ≡ ask)) ⊎ ((c : Cause) × MayNotSend now j c × (next ≡ Fail c))

-- ---- laws

-- Where an ask ended in vain, the plan's next address that did not fail lately is asked the same question, while there
-- is one (RFC 2308, section 7.1). The stores as the call leaves them say which addresses failed lately.
abbrev pub NextIsAsked : Type 0
NextIsAsked =
    (home : Home) (now : ℕ) (input : Input) (old : Job) (stores : Stores) (next : Next) (new : Job) (after : Stores) (s : Search) (rest : List Search) (server : Addr)
    → Advances home now input old stores next new after → IsLost old input s rest → next_server now after.failures s ≡ Some server
    → GoesOut now old (AskUdp server s.name s.kind) next

-- A reply that was truncated over UDP: the same server is asked the same question over TCP.
abbrev pub TruncatedIsRepeated : Type 0
TruncatedIsRepeated =
    (home : Home) (now : ℕ) (input : Input) (old : Job) (stores : Stores) (next : Next) (new : Job) (after : Stores) (s : Search) (rest : List Search) (server : Addr)
    → Advances home now input old stores next new after → AcceptsReply old input s rest server class.Truncated
    → GoesOut now old (AskTcp server s.name s.kind) next

-- A referral: where an address of one of its servers is taken that did not fail lately, such a one is asked the same
-- question, the first of a plan by the penalties at that moment.
abbrev pub ReferralIsFollowed : Type 0
ReferralIsFollowed =
    (home : Home) (now : ℕ) (input : Input) (old : Job) (stores : Stores) (next : Next) (new : Job) (after : Stores) (s : Search) (rest : List Search) (server : Addr)
    (at : Name) (ns glue : List Record) (ttl : ℕ)
    → Advances home now input old stores next new after → AcceptsReply old input s rest server (class.Referral at ns glue ttl)
    → (c : Cut) × IsCutOf at ns glue c
    × ((d : Addr) → next_server now after.failures (with_frame s (opened (level_of (with_answer stores server)) (s.frame).nesting c)) ≡ Some d → Contains (taken_addresses c) d × GoesOut now old (AskUdp d s.name s.kind) next)
    × (AreAtMost 8 stores.penalties → (b : Addr) → Contains (taken_addresses c) b → fails_now now after.failures s b ≡ false
    → (d : Addr) × Contains (taken_addresses c) d × GoesOut now old (AskUdp d s.name s.kind) next)

-- An answer for the query's own name that ends the chain is used at once, where no link from the cache has expired
-- meanwhile.
abbrev pub AnswerIsUsed : Type 0
AnswerIsUsed =
    (home : Home) (now : ℕ) (input : Input) (old : Job) (stores : Stores) (next : Next) (new : Job) (after : Stores) (s : Search) (server : Addr) (l : Link)
    → Advances home now input old stores next new after → AcceptsReply old input s [] server (class.Answer l) → IsEnding l → AreFresh now old.chain
    → next ≡ Done old.chain (received_link s.name l now)

-- Over UDP no server is asked that failed lately to answer the same question.
abbrev pub AskedDidNotFail : Type 0
AskedDidNotFail =
    (home : Home) (now : ℕ) (input : Input) (old : Job) (stores : Stores) (next : Next) (new : Job) (after : Stores) (server : Addr) (n : Name) (t : ℕ)
    → Advances home now input old stores next new after → next ≡ AskUdp server n t → is_failed now (failed_ask n t server) after.failures ≡ false

-- Where a message says that its server failed to answer, that is cached and counts for 30 seconds, while lack of room
-- does not remove it.
abbrev pub FailureIsKept : Type 0
FailureIsKept =
    (home : Home) (now : ℕ) (input : Input) (old : Job) (stores : Stores) (next : Next) (new : Job) (after : Stores) (s : Search) (rest : List Search) (server : Addr) (c : Class) (later : ℕ)
    → Advances home now input old stores next new after → (h : AcceptsReply old input s rest server c) → is_server_failure h.message ≡ true → later - now < 30000
    → fails_now later after.failures s server ≡ true

-- A link of the chain that goes out or is under way; a failure has none.
abbrev pub HasLink : Next → Job → Taken → Type 0
HasLink (AskUdp server n t) new l = Contains new.chain l
HasLink (AskTcp server n t) new l = Contains new.chain l
HasLink (Done chain end) new l = Contains chain l
HasLink (Fail c) new l = ⊥

-- An alias for the query's own name stays in the chain, where no link from the cache has expired meanwhile.
abbrev pub AliasStays : Type 0
AliasStays =
    (home : Home) (now : ℕ) (input : Input) (old : Job) (stores : Stores) (next : Next) (new : Job) (after : Stores) (s : Search) (server : Addr) (r : Record)
    → Advances home now input old stores next new after → AcceptsReply old input s [] server (class.Answer (Alias r)) → AreFresh now old.chain
    → HasLink next new (received_link s.name (Alias r) now) ⊎ ((c : Cause) × (next ≡ Fail c))

-- ---- frames that open

-- A frame that opens: for this name and type, at this nesting, at this cut.
pub record Opening : Type 0 where
  pub name : Name
  pub kind : ℕ
  pub nesting : ℕ
  pub cut : Cut

-- The frame that a rule opens, if it opens one.
abbrev pub opening_of : (home : Home) (now : ℕ) (a b : Point) → Rule home now a b → Option Opening
opening_of home now a b (takes l t f u j) = None
opening_of home now a b (asks c t m u j) = Some (record { name = (a.job).name; kind = (a.job).kind; nesting = 0; cut = c })
opening_of home now a b (follows l r t is few u j e) = None
opening_of home now a b (restarts l d front back t is whole fresh dead u j e) = None
opening_of home now a b (skips n s u rest failures t searches passes free v j e) = None
opening_of home now a b (hears before around rest n l marks t turn f h u j) = None
opening_of home now a b (descends s rest n c t turn m u j) = Some (record { name = n; kind = a_type; nesting = (s.frame).nesting + 1; cut = c })
opening_of home now a b (gives_up s around rest t up u j e) = None

-- The cut where a question's servers are sought first, by local zones and delegations.
pub record StartsSearch (home : Home) (now : ℕ) (n : Name) (t : ℕ) (stores : Stores) (c : Cut) : Type 0 where
  pub what : Local
  pub says : Says home n t what
  pub best : Option Cut
  pub is_best : IsBest n now stores.delegations best
  pub begins : Begins home n what best c

-- The search as it was, but for how many addresses of its plan were given out.
abbrev pub with_given : ℕ → Search → Search
with_given n s = with_frame s (record s.frame { plan = record { order = ((s.frame).plan).order; given = n } })

abbrev pub IsGivenOf : Search → Search → Type 0
IsGivenOf s u = (n : ℕ) × (u ≡ with_given n s)

-- A frame opens at the start that the local zones and the delegations name, with a plan by the penalties, both as the
-- call leaves them. The plan's first address that did not fail lately is asked, if there is one, and then that frame is
-- the innermost of the job.
abbrev pub FramesOpenRightly : Type 0
FramesOpenRightly =
    (home : Home) (now : ℕ) (a b last : Point) (count : ℕ) (next : Next) (new : Job) (after : Stores) (rule : Rule home now a b) (o : Opening)
    → Rules home now count b last → Leaves home now last next new after → opening_of home now a b rule ≡ Some o
    → StartsSearch home now o.name o.kind after o.cut
    × ((rest : List Search) × ((b.job).searches ≡ search_at o.name o.kind (opened (level_of after) o.nesting o.cut) ∷ rest))
    × ((d : Addr) → next_server now after.failures (search_at o.name o.kind (opened (level_of after) o.nesting o.cut)) ≡ Some d
    → GoesOut now a.job (AskUdp d o.name o.kind) next
    × (IsAsk next → (sought : Search) × (rest : List Search) × IsGivenOf (search_at o.name o.kind (opened (level_of after) o.nesting o.cut)) sought × (new.searches ≡ sought ∷ rest)))
