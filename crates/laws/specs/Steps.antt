-- The actions of the very step in which a message or a failure comes for an open query, over every run.
use Rattle.std.specs.Prelude.{◌≡◌, ℕ, ◌<◌, ◌⊎◌, false, Some, List, [], ◌∷◌, Contains}
use Rattle.dname.specs.Labels.{Name}
use Rattle.rdata.specs.Records.{Record}
use Rattle.rdata.specs.declared.addr.Addr.{Addr}
use Rattle.zone.specs.Links.{Link, Alias}
use Rattle.causes.specs.declared.cause.Cause.{Cause}
use Rattle.front.specs.declared.queries.Outcome.{Outcome}
use Rattle.front.specs.declared.queries.Outcome.TheVariants as outcome
use Rattle.message_grammar.specs.Messages.{Message}
use Rattle.classify.specs.Classes as class
use Rattle.classify.specs.Classes.{Class, class_of}
use Rattle.classify.specs.declared.class.Failure.{Failure}
use Rattle.referral.specs.Cuts.{Cut}
use Rattle.frames.specs.Frames.{opened, taken_addresses}
use Rattle.resolution.specs.Jobs.{level_of, with_answer, received_link, AreFresh, IsEnding, IsCutOf, Search, with_frame, fails_now, next_server}
use Rattle.resolution.specs.Rules.{MayNotSend}
use Rattle.runs.specs.States.{Tick, TcpReply, TcpFailed, Action, OpenQuery, Turn, Plain, Path, ByUdp, ByTcp, via_of, IsFor, Open, Site, State, moved}
use Rattle.runs.specs.Messages.{IsSent, Brings, outcome_of, IsReply}
use Rattle.runs.specs.Steps.{Step}
use Rattle.runs.specs.Runs.{Run}
use Rattle.laws.specs.Laws.{IsOnlyAction}

-- A step that serves an open query whose servers are asked. `sought` is the innermost search, for the query's own name
-- where there are no others. Memory did not run out.
pub record Attends (site : Site) (past : List Turn) (old : State) (t : Turn) (out : List Action) (new : State) (q : Open) (sought : Search) (others : List Search) : Type 0 where
  pub legal : Run site past old
  pub step : Step old t.event t.served t.out new
  pub there : Contains old.queries q
  pub served : t.served ≡ OpenQuery q.number
  pub fed : t.out ≡ Some out
  pub searches : (q.job).searches ≡ sought ∷ others

-- The state at the event's moment.
abbrev pub at_moment : State → Turn → State
at_moment old t = moved old t.event

-- The step brings a message that is accepted for the query's open ask, and is of this class under the search's zone.
pub record AcceptsAs (site : Site) (t : Turn) (q : Open) (sought : Search) (c : Class) : Type 0 where
  pub message : Message
  pub brings : Brings site.port q.ask t.event message
  pub is_class : class_of (sought.frame).zone sought.name sought.kind (via_of (q.ask).path) message ≡ c

-- The query's ask ends in vain: its wait is over, and its time is not up; it failed over TCP; its reply over TCP is not
-- accepted; or the accepted message is of no use.
abbrev pub EndsInVain : Site → State → Turn → Open → Search → Type 0
EndsInVain site s t q sought =
    ((now : ℕ) × (t.event ≡ Tick now) × (s.clock < (q.job).deadline))
    ⊎ ((now : ℕ) × (number : ℕ) × (t.event ≡ TcpFailed now number))
    ⊎ ((now : ℕ) × (number : ℕ) × (bytes : List ℕ) × (t.event ≡ TcpReply now number bytes) × ((m : Message) → Brings site.port q.ask t.event m → ⊥))
    ⊎ ((f : Failure) × AcceptsAs site t q sought (class.Failed f))

-- ---- what goes out

-- The reply of an outcome goes to the client who asked.
abbrev pub Replies : Open → Outcome Plain → List Action → Type 0
Replies q o out = (action : Action) × IsReply q.client_query o action × IsOnlyAction action out

-- The query waits for the reply of this server to this question.
abbrev pub IsSentByUdp : Path → Type 0
IsSentByUdp path = (sock : ℕ) × (path ≡ ByUdp sock)

abbrev pub IsTcp : Path → Type 0
IsTcp path = (number : ℕ) × (path ≡ ByTcp number)

pub record Sends (Is : Path → Type 0) (site : Site) (q : Open) (server : Addr) (n : Name) (t : ℕ) (out : List Action) (new : State) : Type 0 where
  pub after : Open
  pub there : Contains new.queries after
  pub number : after.number ≡ q.number
  pub for : IsFor server n t after.ask
  pub path : Is (after.ask).path
  pub action : Action
  pub sent : IsSent site.port after.ask action
  pub alone : IsOnlyAction action out

-- This server is asked; or the query's time is up, or 40 asks went out for it, and it is answered so.
abbrev pub AsksServer : (Path → Type 0) → Site → State → Open → Addr → Search → List Action → State → Type 0
AsksServer Is site s q server sought out new =
    Sends Is site q server sought.name sought.kind out new ⊎ ((c : Cause) × MayNotSend s.clock q.job c × Replies q (outcome.Fail c) out)

-- ---- laws

-- After an ask that ended in vain, the plan's next address that did not fail lately is asked the same question, while
-- there is one (RFC 2308, section 7.1).
abbrev pub AsksOn : Site → List Turn → State → Turn → State → Type 0
AsksOn site past old t new =
    (out : List Action) (q : Open) (sought : Search) (others : List Search) (server : Addr)
    → Attends site past old t out new q sought others → EndsInVain site (at_moment old t) t q sought → next_server (at_moment old t).clock (new.stores).failures sought ≡ Some server
    → AsksServer IsSentByUdp site (at_moment old t) q server sought out new

abbrev pub LostIsAskedOn : Type 0
LostIsAskedOn = (site : Site) (past : List Turn) (old : State) (t : Turn) (new : State) → AsksOn site past old t new

-- After a reply that was truncated over UDP, the same server is asked the same question over TCP.
abbrev pub AsksAgain : Site → List Turn → State → Turn → State → Type 0
AsksAgain site past old t new =
    (out : List Action) (q : Open) (sought : Search) (others : List Search)
    → Attends site past old t out new q sought others → AcceptsAs site t q sought class.Truncated
    → AsksServer IsTcp site (at_moment old t) q (q.ask).server sought out new

abbrev pub TruncatedIsAskedAgain : Type 0
TruncatedIsAskedAgain = (site : Site) (past : List Turn) (old : State) (t : Turn) (new : State) → AsksAgain site past old t new

-- After a referral of which an address is used that did not fail lately, such an address is asked the same question. It
-- is the first of a plan by the penalties once the server that referred has its own.
abbrev pub AsksReferred : Site → List Turn → State → Turn → State → Type 0
AsksReferred site past old t new =
    (out : List Action) (q : Open) (sought : Search) (others : List Search)
    (at : Name) (ns glue : List Record) (ttl : ℕ)
    → Attends site past old t out new q sought others → AcceptsAs site t q sought (class.Referral at ns glue ttl)
    → (c : Cut) × IsCutOf at ns glue c
    × ((d : Addr) → next_server (at_moment old t).clock (new.stores).failures (with_frame sought (opened (level_of (with_answer (at_moment old t).stores (q.ask).server)) (sought.frame).nesting c)) ≡ Some d → AsksServer IsSentByUdp site (at_moment old t) q d sought out new)
    × ((b : Addr) → Contains (taken_addresses c) b → fails_now (at_moment old t).clock (new.stores).failures sought b ≡ false → (d : Addr) × Contains (taken_addresses c) d × AsksServer IsSentByUdp site (at_moment old t) q d sought out new)

abbrev pub ReferralIsAsked : Type 0
ReferralIsAsked = (site : Site) (past : List Turn) (old : State) (t : Turn) (new : State) → AsksReferred site past old t new

-- After an answer for the query's own name that ends its chain, the reply of the whole chain goes out, where no link of
-- it that came from the cache has expired.
abbrev pub RepliesAnswer : Site → List Turn → State → Turn → State → Type 0
RepliesAnswer site past old t new =
    (out : List Action) (q : Open) (sought : Search) (l : Link)
    → Attends site past old t out new q sought [] → AcceptsAs site t q sought (class.Answer l) → IsEnding l → AreFresh (at_moment old t).clock (q.job).chain
    → Replies q (outcome_of (at_moment old t).clock (q.job).chain (received_link sought.name l (at_moment old t).clock)) out

abbrev pub AnswerIsReplied : Type 0
AnswerIsReplied = (site : Site) (past : List Turn) (old : State) (t : Turn) (new : State) → RepliesAnswer site past old t new

-- After an alias for the query's own name, it stands in the chain of the open query, or the query is answered.
abbrev pub KeepsAlias : Site → List Turn → State → Turn → State → Type 0
KeepsAlias site past old t new =
    (out : List Action) (q : Open) (sought : Search) (r : Record)
    → Attends site past old t out new q sought [] → AcceptsAs site t q sought (class.Answer (Alias r)) → AreFresh (at_moment old t).clock (q.job).chain
    → ((after : Open) × Contains new.queries after × (after.number ≡ q.number) × Contains (after.job).chain (received_link sought.name (Alias r) (at_moment old t).clock))
    ⊎ ((o : Outcome Plain) × Replies q o out)

abbrev pub AliasIsKept : Type 0
AliasIsKept = (site : Site) (past : List Turn) (old : State) (t : Turn) (new : State) → KeepsAlias site past old t new
