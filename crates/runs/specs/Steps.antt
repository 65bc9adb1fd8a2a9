-- One step of the resolver: which query an event is for, and its treatment. `s` is the state before, its clock at the
-- event's moment.
use Rattle.std.specs.Prelude.{◌≡◌, ◌≢◌, ℕ, ◌+◌, ◌<◌, ◌≤◌, ◌%◌, ◌⊎◌, true, false, Option, Some, None, List, [], ◌∷◌, ◌++◌, length, Contains}
use Rattle.limits.specs.Limits.{max_open, tcp_wait}
use Rattle.dname.specs.Labels.{Name}
use Rattle.rdata.specs.Types.{type_number}
use Rattle.rdata.specs.declared.addr.Addr.{Addr}
use Rattle.authority.specs.Catalogs.{looked}
use Rattle.causes.specs.declared.cause.Cause.TheVariants as cause
use Rattle.message_grammar.specs.Messages.{Message}
use Rattle.wire.specs.declared.via.Via.{Via}
use Rattle.front.specs.Queries.{IsRequest}
use Rattle.front.specs.Chains.{AnswersLocally}
use Rattle.front.specs.declared.queries.Query.{Query}
use Rattle.front.specs.declared.queries.Request.{Request}
use Rattle.front.specs.declared.queries.Request.TheVariants as request
use Rattle.front.specs.declared.queries.Outcome.{Outcome}
use Rattle.front.specs.declared.queries.Outcome.TheVariants as outcome
use Rattle.resolution.specs.Jobs.{Stores, Job, wait_of_job, Input, Start, Told, TimedOut, Next, AskUdp, AskTcp, Done, Fail}
use Rattle.resolution.specs.Jobs as jobs
use Rattle.resolution.specs.Rules.{Advances}
use Rattle.resolution.specs.Stops.{Stops}
use Rattle.runs.specs.States.{Endpoint, Event, Client, Datagram, TcpReply, TcpFailed, Tick, Action, MoreDue, Served, Nobody, Own, OpenQuery, Plain, ClientQuery, client_query, recursive, job_for, ByUdp, ByTcp, via_of, Ask, IsFor, Open, open_query, due_moment, AreApart, State, moved, word_of, word_taken, low_half, socket_of}
use Rattle.runs.specs.Messages.{IsSent, Brings, id_in, outcome_of, IsReply, IsRefusal}

-- ---- asks

-- Another open query's ask goes from this socket to this server under this ID.
abbrev pub IsInUse : List Open → ℕ → ℕ → Addr → ℕ → Type 0
IsInUse qs k sock server id = (q : Open) × Contains qs q × (q.number ≢ k) × ((q.ask).path ≡ ByUdp sock) × ((q.ask).server ≡ server) × ((q.ask).id ≡ id)

-- The first number from `from` on, modulo 2^16, that is not taken.
pub record IsRaised (taken : ℕ → Type 0) (from id : ℕ) : Type 0 where
  pub steps : ℕ
  pub is : id ≡ (from + steps) % 65536
  pub free : taken id → ⊥
  pub first : (k : ℕ) → k < steps → taken ((from + k) % 65536)

-- How query k asks a server. The socket and the ID are those of a word of the generator, the ID raised until no open
-- ask of another query is like it. An ask over TCP has a number in place of a socket, and its ID stays.
pub record IsUdpAsk (s : State) (k : ℕ) (a : Ask) : Type 0 where
  pub sock : ℕ
  pub sock_is : sock ≡ socket_of (s.site).sockets (word_of s.generator)
  pub path : a.path ≡ ByUdp sock
  pub id : IsRaised (IsInUse s.queries k sock a.server) (low_half (word_of s.generator)) a.id

pub record IsTcpAsk (s : State) (a : Ask) : Type 0 where
  pub path : a.path ≡ ByTcp s.tcp_asks
  pub id : a.id ≡ low_half (word_of s.generator)

-- ---- treatment of a query

-- The open queries without number k; and with this query in its place, if there was one.
pub record AreOthers (k : ℕ) (old new : List Open) : Type 0 where
  pub stay : (q : Open) → Contains old q → q.number ≢ k → Contains new q
  pub only : (q : Open) → Contains new q → Contains old q × (q.number ≢ k)

pub record AreWith (after : Open) (old new : List Open) : Type 0 where
  pub is : Contains new after
  pub stay : (q : Open) → Contains old q → q.number ≢ after.number → Contains new q
  pub only : (q : Open) → Contains new q → (q ≡ after) ⊎ (Contains old q × (q.number ≢ after.number))

-- Query k is over: the reply goes out, and it is no longer open.
pub record Ends (s : State) (who : ClientQuery) (k : ℕ) (o : Outcome Plain) (stores : Stores) (out : List Action) (new : State) : Type 0 where
  pub action : Action
  pub reply : IsReply who o action
  pub out_is : out ≡ action ∷ []
  pub queries : AreOthers k s.queries new.queries
  pub state : new ≡ record s { stores = stores; queries = new.queries }

-- The query's ask goes out, and it is open with this ask. A word of the generator is taken.
pub record Waits (s : State) (after : Open) (opened tcp_asks : ℕ) (stores : Stores) (out : List Action) (new : State) : Type 0 where
  pub action : Action
  pub sent : IsSent (s.site).port after.ask action
  pub out_is : out ≡ action ∷ []
  pub queries : AreWith after s.queries new.queries
  pub state : new ≡ record s { stores = stores; queries = new.queries; opened = opened; tcp_asks = tcp_asks; generator = word_taken s.generator }

-- The reply to an ask over UDP is waited for as long as its search's plan says, one over TCP for three seconds.
pub record WaitsByUdp (s : State) (who : ClientQuery) (k opened : ℕ) (server : Addr) (n : Name) (t : ℕ) (job : Job) (stores : Stores) (out : List Action) (new : State) : Type 0 where
  pub ask : Ask
  pub for : IsFor server n t ask
  pub goes : IsUdpAsk s k ask
  pub waits : Waits s (open_query k who job ask (s.clock + wait_of_job job)) opened s.tcp_asks stores out new

pub record WaitsByTcp (s : State) (who : ClientQuery) (k opened : ℕ) (server : Addr) (n : Name) (t : ℕ) (job : Job) (stores : Stores) (out : List Action) (new : State) : Type 0 where
  pub ask : Ask
  pub for : IsFor server n t ask
  pub goes : IsTcpAsk s ask
  pub waits : Waits s (open_query k who job ask (s.clock + tcp_wait)) opened (s.tcp_asks + 1) stores out new

-- The step of query k by the result of its work: an ask, or the end. `opened`: how many queries were opened then.
abbrev pub Comes : State → ClientQuery → ℕ → ℕ → Next → Job → Stores → List Action → State → Type 0
Comes s who k opened (AskUdp server n t) job stores out new = WaitsByUdp s who k opened server n t job stores out new
Comes s who k opened (AskTcp server n t) job stores out new = WaitsByTcp s who k opened server n t job stores out new
Comes s who k opened (Done chain last) job stores out new = Ends s who k (outcome_of s.clock chain last) stores out new
Comes s who k opened (Fail c) job stores out new = Ends s who k (outcome.Fail c) stores out new

-- An open query is served: by one input, and one call of its work.
pub record Serves (s : State) (q : Open) (input : Input) (out : List Action) (new : State) : Type 0 where
  pub stands : Contains s.queries q
  pub next : Next
  pub job : Job
  pub stores : Stores
  pub advances : Advances (s.site).home s.clock input q.job s.stores next job stores
  pub comes : Comes s q.client_query q.number s.opened next job stores out new

-- ---- a client's query

-- A new query is over at once; or it would have to wait, and 1,024 others do; or it is opened, under a new number.
abbrev pub IsAsk : Next → Type 0
IsAsk (AskUdp server n t) = Unit {0}
IsAsk (AskTcp server n t) = Unit {0}
IsAsk (Done chain last) = ⊥
IsAsk (Fail c) = ⊥

abbrev pub most_open : ℕ
most_open = max_open

pub data IsOpened (s : State) (who : ClientQuery) (next : Next) (job : Job) (stores : Stores) (served : Served) (out : List Action) (new : State) : Type 0 where
  at_once : served ≡ Own → (IsAsk next → ⊥) → Comes s who s.opened s.opened next job stores out new → IsOpened s who next job stores served out new
  crowded : served ≡ Own → IsAsk next → most_open ≤ length s.queries → Ends s who s.opened (outcome.Fail cause.TooManyOpen) stores out new
      → IsOpened s who next job stores served out new
  admitted : served ≡ OpenQuery s.opened → IsAsk next → length s.queries < most_open → Comes s who s.opened (s.opened + 1) next job stores out new
      → IsOpened s who next job stores served out new

-- A recursive query is resolved.
pub record Resolves (s : State) (who : ClientQuery) (served : Served) (out : List Action) (new : State) : Type 0 where
  pub next : Next
  pub job : Job
  pub stores : Stores
  pub advances : Advances (s.site).home s.clock Start (job_for s.clock who.query) s.stores next job stores
  pub opened : IsOpened s who next job stores served out new

-- A query without RD is answered by the local zones alone.
pub record AnswersAtHand (s : State) (who : ClientQuery) (served : Served) (out : List Action) (new : State) : Type 0 where
  pub served_is : served ≡ Own
  pub result : Outcome Plain
  pub answers : AnswersLocally (λ n. looked ((s.site).home).zones n (type_number (who.query).kind)) (who.query).name result
  pub action : Action
  pub reply : IsReply who result action
  pub out_is : out ≡ action ∷ []
  pub state : new ≡ s

-- A client's request is dropped, refused, or answered.
abbrev pub IsHandled : State → ℕ → Via → Request Plain → Served → List Action → State → Type 0
IsHandled s client way request.Drop served out new = (served ≡ Own) × (out ≡ []) × (new ≡ s)
IsHandled s client way (request.Refuse refusal start echo) served out new =
    (served ≡ Own) × ((action : Action) × IsRefusal client way refusal start echo action × (out ≡ action ∷ [])) × (new ≡ s)
IsHandled s client way (request.Query q) served out new =
    ((recursive q ≡ false) × AnswersAtHand s (client_query client way q) served out new)
    ⊎ ((recursive q ≡ true) × Resolves s (client_query client way q) served out new)

-- ---- an event for an open query

-- A datagram is meant for an ask that left its socket for its sender under its ID; a reply over TCP, or the
-- failure of one, for the ask of its number.
abbrev pub IsOfLine : ℕ → Endpoint → List ℕ → Open → Type 0
IsOfLine sock from bytes q = ((q.ask).path ≡ ByUdp sock) × ((q.ask).server ≡ from.address) × ((q.ask).id ≡ id_in bytes)

abbrev pub IsOfNumber : ℕ → Open → Type 0
IsOfNumber number q = (q.ask).path ≡ ByTcp number

-- The query that is due first, and the older one among equals; it is due.
pub record IsFirstDue (s : State) (q : Open) : Type 0 where
  pub stands : Contains s.queries q
  pub due : due_moment q ≤ s.clock
  pub first : (p : Open) → Contains s.queries p → (due_moment q < due_moment p) ⊎ ((due_moment q ≡ due_moment p) × (q.number ≤ p.number))

-- The input that an event is for an open query: a message that is accepted; a failure, where no reply over TCP is
-- accepted; a time-out, where its ask waited too long before its deadline.
abbrev pub IsInput : State → Event → Open → Input → Type 0
IsInput s (Client now client way bytes) q input = ⊥
IsInput s (Datagram now sock from bytes) q input =
    (m : Message) × Brings (s.site).port q.ask (Datagram now sock from bytes) m × (input ≡ Told (via_of (q.ask).path) (q.ask).server m)
IsInput s (TcpReply now number bytes) q input =
    ((m : Message) × Brings (s.site).port q.ask (TcpReply now number bytes) m × (input ≡ Told (via_of (q.ask).path) (q.ask).server m))
    ⊎ (IsOfNumber number q × ((m : Message) → Brings (s.site).port q.ask (TcpReply now number bytes) m → ⊥) × (input ≡ jobs.TcpFailed (q.ask).server))
IsInput s (TcpFailed now number) q input = IsOfNumber number q × (input ≡ jobs.TcpFailed (q.ask).server)
IsInput s (Tick now) q input = IsFirstDue s q × (s.clock < (q.job).deadline) × (input ≡ TimedOut (q.ask).server)

-- An event that is for no query. A datagram is so too where its message is not accepted.
abbrev pub IsUnfit : State → Event → Open → Type 0
IsUnfit s event q = (m : Message) → Brings (s.site).port q.ask event m → ⊥

abbrev pub IsForNobody : State → Event → Type 0
IsForNobody s (Client now client way bytes) = ⊥
IsForNobody s (Datagram now sock from bytes) =
    (from.port ≢ (s.site).port) ⊎ (length bytes < 12) ⊎ ((q : Open) → Contains s.queries q → IsOfLine sock from bytes q → ⊥)
    ⊎ ((q : Open) × Contains s.queries q × IsOfLine sock from bytes q × IsUnfit s (Datagram now sock from bytes) q)
IsForNobody s (TcpReply now number bytes) = (q : Open) → Contains s.queries q → IsOfNumber number q → ⊥
IsForNobody s (TcpFailed now number) = (q : Open) → Contains s.queries q → IsOfNumber number q → ⊥
IsForNobody s (Tick now) = (q : Open) → Contains s.queries q → s.clock < due_moment q

pub record IsIgnored (s : State) (event : Event) (served : Served) (out : List Action) (new : State) : Type 0 where
  pub served_is : served ≡ Nobody
  pub nobody : IsForNobody s event
  pub out_is : out ≡ []
  pub state : new ≡ s

-- An open query is served by the input that the event is for it.
pub record ServesOpen (s : State) (event : Event) (served : Served) (out : List Action) (new : State) : Type 0 where
  pub query : Open
  pub input : Input
  pub served_is : served ≡ OpenQuery query.number
  pub brings : IsInput s event query input
  pub serves : Serves s query input out new

-- The time of a query is up.
pub record IsLate (s : State) (served : Served) (out : List Action) (new : State) : Type 0 where
  pub query : Open
  pub served_is : served ≡ OpenQuery query.number
  pub due : IsFirstDue s query
  pub late : (query.job).deadline ≤ s.clock
  pub ends : Ends s query.client_query query.number (outcome.Fail cause.DeadlineOver) s.stores out new

-- A tick serves one query that is due, and says whether another one is.
abbrev pub SomeDue : State → Type 0
SomeDue s = (q : Open) × Contains s.queries q × (due_moment q ≤ s.clock)

abbrev pub IsFollowed : List Action → List Action → State → Type 0
IsFollowed first out new = ((out ≡ first ++ MoreDue ∷ []) × SomeDue new) ⊎ ((out ≡ first) × (SomeDue new → ⊥))

abbrev pub IsTicked : State → ℕ → Served → List Action → State → Type 0
IsTicked s now served out new =
    IsIgnored s (Tick now) served out new
    ⊎ ((first : List Action) × (IsLate s served first new ⊎ ServesOpen s (Tick now) served first new) × IsFollowed first out new)

-- ---- out of memory

-- The query that an event is for.
abbrev pub IsMeant : State → Event → Open → Type 0
IsMeant s (Client now client way bytes) q = ⊥
IsMeant s (Datagram now sock from bytes) q = (from.port ≡ (s.site).port) × IsOfLine sock from bytes q
IsMeant s (TcpReply now number bytes) q = IsOfNumber number q
IsMeant s (TcpFailed now number) q = IsOfNumber number q
IsMeant s (Tick now) q = IsFirstDue s q

-- The query is dropped without a reply. The stores stand as they did, or as its work left them on the way: the work on
-- the client's own query, or that on the open query by the event's input. A word of the generator may have been taken.
pub record IsLeft (s : State) (k : ℕ) (IsOnTheWay : Stores → Type 0) (new : State) : Type 0 where
  pub queries : AreOthers k s.queries new.queries
  pub stores : (new.stores ≡ s.stores) ⊎ IsOnTheWay new.stores
  pub generator : (new.generator ≡ s.generator) ⊎ (new.generator ≡ word_taken s.generator)
  pub state : new ≡ record s { stores = new.stores; queries = new.queries; generator = new.generator }

abbrev pub IsStarved : State → Event → Served → State → Type 0
IsStarved s (Client now client way bytes) served new =
    (served ≡ Own)
    × IsLeft s s.opened (λ stores. (q : Query Plain) × IsRequest bytes (request.Query q) × (recursive q ≡ true) × Stops (s.site).home s.clock Start (job_for s.clock q) s.stores stores) new
IsStarved s event served new =
    (q : Open) × Contains s.queries q × (served ≡ OpenQuery q.number) × IsMeant s event q
    × IsLeft s q.number (λ stores. (input : Input) × IsInput s event q input × Stops (s.site).home s.clock input q.job s.stores stores) new

-- ---- a step

abbrev pub IsTurn : State → Event → Served → Option (List Action) → State → Type 0
IsTurn s event served None new = IsStarved s event served new
IsTurn s (Client now client way bytes) served (Some out) new = (asked : Request Plain) × IsRequest bytes asked × IsHandled s client way asked served out new
IsTurn s (Tick now) served (Some out) new = IsTicked s now served out new
IsTurn s event served (Some out) new = IsIgnored s event served out new ⊎ ServesOpen s event served out new

-- The clock is at the event's moment, or was past it already. No two open queries have one number.
pub record Step (old : State) (event : Event) (served : Served) (out : Option (List Action)) (new : State) : Type 0 where
  pub turn : IsTurn (moved old event) event served out new
  pub apart : AreApart new.queries
