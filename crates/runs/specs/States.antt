-- Events and actions of the resolver, and its state between two steps. Moments are milliseconds.
use Rattle.std.specs.Prelude.{◌≡◌, ◌≢◌, ℕ, ◌/◌, ◌%◌, min, max, Bool, Option, List, [], ◌∷◌, Contains}
use Rattle.limits.specs.Limits.{latest_moment}
use Rattle.dname.specs.Labels.{Name}
use Rattle.rdata.specs.declared.addr.Addr.{Addr}
use Rattle.rdata.specs.Types.{type_number}
use Rattle.causes.specs.declared.cause.Cause.{Cause}
use Rattle.wire.specs.declared.via.Via.{Via}
use Rattle.wire.specs.declared.via.Via.TheVariants as via
use Rattle.front.specs.declared.queries.Query.{Query}
use Rattle.rand_chacha.specs.ChaCha.{ChaCha, next_word, of_seed}
use Rattle.resolution.specs.Jobs.{Home, Stores, Job, job_at}

-- ---- events and actions

-- A server's address and port.
pub record Endpoint : Type 0 where
  pub address : Addr
  pub port : ℕ

abbrev pub endpoint : Addr → ℕ → Endpoint
endpoint address port = record { address = address; port = port }

-- An event, with the moment at which it came. These are a client's bytes, with its number and its way; a datagram at a
-- socket; the reply to an ask over TCP, and the failure of one, by its number; a tick.
pub data Event : Type 0 where
  Client : ℕ → ℕ → Via → List ℕ → Event
  Datagram : ℕ → ℕ → Endpoint → List ℕ → Event
  TcpReply : ℕ → ℕ → List ℕ → Event
  TcpFailed : ℕ → ℕ → Event
  Tick : ℕ → Event

-- An action. These are a reply to a client, with the cause of a SERVFAIL; a datagram from a socket; an ask over TCP
-- with its number; word that another query is due.
pub data Action : Type 0 where
  Reply : ℕ → Via → List ℕ → Option Cause → Action
  Send : ℕ → Endpoint → List ℕ → Action
  TcpAsk : ℕ → Endpoint → List ℕ → Action
  MoreDue : Action

-- Moments above 2^62 count as 2^62.
abbrev pub latest : ℕ
latest = latest_moment

abbrev pub told_moment : Event → ℕ
told_moment (Client now client way bytes) = now
told_moment (Datagram now sock from bytes) = now
told_moment (TcpReply now number bytes) = now
told_moment (TcpFailed now number) = now
told_moment (Tick now) = now

abbrev pub moment : Event → ℕ
moment e = min (told_moment e) latest

-- Which query a step serves: none; the one of its own client, which is over in this step; an open one, by its number.
pub data Served : Type 0 where
  Nobody : Served
  Own : Served
  OpenQuery : ℕ → Served

-- A step of a run: its event, which query was served, and what went out; `None`: memory ran out.
pub record Turn : Type 0 where
  pub event : Event
  pub served : Served
  pub out : Option (List Action)

-- ---- open queries

-- Queries and outcomes without an allocator.
abbrev pub Plain : Type 0
Plain = Unit {0}

-- A query with its client: the client's number, its way, and the query as it was read.
pub record ClientQuery : Type 0 where
  pub client : ℕ
  pub way : Via
  pub query : Query Plain

abbrev pub client_query : ℕ → Via → Query Plain → ClientQuery
client_query client way q = record { client = client; way = way; query = q }

-- RD: the client wants the answer found for it (RFC 1034, section 4.3.1).
abbrev pub recursive : Query Plain → Bool
recursive q = (q.start).rd

-- The work on a new query.
abbrev pub job_for : ℕ → Query Plain → Job
job_for now q = job_at q.name (type_number q.kind) now

-- The way of an ask: from a socket, or over TCP under a number.
pub data Path : Type 0 where
  ByUdp : ℕ → Path
  ByTcp : ℕ → Path

abbrev pub via_of : Path → Via
via_of (ByUdp sock) = via.Udp
via_of (ByTcp number) = via.Tcp

-- An ask: the server, the ID, the name and the type.
pub record Ask : Type 0 where
  pub path : Path
  pub server : Addr
  pub id : ℕ
  pub name : Name
  pub kind : ℕ

-- This server is asked for this name and type.
pub record IsFor (to : Addr) (n : Name) (t : ℕ) (a : Ask) : Type 0 where
  pub server : a.server ≡ to
  pub name : a.name ≡ n
  pub kind : a.kind ≡ t

-- A query that waits for the answer to its one open ask, until the moment `due`.
pub record Open : Type 0 where
  pub number : ℕ
  pub client_query : ClientQuery
  pub job : Job
  pub ask : Ask
  pub due : ℕ

abbrev pub open_query : ℕ → ClientQuery → Job → Ask → ℕ → Open
open_query number who job ask due = record { number = number; client_query = who; job = job; ask = ask; due = due }

-- A query is due when the wait for its ask is over, or its time is up.
abbrev pub due_moment : Open → ℕ
due_moment q = min q.due (q.job).deadline

-- No two queries have one number.
abbrev pub AreApart : List Open → Type 0
AreApart [] = Unit {0}
AreApart (q ∷ qs) = ((p : Open) → Contains qs p → p.number ≢ q.number) × AreApart qs

-- ---- states

-- The parts of a resolver that no step changes: local zones and hints, the port at which servers are asked, and the
-- number of its sockets.
pub record Site : Type 0 where
  pub home : Home
  pub port : ℕ
  pub sockets : ℕ

-- `opened` and `tcp_asks`: how many queries were opened and how many asks went over TCP, and so the number of the
-- next. `generator`: gives a word for each ask.
pub record State : Type 0 where
  pub site : Site
  pub clock : ℕ
  pub stores : Stores
  pub queries : List Open
  pub opened : ℕ
  pub tcp_asks : ℕ
  pub generator : ChaCha

-- The state with its clock at the event's moment; the clock never goes back.
abbrev pub moved : State → Event → State
moved s e = record s { clock = max s.clock (moment e) }

-- A resolver that has done nothing yet.
pub record IsNew (here : Site) (s : State) : Type 0 where
  pub site : s.site ≡ here
  pub clock : s.clock ≡ 0
  pub cache : (s.stores).cache ≡ []
  pub delegations : (s.stores).delegations ≡ []
  pub penalties : (s.stores).penalties ≡ []
  pub failures : (s.stores).failures ≡ []
  pub queries : s.queries ≡ []
  pub opened : s.opened ≡ 0
  pub tcp_asks : s.tcp_asks ≡ 0
  pub seeded : (seed : List ℕ) × (s.generator ≡ of_seed seed)

-- ---- the generator's words (ChaCha20: ten double rounds)

abbrev pub word_of : ChaCha → ℕ
word_of g = (next_word 10 g).0

abbrev pub word_taken : ChaCha → ChaCha
word_taken g = (next_word 10 g).1

-- A word's low half is the ID, its high half chooses the socket.
abbrev pub low_half : ℕ → ℕ
low_half w = w % 65536

abbrev pub socket_of : ℕ → ℕ → ℕ
socket_of sockets w = w / 65536 % sockets
