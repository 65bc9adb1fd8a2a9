-- Treatment of one query, in a state that is without it.
use Rattle.std.specs.Prelude.{◌≡◌, ℕ, ◌⊎◌, Option, Some, None, List, Contains}
use Rattle.wire.specs.declared.via.Via.{Via}
use Rattle.classify.specs.Read.{Reading, AreRead}
use Rattle.message_grammar.specs.Messages.{Message, encoding}
use Rattle.resolution.specs.Jobs.{Stores, Job, Input as InputSpec, Told, Next}
use Rattle.resolution.specs.Rules.{Advances}
use Rattle.resolution.specs.Stops.{Stops}
use Rattle.runs.specs.States.{Event, Action as ActionSpec, ClientQuery, Ask, ByUdp, via_of, Open, State, Served, word_taken}
use Rattle.runs.specs.Messages.{id_in, asking_message, IsSent, AnswersAsk, Brings}
use Rattle.runs.specs.Steps.{AreWith, Comes, Serves, IsLeft, IsUnfit, IsOpened}
use Rattle.open_queries.specs.Lookups.{IsTheOne, IsTaken}
use Rattle.typed.specs.declared.action.TypedAction.{TypedAction}
use Rattle.typed.specs.declared.action.TypedAction.TheVariants as said
use Rattle.engine.specs.Replies.{alone}

-- An ask goes out, and its query is open.
pub record Puts (s : State) (after : Open) (action : ActionSpec) (new : State) : Type 0 where
  pub sent : IsSent (s.site).port after.ask action
  pub queries : AreWith after s.queries new.queries
  pub state : new ≡ record s { queries = new.queries }

-- Memory ran out after a word of the generator was taken, or before.
pub record Halts (s new : State) : Type 0 where
  pub generator : (new.generator ≡ s.generator) ⊎ (new.generator ≡ word_taken s.generator)
  pub state : new ≡ record s { generator = new.generator }

-- A query's work goes on by one input, and its result goes out.
pub record Goes (s : State) (who : ClientQuery) (k : ℕ) (job : Job) (input : InputSpec) (out : List ActionSpec) (new : State) : Type 0 where
  pub next : Next
  pub after : Job
  pub stores : Stores
  pub advances : Advances (s.site).home s.clock input job s.stores next after stores
  pub comes : Comes s who k s.opened next after stores out new

-- Memory ran out in the work, or after it.
pub record Falls (s : State) (job : Job) (input : InputSpec) (new : State) : Type 0 where
  pub stores : (new.stores ≡ s.stores) ⊎ Stops (s.site).home s.clock input job s.stores new.stores
  pub generator : (new.generator ≡ s.generator) ⊎ (new.generator ≡ word_taken s.generator)
  pub state : new ≡ record s { stores = new.stores; generator = new.generator }

-- The open query of a number is served by an input; its time is up; it is dropped.
pub record ServesOne (s : State) (k : ℕ) (input : InputSpec) (out : List ActionSpec) (new : State) : Type 0 where
  pub query : Open
  pub one : IsTheOne s.queries k query
  pub serves : Serves s query input out new

pub record DropsOne (s : State) (k : ℕ) (input : InputSpec) (new : State) : Type 0 where
  pub query : Open
  pub one : IsTheOne s.queries k query
  pub left : IsLeft s k (Stops (s.site).home s.clock input query.job s.stores) new

-- The message that an event brings for an ask and that is accepted, as an input.
abbrev pub IsToldBy : ℕ → Ask → Event → InputSpec → Type 0
IsToldBy port a event input = (m : Message) × Brings port a event m × (input ≡ Told (via_of a.path) a.server m)

-- A message of this reading answers the ask.
pub record Answers (a : Ask) (r : Reading) : Type 0 where
  pub id : r.id ≡ a.id
  pub name : r.name ≡ a.name
  pub kind : r.kind ≡ a.kind

-- An event carries this one message on the way of a query's ask.
pub record Carries (port : ℕ) (event : Event) (way : Via) (m : Message) (q : Open) : Type 0 where
  pub brings : AnswersAsk q.ask m → Brings port q.ask event m
  pub only : (n : Message) → Brings port q.ask event n → AnswersAsk q.ask m
  pub way_is : way ≡ via_of (q.ask).path

-- That was read of some bytes.
abbrev pub HasBeenRead : Via → Option Reading → Type 0
HasBeenRead way o = (bytes : List ℕ) × AreRead way bytes o

-- The query of a number is taken out, and nothing else changes.
pub record Forgets (s : State) (k : ℕ) (new : State) : Type 0 where
  pub query : Open
  pub taken : IsTaken s.queries k query new.queries
  pub state : new ≡ record s { queries = new.queries }

-- The result of an event that may bring a message for the open query of a number.
pub record IsPassed (s : State) (k : ℕ) (event : Event) (new : State) : Type 0 where
  pub query : Open
  pub one : IsTheOne s.queries k query
  pub unfit : IsUnfit s event query
  pub state : new ≡ s

pub record IsServed (s : State) (k : ℕ) (event : Event) (out : List ActionSpec) (new : State) : Type 0 where
  pub query : Open
  pub one : IsTheOne s.queries k query
  pub input : InputSpec
  pub told : IsToldBy (s.site).port query.ask event input
  pub serves : Serves s query input out new

abbrev pub IsHeard : {A : Type 0} → State → ℕ → Event → Option (TypedAction A) → State → Type 0
IsHeard s k event None new = IsPassed s k event new
IsHeard s k event (Some a) new = IsServed s k event (alone a) new

pub record IsLost (s : State) (k : ℕ) (event : Event) (new : State) : Type 0 where
  pub query : Open
  pub one : IsTheOne s.queries k query
  pub left : IsLeft s k (λ stores. (input : InputSpec) × IsToldBy (s.site).port query.ask event input × Stops (s.site).home s.clock input query.job s.stores stores) new

-- A new query is opened or over, by the result of its work.
pub record Opens (s : State) (who : ClientQuery) (next : Next) (job : Job) (out : List ActionSpec) (new : State) : Type 0 where
  pub served : Served
  pub opened : IsOpened s who next job s.stores served out new

-- The ask of an open query is like this one: of one path, and over UDP of one server under one ID.
abbrev pub IsLike : Ask → Open → Type 0
IsLike a q = ((q.ask).path ≡ a.path) × ((sock : ℕ) → a.path ≡ ByUdp sock → ((q.ask).server ≡ a.server) × ((q.ask).id ≡ a.id))

-- The query whose ask is like this one is dropped, if there is one.
abbrev pub DropsAsking : Ask → State → State → Type 0
DropsAsking a s new =
    (((q : Open) → Contains s.queries q → IsLike a q → ⊥) × (new ≡ s))
    ⊎ ((q : Open) × IsLike a q × IsTaken s.queries q.number q new.queries × (new ≡ record s { queries = new.queries }))

-- What a step did for an action that is not written is taken back: for an ask its query, and the numbers that were
-- given to it; for a reply nothing.
pub record IsAskUndone (a : Ask) (opened tcp_asks : ℕ) (old new : State) : Type 0 where
  pub id : id_in (encoding (asking_message a)) ≡ a.id
  pub between : State
  pub drops : DropsAsking a old between
  pub state : new ≡ record between { opened = opened; tcp_asks = tcp_asks }

abbrev pub IsUndone : {A : Type 0} → TypedAction A → ℕ → ℕ → State → State → Type 0
IsUndone (said.Reply who o) opened tcp_asks old new = new ≡ old
IsUndone (said.Refusal client way refusal start echo) opened tcp_asks old new = new ≡ old
IsUndone (said.Ask port a) opened tcp_asks old new = IsAskUndone a opened tcp_asks old new
