-- The laws that the functions of this crate state.
use Rattle.std.specs.Prelude.{◌≡◌, ℕ, List, Contains}
use Rattle.message_grammar.specs.Messages.{Message}
use Rattle.runs.specs.States.{Event, Client, Datagram, TcpReply, TcpFailed, Tick, OpenQuery, Turn, Open, Site, State}
use Rattle.runs.specs.Messages.{Brings}
use Rattle.runs.specs.Steps.{IsOfNumber, Step}
use Rattle.runs.specs.Runs.{Run, clock_of}

-- The resolver's clock is the run's, and its site is the one that it started with.
abbrev pub IsAtClockOf : Site → List Turn → State → Type 0
IsAtClockOf site run s = (s.clock ≡ clock_of run) × (s.site ≡ site)

abbrev pub ClockOfRun : Type 0
ClockOfRun = (site : Site) (run : List Turn) (s : State) → Run site run s → IsAtClockOf site run s

-- No message that fits an open ask is ignored: its query is served, and no other.
abbrev pub HearsAccepted : Site → State → Turn → Type 0
HearsAccepted site old t = (q : Open) (m : Message) → Contains old.queries q → Brings site.port q.ask t.event m → t.served ≡ OpenQuery q.number

abbrev pub AcceptedIsHeard : Type 0
AcceptedIsHeard = (site : Site) (past : List Turn) (old : State) (t : Turn) (new : State) → Run site past old → Step old t.event t.served t.out new → HearsAccepted site old t

-- A reply over TCP under this number, or the failure of that ask.
abbrev pub IsForTcp : ℕ → Event → Type 0
IsForTcp number (Client now client way bytes) = ⊥
IsForTcp number (Datagram now sock from bytes) = ⊥
IsForTcp number (TcpReply now other bytes) = other ≡ number
IsForTcp number (TcpFailed now other) = other ≡ number
IsForTcp number (Tick now) = ⊥

-- Any end of an open ask over TCP serves its query, and no other.
abbrev pub HearsTcp : State → Turn → Type 0
HearsTcp old t = (q : Open) (number : ℕ) → Contains old.queries q → IsOfNumber number q → IsForTcp number t.event → t.served ≡ OpenQuery q.number

abbrev pub TcpIsHeard : Type 0
TcpIsHeard = (site : Site) (past : List Turn) (old : State) (t : Turn) (new : State) → Run site past old → Step old t.event t.served t.out new → HearsTcp old t
