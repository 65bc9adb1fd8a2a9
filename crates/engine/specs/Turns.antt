-- Treatment of an event, whichever query is served.
use Rattle.std.specs.Prelude.{◌≢◌, ◌<◌, ◌⊎◌, Option, List, length, Contains}
use Rattle.runs.specs.States.{Event, Client, Datagram, TcpReply, TcpFailed, Tick, Action, Served, Open, due_moment, State}
use Rattle.runs.specs.Steps.{IsOfLine, IsOfNumber, IsTurn}

pub record Turns (s : State) (event : Event) (out : Option (List Action)) (new : State) : Type 0 where
  pub served : Served
  pub turn : IsTurn s event served out new

-- Events that take no memory: bytes without room for a header, a datagram or a reply for no open ask, a tick with
-- nothing due.
abbrev pub IsQuiet : State → Event → Type 0
IsQuiet s (Client now client way bytes) = length bytes < 12
IsQuiet s (Datagram now sock from bytes) =
    (from.port ≢ (s.site).port) ⊎ (length bytes < 12) ⊎ ((q : Open) → Contains s.queries q → IsOfLine sock from bytes q → ⊥)
IsQuiet s (TcpReply now number bytes) = (q : Open) → Contains s.queries q → IsOfNumber number q → ⊥
IsQuiet s (TcpFailed now number) = (q : Open) → Contains s.queries q → IsOfNumber number q → ⊥
IsQuiet s (Tick now) = (q : Open) → Contains s.queries q → s.clock < due_moment q
