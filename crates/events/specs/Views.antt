-- Events and actions as plain values.
use Rattle.std.specs.Prelude.{ℕ, Bool, true, false, Option, Some, None, List, [], ◌∷◌}
use Rattle.runs.specs.States.{Event as EventSpec, Client, Datagram, TcpReply, TcpFailed, Tick, Action as ActionSpec, Reply, Send, TcpAsk, MoreDue}
use Rattle.events.specs.Paths.{endpoint_view}
use Rattle.events.specs.declared.event.Event.{Event}
use Rattle.events.specs.declared.event.Event.TheVariants as told
use Rattle.events.specs.declared.action.Action.{Action}
use Rattle.events.specs.declared.action.Action.TheVariants as said

abbrev pub event_view : {A : Type 0} → Event A → EventSpec
event_view (told.Client now client way bytes) = Client now client way bytes
event_view (told.Datagram now sock from bytes) = Datagram now sock (endpoint_view from) bytes
event_view (told.TcpReply now number bytes) = TcpReply now number bytes
event_view (told.TcpFailed now number) = TcpFailed now number
event_view (told.Tick now) = Tick now

abbrev pub action_view : {A : Type 0} → Action A → ActionSpec
action_view (said.Reply client way bytes cause) = Reply client way bytes cause
action_view (said.Send sock to bytes) = Send sock (endpoint_view to) bytes
action_view (said.TcpAsk number to bytes) = TcpAsk number (endpoint_view to) bytes

-- The bytes that go out.
abbrev pub bytes_in : ActionSpec → List ℕ
bytes_in (Reply client way bytes cause) = bytes
bytes_in (Send sock to bytes) = bytes
bytes_in (TcpAsk number to bytes) = bytes
bytes_in MoreDue = []

-- One action at most, and then whether another query is due.
abbrev pub due_listed : Bool → List ActionSpec
due_listed true = MoreDue ∷ []
due_listed false = []

abbrev pub listed : {A : Type 0} → Option (Action A) → Bool → List ActionSpec
listed None due = due_listed due
listed (Some action) due = action_view action ∷ due_listed due
