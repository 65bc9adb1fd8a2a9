-- The code's typed events, seen as plain values, and its typed actions, seen as the actions that are written of them.
use Rattle.std.specs.Prelude.{Bool, Option, Some, None, List, ◌∷◌}
use Rattle.classify.specs.Views.{reading_view, read_view}
use Rattle.runs.specs.States.{Action}
use Rattle.events.specs.Paths.{endpoint_view}
use Rattle.events.specs.Plain.{plain_asked, plain_outcome}
use Rattle.events.specs.Views.{due_listed}
use Rattle.typed.specs.Events as plain
use Rattle.typed.specs.Actions.{replied, refused, asked}
use Rattle.typed.specs.declared.event.Parsed.{Parsed}
use Rattle.typed.specs.declared.event.Parsed.TheVariants as parsed
use Rattle.typed.specs.declared.action.TypedAction.{TypedAction}
use Rattle.typed.specs.declared.action.TypedAction.TheVariants as said

abbrev pub parsed_view : {A : Type 0} → Parsed A → plain.Parsed
parsed_view (parsed.Client now client way request) = plain.Client now client way (plain_asked request)
parsed_view (parsed.Datagram now sock from reading) = plain.Datagram now sock (endpoint_view from) (reading_view reading)
parsed_view (parsed.TcpReply now number reading) = plain.TcpReply now number (read_view reading)
parsed_view (parsed.TcpFailed now number) = plain.TcpFailed now number
parsed_view (parsed.Tick now) = plain.Tick now

abbrev pub said_view : {A : Type 0} → TypedAction A → Action
said_view (said.Reply who o) = replied who (plain_outcome o)
said_view (said.Refusal client way refusal start echo) = refused client way refusal start echo
said_view (said.Ask port a) = asked port a

-- One action at most, and then whether another query is due.
abbrev pub said_listed : {A : Type 0} → Option (TypedAction A) → Bool → List Action
said_listed None due = due_listed due
said_listed (Some action) due = said_view action ∷ due_listed due
