use Rattle.std.proofs.Common.{◌∙◌, sym, ap, subst, IfOk, MatchOption}
use Rattle.runs.specs.States.{Event, Datagram}
use Rattle.events.specs.Paths.{endpoint_view}
use Rattle.events.specs.Views.{event_view}
use Rattle.typed.specs.Events.{ReadAs, RepliesToNone}
use Rattle.typed.specs.Views.{parsed_view}
use Rattle.typed.proofs.event.parse.Goals as goal

pub returns-in-Datagram : goal.returns-in-Datagram
returns-in-Datagram g c =
    subst (λ (e : Event). IfOk c.parse_datagram.result (λ o. MatchOption o (RepliesToNone e) (λ p. ReadAs e (parsed_view p))))
    (ap (Datagram c.in-Datagram.moment c.in-Datagram.socket (endpoint_view c.in-Datagram.from)) c.as_slice-in-Datagram.ensures.is
    ∙ sym (ap event_view c.in-Datagram.is))
    c.parse_datagram.ensures
