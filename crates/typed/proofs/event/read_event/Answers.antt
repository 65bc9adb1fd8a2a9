use Rattle.events.specs.Views.{event_view}
use Rattle.typed.proofs.event.read_event.Goals as goal

pub invariant_of-result : goal.invariant_of-result
invariant_of-result g c = record { event = event_view c.args.event.now; reads = rw c.in-Some.is at c.in_ok-parsed.ensures }
