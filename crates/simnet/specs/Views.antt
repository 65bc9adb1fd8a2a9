-- Events and actions of a network as plain values.
use Rattle.std.specs.Prelude.{Bool, true, false, Option, Some, None, List, [], ◌∷◌}
use Rattle.network.specs.Networks.{NetworkEvent, Client, Carry, CarryTruncated, CarryTcp, Lose, Tick, NetworkAction, Reply, WasSent, WasAsked, MoreDue}
use Rattle.simnet.specs.declared.event.SimEvent.{SimEvent}
use Rattle.simnet.specs.declared.event.SimEvent.TheVariants as happens
use Rattle.simnet.specs.declared.action.SimAction.{SimAction}
use Rattle.simnet.specs.declared.action.SimAction.TheVariants as done

abbrev pub sim_event_view : {A : Type 0} → SimEvent A → NetworkEvent
sim_event_view (happens.Client now client way bytes) = Client now client way bytes
sim_event_view (happens.Carry now k) = Carry now k
sim_event_view (happens.CarryTruncated now k) = CarryTruncated now k
sim_event_view (happens.CarryTcp now k) = CarryTcp now k
sim_event_view (happens.Lose now k) = Lose now k
sim_event_view (happens.Tick now) = Tick now

abbrev pub sim_action_view : {A : Type 0} → SimAction A → NetworkAction
sim_action_view (done.Reply client way bytes cause) = Reply client way bytes cause
sim_action_view (done.Sent k) = WasSent k
sim_action_view (done.Asked k) = WasAsked k

-- One action at most, and then whether another query is due.
abbrev pub due_listed : Bool → List NetworkAction
due_listed true = MoreDue ∷ []
due_listed false = []

abbrev pub listed : {A : Type 0} → Option (SimAction A) → Bool → List NetworkAction
listed None due = due_listed due
listed (Some action) due = sim_action_view action ∷ due_listed due
