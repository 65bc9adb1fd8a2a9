-- What is to follow an event of a network: the reply to each ask that went out is carried.
use Rattle.std.specs.Prelude.{◌≡◌, ℕ, Option, Result, Ok, Err, List, [], ◌∷◌, option_to_list}
use Rattle.network.specs.Networks.{NetworkAction, Reply, WasSent, WasAsked, MoreDue}
use Rattle.simnet.specs.declared.event.SimEvent.{SimEvent}
use Rattle.simnet.specs.declared.event.SimEvent.TheVariants.{Client, Carry, CarryTruncated, CarryTcp, Lose, Tick}
use Rattle.storm.specs.declared.query.StormQuery.{StormQuery}

-- The event of what a worker asks.
abbrev pub asked : {A : Type 0} → StormQuery A → SimEvent A
asked q = Client q.moment q.client q.way q.bytes

abbrev pub moment_of : {A : Type 0} → SimEvent A → ℕ
moment_of (Client now client way bytes) = now
moment_of (Carry now k) = now
moment_of (CarryTruncated now k) = now
moment_of (CarryTcp now k) = now
moment_of (Lose now k) = now
moment_of (Tick now) = now

-- The reply to each ask is carried by the way of the ask, in the order of the asks.
abbrev pub carries : {A : Type 0} → ℕ → List NetworkAction → List (SimEvent A)
carries now [] = []
carries now (Reply client way bytes cause ∷ out) = carries now out
carries now (WasSent k ∷ out) = Carry now k ∷ carries now out
carries now (WasAsked k ∷ out) = CarryTcp now k ∷ carries now out
carries now (MoreDue ∷ out) = carries now out

abbrev pub follow_ups_of : {A E : Type 0} → SimEvent A → Result (List NetworkAction) E → List (SimEvent A)
follow_ups_of event (Ok out) = carries (moment_of event) out
follow_ups_of event (Err error) = []

abbrev pub is_follow_up : {A : Type 0} → ℕ → List NetworkAction → Option (SimEvent A) → Type 0
is_follow_up now out follow_up = option_to_list follow_up ≡ carries now out
