-- What a step is, and what it keeps of all that came before.
use Rattle.std.specs.Prelude.{Option, Some, None, Result, List, ◌∷◌, MatchResult}
use Rattle.memory.specs.declared.Starved.{Starved}
use Rattle.world_truth.specs.Worlds.{World, IsWorld}
use Rattle.runs.specs.States.{Site}
use Rattle.laws.specs.Headline.{IsHomeIn}
use Rattle.network.specs.Networks.{NetworkEvent, NetworkAction, Network, NetworkStep}
use Rattle.network.specs.Laws.{Line, NetworkRun, Throughout, RepliesAreRight, IsResolverRun}
use Rattle.simnet.specs.declared.event.SimEvent.{SimEvent}
use Rattle.simnet.specs.Views.{sim_event_view}

-- What a machine of it may do: a step, also where memory was wanting.
abbrev pub Moves : {A : Type 0} → Network → SimEvent A → Result (List NetworkAction) Starved → Network → Type 0
Moves s event result new = MatchResult result (λ out. NetworkStep s (sim_event_view event) (Some out) new) (λ _. NetworkStep s (sim_event_view event) None new)

-- Whatever lines of a well formed world, whose local zones and hints are the resolver's, led to this network:
-- the replies of the line that comes now are right, and those of all lines before it.
abbrev pub StaysRight : Network → NetworkEvent → Option (List NetworkAction) → Type 0
StaysRight s event out = (W : World) (site : Site) (past : List Line) → IsWorld W → IsHomeIn W site.home → NetworkRun W site past s
    → Throughout (RepliesAreRight W) (record { event = event; out = out } ∷ past)

-- And with the line that comes now they are a run of the resolver, which tells what query each reply is to.
abbrev pub StaysRun : Network → NetworkEvent → Option (List NetworkAction) → Network → Type 0
StaysRun s event out new = (W : World) (site : Site) (past : List Line) → IsWorld W → IsHomeIn W site.home → NetworkRun W site past s
    → IsResolverRun W site (record { event = event; out = out } ∷ past) new
