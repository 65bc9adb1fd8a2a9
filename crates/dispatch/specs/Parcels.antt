-- What is handed over on its way out.
use Rattle.std.specs.Prelude.{◌≡◌, ℕ, List, [], ◌∷◌, ◌++◌, Option, Some, IfSome}
use Rattle.events.specs.declared.action.Action.{Action}
use Rattle.events.specs.declared.path.Endpoint.{Endpoint}
use Rattle.events.specs.Views.{action_view, bytes_in}
use Rattle.dispatch.specs.Targets.{target}
use Rattle.dispatch.specs.declared.destinations.Destination.{Destination}
use Rattle.dispatch.specs.declared.destinations.Destination.TheVariants.{Worker}

-- Bytes, and where they go.
pub record Parcel : Type 0 where
  pub to : Destination
  pub bytes : List ℕ

abbrev pub parcel : Destination → List ℕ → Parcel
parcel to bytes = record { to = to; bytes = bytes }

-- An action's bytes, to where it goes.
abbrev pub parcel_of : {A : Type 0} → Action A → Parcel
parcel_of a = parcel (target a) (bytes_in (action_view a))

-- Of what was handed over before, where it is known, this parcel comes behind.
abbrev pub Adds : Option (List Parcel) → Parcel → Option (List Parcel) → Type 0
Adds old p new = IfSome old (λ ps. new ≡ Some (ps ++ p ∷ []))

-- It goes to a worker under this number.
abbrev pub IsWorker : Destination → ℕ → Type 0
IsWorker to number = (server : Endpoint) × (to ≡ Worker number server)

-- This ask over TCP was refused, and nothing was handed over.
pub record IsTcpAskRefused {A : Type 0} (a : Action A) (number : ℕ) (old new : Option (List Parcel)) : Type 0 where
  pub asks : IsWorker (target a) number
  pub kept : new ≡ old
