-- The new resolver from which a run's steps lead, and what stays of it: the capacity of each store.
use Rattle.std.specs.Prelude.{◌≡◌, ℕ, List, [], ◌∷◌}
use Rattle.resolution.specs.Jobs.{Stores}
use Rattle.runs.specs.States.{Turn, Site, State}
use Rattle.runs.specs.Runs.{Run}

abbrev pub first_of : (site : Site) (run : List Turn) (s : State) → Run site run s → State
first_of site [] s new = s
first_of site (t ∷ past) s (old, legal, step) = first_of site past old legal

abbrev pub room_of : Stores → List ℕ
room_of stores = stores.cache_cap ∷ stores.delegations_cap ∷ stores.penalties_cap ∷ stores.failures_cap ∷ []

abbrev pub HasFirstRoom : (site : Site) (run : List Turn) (s : State) → Run site run s → Type 0
HasFirstRoom site run s legal = room_of s.stores ≡ room_of (first_of site run s legal).stores

abbrev pub RoomStays : Type 0
RoomStays = (site : Site) (run : List Turn) (s : State) (legal : Run site run s) → HasFirstRoom site run s legal
