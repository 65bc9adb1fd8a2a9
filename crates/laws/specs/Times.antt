-- How long servers are asked for a query.
use Rattle.std.specs.Prelude.{◌≡◌, ℕ, ◌+◌, ◌<◌, true, List, ◌∷◌}
use Rattle.limits.specs.Limits.{query_lifetime}
use Rattle.runs.specs.States.{Action, OpenQuery, Turn, ClientQuery, Site, State}
use Rattle.runs.specs.Runs.{Run, Earlier, Always, GivesOut, Came, clock_of, is_ask}

-- The query came before this moment by less than ten seconds.
abbrev pub CameLately : ℕ → ℕ → Turn → List Turn → Type 0
CameLately k now u before = ((who : ClientQuery) × Came (OpenQuery k) who u before) × (now < clock_of (u ∷ before) + query_lifetime)

-- Nothing is sent for a query once ten seconds have passed since it came, whatever comes.
abbrev pub IsInTime : ℕ → Turn → List Turn → Type 0
IsInTime k t past = t.served ≡ OpenQuery k → (action : Action) → GivesOut t.out action → is_ask action ≡ true → Earlier (CameLately k (clock_of (t ∷ past))) (t ∷ past)

abbrev pub NothingIsLate : Type 0
NothingIsLate = (site : Site) (run : List Turn) (s : State) → Run site run s → (k : ℕ) → Always (IsInTime k) run
