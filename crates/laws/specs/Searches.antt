-- The question of a query's open ask, over every run.
use Rattle.std.specs.Prelude.{◌≡◌, ℕ, List, [], ◌∷◌, Contains}
use Rattle.dname.specs.Labels.{Name}
use Rattle.resolution.specs.Jobs.{Job, Search}
use Rattle.runs.specs.States.{Turn, Open, Site, State}
use Rattle.runs.specs.Runs.{Run}

-- The open ask of a query is for the name and the type of its innermost search. With no search around it these are the
-- name that the query's chain leads to and the query's type.
pub record IsOfSearch (q : Open) : Type 0 where
  pub sought : Search
  pub others : List Search
  pub searches : (q.job).searches ≡ sought ∷ others
  pub name : (q.ask).name ≡ sought.name
  pub kind : (q.ask).kind ≡ sought.kind
  pub own : others ≡ [] → (sought.name ≡ (q.job).name) × (sought.kind ≡ (q.job).kind)

abbrev pub AreOfSearches : List Open → Type 0
AreOfSearches queries = (q : Open) → Contains queries q → IsOfSearch q

abbrev pub AskIsOfSearch : Type 0
AskIsOfSearch = (site : Site) (run : List Turn) (s : State) → Run site run s → AreOfSearches s.queries

-- ---- what the states of a resolver keep of it

-- The outermost of these searches, the last one, is for this name and type.
abbrev pub IsOutermost : Name → ℕ → List Search → Type 0
IsOutermost n t [] = Unit {0}
IsOutermost n t (s ∷ []) = (s.name ≡ n) × (s.kind ≡ t)
IsOutermost n t (s ∷ o ∷ rest) = IsOutermost n t (o ∷ rest)

-- The innermost search of a job is for this name and type, and the outermost one for those of the job.
pub record Seeks (n : Name) (t : ℕ) (new : Job) : Type 0 where
  pub sought : Search
  pub others : List Search
  pub searches : new.searches ≡ sought ∷ others
  pub name : sought.name ≡ n
  pub kind : sought.kind ≡ t
  pub outermost : IsOutermost new.name new.kind (sought ∷ others)

pub record IsSought (q : Open) : Type 0 where
  pub found : Seeks (q.ask).name (q.ask).kind q.job

abbrev pub AreSought : List Open → Type 0
AreSought queries = (q : Open) → Contains queries q → IsSought q
