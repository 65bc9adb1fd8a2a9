-- A step is determined: a state of a run and an event have one outcome.
use Rattle.std.specs.Prelude.{◌≡◌, ◌≢◌, ℕ, Some, None, List, [], Contains}
use Rattle.dname.specs.Labels.{Name}
use Rattle.referral.specs.Cuts.{Known}
use Rattle.lru_laws.specs.Orders.{HasSame}
use Rattle.resolution.specs.Jobs.{Home, Stores, Job, Input, Next}
use Rattle.resolution.specs.Rules.{Advances}
use Rattle.runs.specs.States.{Event, Action, Served, Turn, Site, State}
use Rattle.runs.specs.Steps.{IsAsk, Step}
use Rattle.runs.specs.Runs.{Run}
use Rattle.laws.specs.Looks.{call_looks, step_looks}

-- ---- one call

-- Each delegation stands under a name. Even the root's has a label, the empty one.
abbrev pub AreNamed : List (Name × Known) → Type 0
AreNamed es = (n : Name) (k : Known) → Contains es (n, k) → n ≢ []

-- One input to one job over the same stores has one result, after which the stores are the same; and where the query
-- waits for an ask, so is the job. The rules by which it comes are the same in what they cache and find in the cache.
abbrev pub OneCall : Type 0
OneCall =
    (home : Home) (now : ℕ) (input : Input) (old : Job) (stores : Stores) (next other : Next) (new also : Job) (after left : Stores) → AreNamed stores.delegations
    → (a : Advances home now input old stores next new after) → (b : Advances home now input old stores other also left)
    → (other ≡ next) × (left ≡ after) × (IsAsk next → also ≡ new)
    × (call_looks home now input old stores other also left b ≡ call_looks home now input old stores next new after a)

-- ---- one step

-- The same state, in which open queries may stand in another order.
pub record IsSameState (a b : State) : Type 0 where
  pub queries : HasSame a.queries b.queries
  pub others : b ≡ record a { queries = b.queries }

-- Every other step from this state by this event that does not run out of memory serves the same query, gives the same
-- actions and leads to the same state.
abbrev pub IsOneOutcome : State → Event → Served → List Action → State → Type 0
IsOneOutcome old event served out new =
    (instead : Served) (given : List Action) (also : State) → Step old event instead (Some given) also → (instead ≡ served) × (given ≡ out) × IsSameState new also

abbrev pub HasOneOutcome : State → Turn → State → Type 0
HasOneOutcome old t new = (out : List Action) → t.out ≡ Some out → IsOneOutcome old t.event t.served out new

-- A step that does not run out of memory has one outcome.
abbrev pub OneStep : Type 0
OneStep =
    (site : Site) (past : List Turn) (old : State) (event : Event) (served : Served) (out : List Action) (new : State) → Run site past old
    → Step old event served (Some out) new → IsOneOutcome old event served out new

-- ---- one reading

-- Whichever rules lead to a step's outcome, it caches the same answer, and has the same hits in the cache.
abbrev pub IsOneReading : (old : State) (t : Turn) (new : State) → Step old t.event t.served t.out new → Type 0
IsOneReading old t new step = (also : State) (again : Step old t.event t.served t.out also) → t.out ≢ None → step_looks old t also again ≡ step_looks old t new step

abbrev pub OneReading : Type 0
OneReading = (site : Site) (past : List Turn) (old : State) (t : Turn) (new : State) → Run site past old → (step : Step old t.event t.served t.out new) → IsOneReading old t new step
