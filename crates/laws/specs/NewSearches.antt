-- Where the searches of a query come from. Each one that the query has after a step stood before it, is at the cut of a
-- referral that the step accepts, or is a frame that opens in the step.
use Rattle.std.specs.Prelude.{◌≡◌, ℕ, ◌⊎◌, Some, List, ◌∷◌, ◌++◌, Contains}
use Rattle.dname.specs.Labels.{Name}
use Rattle.rdata.specs.Records.{Record}
use Rattle.rdata.specs.declared.addr.Addr.{Addr}
use Rattle.classify.specs.Classes as class
use Rattle.retry.specs.Plans.{by_penalty}
use Rattle.referral.specs.Cuts.{Cut}
use Rattle.frames.specs.Frames.{opened}
use Rattle.resolution.specs.Jobs.{level_of, IsCutOf, Search, search_at, with_frame}
use Rattle.runs.specs.States.{OpenQuery, Turn, Open, Site, State, moved}
use Rattle.runs.specs.Steps.{Step}
use Rattle.runs.specs.Runs.{Run}
use Rattle.laws.specs.Calls.{Opening}
use Rattle.laws.specs.Opens.{Call, step_call, Opens}
use Rattle.laws.specs.Steps.{AcceptsAs}

-- A search that goes on. Its question, its zone and its servers' names are the same. It has the addresses that it had
-- and the same order of asking; or addresses of such names were added, and the last of them are asked by the penalties.
pub record GoesOn (level : Addr → ℕ) (old new : Search) : Type 0 where
  pub name : new.name ≡ old.name
  pub kind : new.kind ≡ old.kind
  pub nesting : (new.frame).nesting ≡ (old.frame).nesting
  pub zone : (new.frame).zone ≡ (old.frame).zone
  pub names : (new.frame).names ≡ (old.frame).names
  pub plan :
      (((new.frame).addresses ≡ (old.frame).addresses) × (((new.frame).plan).order ≡ ((old.frame).plan).order))
      ⊎ ((earlier : List Addr) × (last : List Addr) × ((new.frame).addresses ≡ (old.frame).addresses ++ (earlier ++ last)) × (((new.frame).plan).order ≡ by_penalty level last))

-- The query had this search before the step.
abbrev pub HadSearch : State → ℕ → Search → Type 0
HadSearch old k s = (p : Open) × Contains old.queries p × (p.number ≡ k) × Contains (p.job).searches s

-- The step accepts a referral for the innermost search, and this is the search at its cut.
abbrev pub IsReferralSearch : Site → State → Turn → ℕ → (Addr → ℕ) → Search → Type 0
IsReferralSearch site old t k level s =
    (p : Open) × (sought : Search) × (others : List Search) × (at : Name) × (ns : List Record) × (glue : List Record) × (ttl : ℕ) × (c : Cut)
    × Contains old.queries p × (p.number ≡ k) × ((p.job).searches ≡ sought ∷ others)
    × AcceptsAs site t p sought (class.Referral at ns glue ttl) × IsCutOf at ns glue c × (s ≡ with_frame sought (opened level (sought.frame).nesting c))

-- The search as a frame opens it.
abbrev pub opened_search : (Addr → ℕ) → Opening → Search
opened_search level frame = search_at frame.name frame.kind (opened level frame.nesting frame.cut)

abbrev pub IsOpenedSearch : (old : State) (t : Turn) (new : State) → Step old t.event t.served t.out new → (Addr → ℕ) → Search → Type 0
IsOpenedSearch old t new step level s =
    (call : Call (moved old t.event)) × (step_call old t new step ≡ Some call) × ((frame : Opening) × Opens (moved old t.event) call frame × (s ≡ opened_search level frame))

-- Each search of the query that a step serves is so, with a plan by the penalties as the step leaves them.
abbrev pub SearchesCome : (site : Site) (old : State) (t : Turn) (new : State) → Step old t.event t.served t.out new → Type 0
SearchesCome site old t new step =
    (q : Open) → Contains new.queries q → t.served ≡ OpenQuery q.number → (shown : Search) → Contains (q.job).searches shown
    → (s : Search)
    × (HadSearch old q.number s ⊎ (IsReferralSearch site old t q.number (level_of new.stores) s ⊎ IsOpenedSearch old t new step (level_of new.stores) s))
    × GoesOn (level_of new.stores) s shown

abbrev pub NewIsOpened : Type 0
NewIsOpened = (site : Site) (past : List Turn) (old : State) (t : Turn) (new : State) → Run site past old → (step : Step old t.event t.served t.out new) → SearchesCome site old t new step
