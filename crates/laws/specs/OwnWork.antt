-- The stores after a step in which memory ran out: nothing moves in them but by this query's own work.
use Rattle.std.specs.Prelude.{◌≡◌, ℕ, zero, suc, ◌⊎◌, true, None, List, ◌∷◌, Contains}
use Rattle.dname.specs.Labels.{Name}
use Rattle.rdata.specs.declared.addr.Addr.{Addr}
use Rattle.wire.specs.declared.via.Via.{Via}
use Rattle.front.specs.Queries.{IsRequest}
use Rattle.front.specs.declared.queries.Query.{Query}
use Rattle.front.specs.declared.queries.Request.TheVariants as request
use Rattle.lru_laws.specs.Orders.{used}
use Rattle.cache.specs.Failures.{FailedAsk, same_failed}
use Rattle.resolution.specs.Jobs.{Home, Stores, Search, ask_of, left_of, Job, Input, Start, Go, Point}
use Rattle.resolution.specs.Rules.{asked_of, Rules, Enters}
use Rattle.resolution.specs.Stops.{after_look_up, IsSoughtAt, EntersInPart}
use Rattle.runs.specs.States.{Client, OpenQuery, Turn, Plain, recursive, job_for, Open, Site, State, moved}
use Rattle.runs.specs.Steps.{IsInput, Step}
use Rattle.runs.specs.Runs.{Run}

-- ---- entries that were used

-- The work that began at this point came to a task that looks up this name and type.
abbrev pub IsSoughtFrom : Home → ℕ → Point → Name → ℕ → Type 0
IsSoughtFrom home now first n t = (count : ℕ) × (p : Point) × Rules home now count first p × IsSoughtAt p n t

-- It came to a search of which this server was left to ask.
abbrev pub IsLeftFrom : Home → ℕ → Point → FailedAsk → Type 0
IsLeftFrom home now first k =
    (count : ℕ) × (p : Point) × Rules home now count first p × (p.task ≡ Go)
    × ((s : Search) × (rest : List Search) × ((p.job).searches ≡ s ∷ rest) × ((server : Addr) × Contains (left_of (s.frame).plan) server × (k ≡ ask_of s server)))

-- One use of an entry, which goes to the front: a look-up of a name that the work sought; or that of the failure of a
-- server that it would have asked next.
abbrev pub IsUse : Home → ℕ → Point → Stores → Stores → Type 0
IsUse home now first old new =
    ((n : Name) × (t : ℕ) × IsSoughtFrom home now first n t × (new ≡ after_look_up (asked_of home n t) now old))
    ⊎ ((k : FailedAsk) × IsLeftFrom home now first k × (new ≡ record old { failures = used same_failed k old.failures }))

-- So many uses, one after another.
abbrev pub AreUses : Home → ℕ → Point → ℕ → Stores → Stores → Type 0
AreUses home now first zero old new = new ≡ old
AreUses home now first (suc n) old new = (mid : Stores) × AreUses home now first n old mid × IsUse home now first mid new

-- ---- one step

-- The stores after the work on an input: part of it was written, and nothing was used; or it was written, and its
-- entries were used.
abbrev pub IsWrittenAndUsed : Home → ℕ → Input → Job → Stores → Stores → Type 0
IsWrittenAndUsed home now input j old new =
    EntersInPart now input j old new ⊎ ((first : Point) × (count : ℕ) × Enters now input j old first × AreUses home now first count first.stores new)

-- The work on a client's own query, which begins; or that on the open query that the step serves, with the event's
-- input.
abbrev pub IsWorkOf : State → Turn → Input → Job → Type 0
IsWorkOf s t input j =
    ((now client : ℕ) × (way : Via) × (bytes : List ℕ) × (q : Query Plain)
    × (t.event ≡ Client now client way bytes) × IsRequest bytes (request.Query q) × (recursive q ≡ true) × (input ≡ Start) × (j ≡ job_for s.clock q))
    ⊎ ((q : Open) × Contains s.queries q × (t.served ≡ OpenQuery q.number) × IsInput s t.event q input × (j ≡ q.job))

-- Where memory ran out, the stores stand as they did, or as that work left them.
abbrev pub MovesByOwnWork : Site → State → Turn → State → Type 0
MovesByOwnWork site old t new =
    t.out ≡ None
    → (new.stores ≡ old.stores)
    ⊎ ((input : Input) × (j : Job) × IsWorkOf (moved old t.event) t input j × IsWrittenAndUsed site.home (moved old t.event).clock input j old.stores new.stores)

abbrev pub OrderIsKept : Type 0
OrderIsKept = (site : Site) (past : List Turn) (old : State) (t : Turn) (new : State) → Run site past old → Step old t.event t.served t.out new → MovesByOwnWork site old t new
