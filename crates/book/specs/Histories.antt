-- One history: the lines that a machine's workers wrote one after another, and the state that they lead to.
use Rattle.std.specs.Prelude.{◌≡◌, ℕ, ◌<◌, eqb, Result, List, [], ◌∷◌, length}
use Rattle.std.specs.List.{filter}
use Rattle.memory.specs.declared.Starved.{Starved}

-- A step that was taken: by which worker, how many steps this worker had taken before, on which event, and
-- what came out; `Err` where the step was refused memory.
pub record Line (E O : Type 0) : Type 0 where
  pub worker : ℕ
  pub number : ℕ
  pub event : E
  pub out : Result O Starved

-- A line of these four.
abbrev pub line : {E O : Type 0} → ℕ → ℕ → E → Result O Starved → Line E O
line w n e r = record { worker = w; number = n; event = e; out = r }

-- The lines of one worker, as they stand.
abbrev pub lines_of : {E O : Type 0} → ℕ → List (Line E O) → List (Line E O)
lines_of w es = filter (λ e. eqb e.worker w) es

-- How many lines a worker has.
abbrev pub count_of : {E O : Type 0} → ℕ → List (Line E O) → ℕ
count_of w es = length (lines_of w es)

-- These lines, the newest first, lead the machine from its start to a state: each is a step that the machine
-- may take from where the older ones led, its worker is one of so many, and its number is the count of the
-- worker's older lines.
abbrev pub LeadsMachine : {S E O : Type 0} → (S → E → Result O Starved → S → Type 0) → ℕ → S → List (Line E O) → S → Type 0
LeadsMachine moves workers start [] state = start ≡ state
LeadsMachine {S} moves workers start (e ∷ older) state =
    (s : S) × LeadsMachine moves workers start older s × moves s e.event e.out state
    × (e.worker < workers) × (e.number ≡ count_of e.worker older)

-- This line is the newest of some legal history.
pub record IsLast {S E O : Type 0} (moves : S → E → Result O Starved → S → Type 0) (begins : S → Type 0) (e : Line E O) : Type 0 where
  pub workers : ℕ
  pub start : S
  pub begun : begins start
  pub older : List (Line E O)
  pub state : S
  pub legal : LeadsMachine moves workers start (e ∷ older) state
