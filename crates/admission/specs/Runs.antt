-- Lists of moves, and what they did with the queries that were told to wait.
use Rattle.std.specs.Prelude.{◌≡◌, ℕ, ◌+◌, Bool, not, Option, option_to_list, List, [], ◌∷◌, ◌++◌}
use Rattle.std.specs.List.{count_by, filter}
use Rattle.admission.specs.declared.queries.Held.{Held}
use Rattle.admission.specs.declared.queries.Decision.{Decision}
use Rattle.admission.specs.declared.queries.Decision.TheVariants.{In, Waits, Refused}
use Rattle.admission.specs.States.{State, held_with}
use Rattle.admission.specs.Moves.{Admits, AdmitsNext, opened, left, taken, dropped, first_of, held, may_wait, is_entering, is_open, is_late}

module _ {T : Type 0} where
  -- Those with this key that were told to wait and have not come in: the called ones first.
  abbrev pub line : ℕ → State T → List (Held T)
  line k d = filter (held_with k) d.ready ++ filter (held_with k) d.waiting

  -- How many pass of those that were told to wait and have not come in.
  abbrev pub held_by : (Held T → Bool) → State T → ℕ
  held_by p d = count_by p d.ready + count_by p d.waiting

  -- Those that have waited for their time.
  abbrev pub too_late : ℕ → List (Held T) → List (Held T)
  too_late now qs = filter (λ q. not (may_wait now q)) qs

-- A call, and what it answered.
pub data Move (T : Type 0) : Type 0 where
  admits : ℕ → ℕ → ℕ → Bool → ℕ → T → Decision T → Move T
  opens : ℕ → ℕ → ℕ → Move T
  settles : ℕ → ℕ → Move T
  closes : ℕ → ℕ → Move T
  expires : ℕ → Move T
  fails : ℕ → Option (Held T) → Move T
  admits_next : Option (Held T) → Move T
  drops : ℕ → List (Held T) → Move T

module _ {T : Type 0} where
  -- What a call does.
  abbrev pub Moves : Move T → State T → State T → Type 0
  Moves (admits k c s answered moment p r) d e = Admits d k c s answered moment p r e
  Moves (opens k c moment) d e = e ≡ opened k c moment d
  Moves (settles k c) d e = e ≡ left (is_entering k c) d
  Moves (closes k c) d e = e ≡ left (is_open k c) d
  Moves (expires now) d e = e ≡ left (is_late now) d
  Moves (fails k r) d e = (r ≡ first_of (held_with k) d.waiting) × (e ≡ taken k d)
  Moves (admits_next r) d e = AdmitsNext d r e
  Moves (drops now gone) d e = (gone ≡ too_late now d.waiting) × (e ≡ dropped now d)

  -- One call after another.
  abbrev pub Runs : List (Move T) → State T → State T → Type 0
  Runs [] d e = e ≡ d
  Runs (m ∷ ms) d e = (f : State T) × Moves m d f × Runs ms f e

  -- Who was told to wait, by one answer.
  abbrev pub told_by : ℕ → ℕ → ℕ → ℕ → T → Decision T → List (Held T)
  told_by k c s moment p (In given) = []
  told_by k c s moment p Waits = held k c s moment p ∷ []
  told_by k c s moment p (Refused given) = []

  -- Who was told to wait.
  abbrev pub told : Move T → List (Held T)
  told (admits k c s answered moment p r) = told_by k c s moment p r
  told _ = []

  -- Who was handed out, or dropped: he came in, or was failed, or had waited for his time.
  abbrev pub ended : Move T → List (Held T)
  ended (fails k r) = option_to_list r
  ended (admits_next r) = option_to_list r
  ended (drops now gone) = gone
  ended _ = []

  -- All of a run.
  abbrev pub all : (Move T → List (Held T)) → List (Move T) → List (Held T)
  all of [] = []
  all of (m ∷ ms) = of m ++ all of ms
