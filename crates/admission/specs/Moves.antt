-- What each move does to the queries in admission.
use Rattle.std.specs.Prelude.{◌≡◌, ℕ, ◌-◌, ◌<◌, ◌≤◌, Bool, true, false, cond, ◌&&◌, ◌⊎◌, nat_eq, nat_lt, nat_le, Option, Some, None, option_to_list, List, [], ◌∷◌, ◌++◌, length}
use Rattle.std.specs.List.{filter}
use Rattle.std.specs.Option.{is_some, is_none}
use Rattle.admission.specs.declared.limits.TheConstants.{OPEN_MS, WAIT_MS}
use Rattle.admission.specs.declared.queries.Admitted.{Admitted}
use Rattle.admission.specs.declared.queries.Held.{Held}
use Rattle.admission.specs.declared.queries.Decision.{Decision}
use Rattle.admission.specs.declared.queries.Decision.TheVariants.{In, Waits, Refused}
use Rattle.admission.specs.States.{State, state, address_in, held_with, of_key, is_shut}

module _ {X : Type 0} (test : X → Bool) where
  -- The first that passes.
  abbrev pub first_of : List X → Option X
  first_of [] = None
  first_of (x ∷ xs) = cond (test x) (Some x) (first_of xs)

  -- All but the first that passes.
  abbrev pub without_first : List X → List X
  without_first [] = []
  without_first (x ∷ xs) = cond (test x) xs (x ∷ without_first xs)

-- Whether the step of this query runs.
abbrev pub is_entering : ℕ → ℕ → Admitted → Bool
is_entering k c q = nat_eq q.key k && nat_eq q.client c && is_none q.opened

-- Whether this query is open.
abbrev pub is_open : ℕ → ℕ → Admitted → Bool
is_open k c q = nat_eq q.key k && nat_eq q.client c && is_some q.opened

abbrev pub is_late_since : ℕ → Option ℕ → Bool
is_late_since now None = false
is_late_since now (Some moment) = nat_le OPEN_MS (now - moment)

-- The domain of a query, if there is one.
abbrev pub domain_in : Option Admitted → Option ℕ
domain_in None = None
domain_in (Some q) = Some q.domain

-- Whether it has been open for its time.
abbrev pub is_late : ℕ → Admitted → Bool
is_late now q = is_late_since now q.opened

-- A query that was admitted.
abbrev pub admitted : ℕ → ℕ → ℕ → Option ℕ → Admitted
admitted k c s since = record { key = k; client = c; domain = s; opened = since }

module _ {T : Type 0} where
  -- A query that is held.
  abbrev pub held : ℕ → ℕ → ℕ → ℕ → T → Held T
  held k c s moment p = record { key = k; client = c; domain = s; since = moment; payload = p }

  -- Whether it has waited for less than its time.
  abbrev pub may_wait : ℕ → Held T → Bool
  may_wait now q = nat_lt (now - q.since) WAIT_MS

  -- A query comes. It is admitted where fewer equal ones are inside than may be, waits where not, and is refused
  -- where its address or its domain is shut out or too many wait.
  abbrev pub Admits : State T → ℕ → ℕ → ℕ → Bool → ℕ → T → Decision T → State T → Type 0
  Admits d k c s answered moment p (In given) e =
      (is_shut (address_in c) s answered d ≡ false) × (of_key k d < d.limits.equal)
      × (given ≡ p) × (e ≡ record d { admitted = d.admitted ++ admitted k c s None ∷ [] })
  Admits d k c s answered moment p Waits e =
      (is_shut (address_in c) s answered d ≡ false) × (d.limits.equal ≤ of_key k d) × (length d.waiting < d.limits.waiting)
      × (e ≡ record d { waiting = d.waiting ++ held k c s moment p ∷ [] })
  Admits d k c s answered moment p (Refused given) e =
      ((is_shut (address_in c) s answered d ≡ true) ⊎ ((d.limits.equal ≤ of_key k d) × (d.limits.waiting ≤ length d.waiting)))
      × (given ≡ p) × (e ≡ d)

  -- A query, if there is one, is open since that moment.
  abbrev pub opened_as : Option Admitted → ℕ → ℕ → ℕ → State T → State T
  opened_as None k c moment d = d
  opened_as (Some q) k c moment d =
      record d { admitted = without_first (is_entering k c) d.admitted ++ record q { opened = Some moment } ∷ [] }

  -- The step of a query has asked other servers: the first that enters with this key, from this client, is open since
  -- that moment.
  abbrev pub opened : ℕ → ℕ → ℕ → State T → State T
  opened k c moment d = opened_as (first_of (is_entering k c) d.admitted) k c moment d

  -- The first that waits with this key is called in, after those that were called before.
  abbrev pub called : ℕ → State T → State T
  called k d = record d {
    ready = d.ready ++ option_to_list (first_of (held_with k) d.waiting);
    waiting = without_first (held_with k) d.waiting;
  }

  -- The query, if there is one, is no longer inside, and the first that waits for its key is called in.
  abbrev pub left_by : Option Admitted → (Admitted → Bool) → State T → State T
  left_by None test d = d
  left_by (Some q) test d = called q.key (record d { admitted = without_first test d.admitted })

  -- The first that passes leaves.
  abbrev pub left : (Admitted → Bool) → State T → State T
  left test d = left_by (first_of test d.admitted) test d

  -- The first that is called in is admitted.
  abbrev pub AdmitsNext : State T → Option (Held T) → State T → Type 0
  AdmitsNext d None e = (d.ready ≡ []) × (e ≡ d)
  AdmitsNext d (Some q) e =
      (d.ready ≡ q ∷ e.ready)
      × (e ≡ state d.limits (d.admitted ++ admitted q.key q.client q.domain None ∷ []) e.ready d.waiting)

  -- The first that waits with this key no longer waits.
  abbrev pub taken : ℕ → State T → State T
  taken k d = record d { waiting = without_first (held_with k) d.waiting }

  -- Those that have waited for their time no longer wait.
  abbrev pub dropped : ℕ → State T → State T
  dropped now d = record d { waiting = filter (may_wait now) d.waiting }
