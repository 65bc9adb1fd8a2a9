-- Those that wait, as their queue is seen.
use Rattle.std.specs.Prelude.{ℕ, Bool, nat_eq, List}
use Rattle.admission.specs.declared.queries.Held.{Held}
use Rattle.admission.specs.States.{address_in}

-- Those that wait, in the order in which they came, and how many there is room for.
pub record Waiters (T : Type 0) : Type 0 where
  pub items : List (Held T)
  pub room : ℕ

abbrev pub is_address : ℕ → ℕ → Bool
is_address a x = nat_eq x a

module _ {T : Type 0} where
  -- Those of these two.
  abbrev pub waiters : List (Held T) → ℕ → Waiters T
  waiters ws n = record { items = ws; room = n }

  abbrev pub address_of : Held T → ℕ
  address_of q = address_in q.client
