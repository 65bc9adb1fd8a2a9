-- In which order the addresses of servers are asked: the least penalty first, and the same order again.
use Rattle.std.specs.Prelude.{◌≡◌, ℕ, zero, suc, ◌+◌, cond, nat_eq, nat_le, Option, List, ◌++◌, length, filter, slice_get, is_some}
use Rattle.std.specs.List.Sorted.{IsNonDecreasingBy}
use Rattle.rdata.specs.declared.addr.Addr.{Addr}

-- The addresses with this penalty, as they stand.
abbrev pub with_penalty : (Addr → ℕ) → ℕ → List Addr → List Addr
with_penalty level p xs = filter (λ a. nat_eq (level a) p) xs

abbrev pub with_penalties_to : (Addr → ℕ) → ℕ → List Addr → List Addr
with_penalties_to level zero xs = with_penalty level 0 xs
with_penalties_to level (suc p) xs = with_penalties_to level p xs ++ with_penalty level (suc p) xs

-- Those with penalty 0, then those with penalty 1, and so on to 8, each as they stand.
abbrev pub by_penalty : (Addr → ℕ) → List Addr → List Addr
by_penalty level xs = with_penalties_to level 8 xs

-- The order of asking, in other words: penalties do not fall along it, and of each penalty it has the given
-- addresses in the given order.
pub record IsByPenalty (level : Addr → ℕ) (given order : List Addr) : Type 0 where
  pub rising : IsNonDecreasingBy level order
  pub each : (p : ℕ) → with_penalty level p order ≡ with_penalty level p given

-- A plan: the order of one round, and how many were given of the two rounds.
pub record Plan : Type 0 where
  pub order : List Addr
  pub given : ℕ

-- A new plan of these addresses.
abbrev pub planned : (Addr → ℕ) → List Addr → Plan
planned level xs = record { order = by_penalty level xs; given = 0 }

-- What comes next.
abbrev pub upcoming : Plan → Option Addr
upcoming p = slice_get (p.order ++ p.order) p.given

abbrev pub advanced : Plan → Plan
advanced p = record { order = p.order; given = cond (is_some (upcoming p)) (p.given + 1) p.given }

-- Milliseconds to wait for an answer: 1,000 until the second round's first address was given, then 2,000.
abbrev pub wait_of : Plan → ℕ
wait_of p = cond (nat_le p.given (length p.order)) 1000 2000
