-- Fewer open queries than IDs: one of so many numbers in a row is free.
use Rattle.std.proofs.Common.{◌≡◌, ℕ, ◌+◌, ◌%◌, ◌<◌, ◌≤◌, inl, inr, Option, Some, None, is_some, true, false, List, length, refl, sym, ◌∙◌, ap, subst, arith}
use Rattle.std.proofs.lemmas.Bool.{cases_eq, false≢true}
use Rattle.rdata.specs.declared.addr.Addr.{Addr}
use Rattle.runs.specs.States.{Open}
use Rattle.runs.specs.Steps.{IsRaised}
use Rattle.open_queries.specs.Lookups.{IsOnLine, IsFound, IsTakenId}
use Rattle.open_queries.proofs.Pigeons.{as_many}

-- All of the first IDs from this one on are.
abbrev pub AreTaken : List Open → ℕ → Addr → ℕ → ℕ → Type 0
AreTaken qs sock server from n = (k : ℕ) → k < n → IsTakenId qs sock server ((from + k) % 65536)

apart_in : (from i j n : ℕ) → n ≤ 65536 → i < n → j < n → (from + i) % 65536 ≡ (from + j) % 65536 → i ≡ j
apart_in from i j n most a b e = omega arith

pub taken_fit : (qs : List Open) (sock : ℕ) (server : Addr) (from n : ℕ) → n ≤ 65536 → AreTaken qs sock server from n → n ≤ length qs
taken_fit qs sock server from n most all =
    as_many (λ (q : Open). (q.ask).id) n (λ k. (from + k) % 65536) qs (λ i j a b e. apart_in from i j n most a b e)
    (λ k within. let it = all k within in (it.0, it.1, it.2.2))

-- One more is taken, where the look-up found one; where it found none, this is the first that is free.
pub taken_more : (qs : List Open) (sock : ℕ) (server : Addr) (from n id : ℕ) → id ≡ (from + n) % 65536 → AreTaken qs sock server from n → (number : ℕ) → IsFound (IsOnLine sock server id) qs (Some number) → AreTaken qs sock server from (n + 1)
taken_more qs sock server from n id at all number h = λ k within. elim (cases_eq k n) [
  | inl same ↦ subst (IsTakenId qs sock server) (at ∙ ap (λ (x : ℕ). (from + x) % 65536) (sym same)) (h.query, h.stands, h.is)
  | inr other ↦ all k (omega arith)
]

pub raised : (qs : List Open) (sock : ℕ) (server : Addr) (from n id : ℕ) → id ≡ (from + n) % 65536 → AreTaken qs sock server from n → IsFound (IsOnLine sock server id) qs None → IsRaised (IsTakenId qs sock server) from id
raised qs sock server from n id at all h = record { steps = n; is = at; free = λ it. h it.0 it.1 it.2; first = all }

-- The same, said of what the look-up gave.
pub taken_by : (qs : List Open) (sock : ℕ) (server : Addr) (from n : ℕ) (r : Option ℕ) → is_some r ≡ true → IsFound (IsOnLine sock server ((from + n) % 65536)) qs r → AreTaken qs sock server from n → AreTaken qs sock server from (n + 1)
taken_by qs sock server from n None some h all = absurd (false≢true some)
taken_by qs sock server from n (Some number) some h all = taken_more qs sock server from n ((from + n) % 65536) refl all number h

pub raised_by : (qs : List Open) (sock : ℕ) (server : Addr) (from n : ℕ) (r : Option ℕ) → is_some r ≡ false → IsFound (IsOnLine sock server ((from + n) % 65536)) qs r → AreTaken qs sock server from n → IsRaised (IsTakenId qs sock server) from ((from + n) % 65536)
raised_by qs sock server from n None none h all = raised qs sock server from n ((from + n) % 65536) refl all h
raised_by qs sock server from n (Some number) none h all = absurd (false≢true (sym none))
