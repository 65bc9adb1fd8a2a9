-- The laws: what is kept over runs, the order in line, and that each is handed out or dropped once.
use Rattle.std.proofs.Common.{◌≡◌, ℕ, Bool, List, [], ◌∷◌, Option, Some, None, refl, sym, subst, arith}
use Rattle.std.specs.List.{filter}
use Rattle.admission.specs.declared.limits.Limits.{Limits}
use Rattle.admission.specs.declared.queries.Admitted.{Admitted}
use Rattle.admission.specs.declared.queries.Decision.TheVariants.{In, Waits, Refused}
use Rattle.admission.specs.States.{State, state, held_with, IsKept}
use Rattle.admission.specs.Moves.{opened_as, left, left_by, first_of, without_first, held, admitted, may_wait, is_entering, is_open, is_late}
use Rattle.admission.specs.Runs.{Move, admits, opens, settles, closes, expires, fails, admits_next, drops, Moves, Runs}
use Rattle.admission.proofs.Lists.{count_without, length_without, fewer_without, shorter_without, fewer_filtered, shorter_filtered}
use Rattle.admission.proofs.Kept.{kept_admitted, kept_waiting, kept_fewer, kept_next, kept_moved, kept_left}

module _ {T : Type 0} where
  kept_opened_as : (d : State T) (o : Option Admitted) (k c m : ℕ) → first_of (is_entering k c) d.admitted ≡ o → IsKept d → IsKept (opened_as o k c m d)
  kept_opened_as d None k c m e kept = kept
  kept_opened_as d (Some q) k c m e kept =
      kept_moved d kept q (record q { opened = Some m }) (without_first (is_entering k c) d.admitted) (λ p. count_without (is_entering k c) p d.admitted q e) (length_without (is_entering k c) d.admitted q e) refl refl

  kept_left_by : (d : State T) (test : Admitted → Bool) (o : Option Admitted) → first_of test d.admitted ≡ o → IsKept d → IsKept (left_by o test d)
  kept_left_by d test None e kept = kept
  kept_left_by d test (Some q) e kept =
      kept_left d kept q (without_first test d.admitted) (λ p. count_without test p d.admitted q e) (length_without test d.admitted q e) (first_of (held_with q.key) d.waiting) refl

  kept_left_all : (d e : State T) (test : Admitted → Bool) → e ≡ left test d → IsKept d → IsKept e
  kept_left_all d e test is kept = subst (λ s. IsKept s) (sym is) (kept_left_by d test (first_of test d.admitted) refl kept)

  pub kept_moves : (m : Move T) (d e : State T) → Moves m d e → IsKept d → IsKept e
  kept_moves (admits k c s answered moment p (In given)) d e h kept = subst (λ s. IsKept s) (sym h.3) (kept_admitted d kept (admitted k c s None) answered h.1 h.0)
  kept_moves (admits k c s answered moment p Waits) d e h kept = subst (λ s. IsKept s) (sym h.3) (kept_waiting d kept (held k c s moment p) answered h.1 h.0 h.2)
  kept_moves (admits k c s answered moment p (Refused given)) d e h kept = subst (λ s. IsKept s) (sym h.2) kept
  kept_moves (opens k c moment) d e h kept = subst (λ s. IsKept s) (sym h) (kept_opened_as d (first_of (is_entering k c) d.admitted) k c moment refl kept)
  kept_moves (settles k c) d e h kept = kept_left_all d e (is_entering k c) h kept
  kept_moves (closes k c) d e h kept = kept_left_all d e (is_open k c) h kept
  kept_moves (expires now) d e h kept = kept_left_all d e (is_late now) h kept
  kept_moves (fails k r) d e h kept = subst (λ s. IsKept s) (sym h.1) (kept_fewer d kept (without_first (held_with k) d.waiting) (λ p. fewer_without (held_with k) p d.waiting) (shorter_without (held_with k) d.waiting))
  kept_moves (admits_next None) d e h kept = subst (λ s. IsKept s) (sym h.1) kept
  kept_moves (admits_next (Some q)) d e h kept = subst (λ s. IsKept s) (sym h.1) (kept_next d kept q e.ready h.0)
  kept_moves (drops now gone) d e h kept = subst (λ s. IsKept s) (sym h.1) (kept_fewer d kept (filter (may_wait now) d.waiting) (λ p. fewer_filtered (may_wait now) p d.waiting) (shorter_filtered (may_wait now) d.waiting))

  pub kept_runs : (ms : List (Move T)) (d e : State T) → Runs ms d e → IsKept d → IsKept e
  kept_runs [] d e h kept = subst (λ s. IsKept s) (sym h) kept
  kept_runs (m ∷ ms) d e h kept = kept_runs ms h.0 e h.2 (kept_moves m d h.0 h.1 kept)

  pub kept_new : (l : Limits) → IsKept {T = T} (state l [] [] [])
  kept_new l = record { equal = λ k. omega arith; each = λ a. omega arith; places = omega arith; few = omega arith; not_in_vain = λ k some. absurd (omega arith) }
