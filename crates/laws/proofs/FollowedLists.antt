-- Links that have not run out, and the first address of a plan.
use Rattle.std.proofs.Common.{◌≡◌, ℕ, ◌≤◌, Bool, true, false, inl, inr, Some, List, [], ◌∷◌, ◌++◌, Contains, sym, ap, ◌∙◌, subst}
use Rattle.std.proofs.lemmas.List.Elements.{Contains-append_cases, Contains-append_left}
use Rattle.lru.proofs.Splits.{Contains-head, Contains-tail, Contains-cons, Contains-nil}
use Rattle.lru_laws.proofs.Kept.{by_test}
use Rattle.rdata.specs.declared.addr.Addr.{Addr}
use Rattle.retry.specs.Plans.{by_penalty, planned}
use Rattle.frames.proofs.Plans.{in_plan}
use Rattle.frames.proofs.Steps.{planned_members}
use Rattle.resolution.specs.Jobs.{Taken, is_dead, IsDead, AreFresh, left_of, first_without}
use Rattle.resolution.proofs.Passing.{first_free, first_fails}

-- ---- links

pub fresh_both : (now : ℕ) (xs : List Taken) (l : Taken) → AreFresh now xs → is_dead now l ≡ false → AreFresh now (xs ++ l ∷ [])
fresh_both now [] l all one = (one, tt)
fresh_both now (x ∷ xs) l all one = (all.0, fresh_both now xs l all.1 one)

pub none_dead : (now : ℕ) (front back : List Taken) (d : Taken) → AreFresh now (front ++ d ∷ back) → IsDead now d → ⊥
none_dead now [] back d all dead = let f : is_dead now d ≡ false = all.0 in cc
none_dead now (x ∷ front) back d all dead = none_dead now front back d all.1 dead

-- ---- plans

-- One that does not fail has a first.
some_free : (fails : Addr → Bool) (xs : List Addr) (a : Addr) → Contains xs a → fails a ≡ false → (d : Addr) × (first_without fails xs ≡ Some d)
some_free fails [] a c free = absurd (Contains-nil a c)
some_free fails (x ∷ xs) a c free = by_test (fails x)
    (λ failed. let (d, is) = some_free fails xs a (elim (Contains-cons x xs a c) [ inl same ↦ absurd (apart same failed) | inr more ↦ more ]) free in (d, first_fails fails x xs failed ∙ is))
    (λ well. (x, first_free fails x xs well))
  where
    apart : x ≡ a → fails x ≡ true → ⊥
    apart same failed = let both : true ≡ false = sym failed ∙ (ap fails same ∙ free) in cc

first_among : (fails : Addr → Bool) (xs : List Addr) (d : Addr) → first_without fails xs ≡ Some d → Contains xs d
first_among fails [] d e = absurd (cc)
first_among fails (x ∷ xs) d e = by_test (fails x)
    (λ failed. Contains-tail x xs d (first_among fails xs d (sym (first_fails fails x xs failed) ∙ e)))
    (λ well. let same : Some x ≡ Some d = sym (first_free fails x xs well) ∙ e in let one : x ≡ d = cc in subst (Contains (x ∷ xs)) one (Contains-head x xs))

module _ (level : Addr → ℕ) (fails : Addr → Bool) where
  -- Of a new plan both rounds are left.
  pub some_next : (xs : List Addr) (a : Addr) → Contains xs a → level a ≤ 8 → fails a ≡ false → (d : Addr) × (first_without fails (left_of (planned level xs)) ≡ Some d)
  some_next xs a c few free =
      let order = by_penalty level xs in some_free fails (order ++ order) a (Contains-append_left order order a (in_plan level xs a c few)) free

  pub next_in : (xs : List Addr) (d : Addr) → first_without fails (left_of (planned level xs)) ≡ Some d → Contains xs d
  next_in xs d e =
      let order = by_penalty level xs in
      elim (Contains-append_cases order order d (first_among fails (order ++ order) d e)) [ inl c ↦ planned_members level xs d c | inr c ↦ planned_members level xs d c ]
