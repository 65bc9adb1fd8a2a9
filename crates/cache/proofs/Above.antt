-- The names above a name, up to another.
use Rattle.std.proofs.Common.{◌≡◌, ◌≢◌, ◌⊎◌, inl, inr, ℕ, Bool, true, false, cond, List, [], ◌∷◌, ◌++◌, length, Some, refl, sym, ◌∙◌, ap, subst, arith}
use Rattle.std.specs.Prelude.{◌↔◌, IsTrue, Contains}
use Rattle.std.specs.Bool.{OnFalse}
use Rattle.dname.specs.Labels.{AreLabels, root, same_name, is_under, parent_of, IsAtOrUnder}
use Rattle.dname.specs.Laws.{same_name-exact, same_name-equal}
use Rattle.dname.proofs.Under.{under_is, is_under_holds}
use Rattle.zone.specs.Zones.{IsBeneath}
use Rattle.zone.proofs.LawLists.{none_in, first_in, later_in, in_cases, under_under, under_length}
use Rattle.cache.specs.Cached.{above_to}

abbrev Name : Type 0
Name = List (List ℕ)

-- ---- in words

right_above : (l : List ℕ) (ls : Name) → IsBeneath (l ∷ ls) ls
right_above l ls = ((l ∷ [], refl), λ e. omega (arith, ap length e))

higher : (l : List ℕ) (ls p : Name) → IsBeneath ls p → IsBeneath (l ∷ ls) p
higher l ls p h = ((l ∷ h.0.0, ap (λ (x : Name). l ∷ x) h.0.1), λ e. let short = under_length ls p h.0 in omega (arith, ap length e, short))

between : (top q p : Name) → Contains (above_to top q) p → IsBeneath q p × IsAtOrUnder p top
between top [] p m = absurd (none_in p m)
between top (l ∷ ls) p m = by (λ n. between top ls p n) (is_under ls top) refl m
  where
    by : (Contains (above_to top ls) p → IsBeneath ls p × IsAtOrUnder p top) → (b : Bool) → is_under ls top ≡ b → Contains (cond b (ls ∷ above_to top ls) []) p → IsBeneath (l ∷ ls) p × IsAtOrUnder p top
    by again false e n = absurd (none_in p n)
    by again true e n = elim (in_cases ls p (above_to top ls) n) [
      | inl same ↦ subst (λ (x : Name). IsBeneath (l ∷ ls) x × IsAtOrUnder x top) same (right_above l ls, under_is ls top e)
      | inr more ↦ (let (low, over) = again more in (higher l ls p low, over))
    ]

truth_apart : {P : Type 0} → true ≡ false → P
truth_apart e = cc

same_or : (a b : Name) (same : Bool) → same_name a b ≡ same → (a ≡ b) ⊎ (a ≢ b)
same_or a b true e = inl (same_name-exact a b e)
same_or a b false e = inr (λ s. truth_apart (sym (same_name-equal a b s) ∙ e))

-- What is beneath another name is at or under it from the name right above on.
from_above : (l : List ℕ) (ls p : Name) → IsBeneath (l ∷ ls) p → IsAtOrUnder ls p
from_above l ls p h = by h.0.0 h.0.1
  where
    by : (front : Name) → l ∷ ls ≡ front ++ p → IsAtOrUnder ls p
    by [] e = absurd (h.1 e)
    by (f ∷ front) e = let rest : ls ≡ front ++ p = cc in (front, rest)

nothing_beneath : (p : Name) → IsBeneath [] p → ⊥
nothing_beneath p h = by h.0.0 h.0.1
  where
    by : (front : Name) → [] ≡ front ++ p → ⊥
    by [] e = h.1 e
    by (f ∷ front) e = cc

tried : (top q p : Name) → IsBeneath q p → IsAtOrUnder p top → Contains (above_to top q) p
tried top [] p h over = absurd (nothing_beneath p h)
tried top (l ∷ ls) p h over =
    let low = from_above l ls p h in
    let e = is_under_holds ls top (under_under ls p top low over) in
    subst (λ b. Contains (cond b (ls ∷ above_to top ls) []) p) (sym e) (elim (same_or ls p (same_name ls p) refl) [
      | inl same ↦ subst (Contains (ls ∷ above_to top ls)) same (first_in ls (above_to top ls))
      | inr apart ↦ later_in ls p (above_to top ls) (tried top ls p (low, apart) over)
    ])

pub above_is_between : (top q p : Name) → Contains (above_to top q) p ↔ (IsBeneath q p × IsAtOrUnder p top)
above_is_between top q p = (λ m. between top q p m, λ h. let (low, over) = h in tried top q p low over)

-- ---- one step up

abbrev step : Name → Name → List Name
step top up = cond (is_under up top) (up ∷ above_to top up) []

pub step_up : (top old new : Name) (b : Bool) → parent_of old ≡ Some new → b ≡ is_under new top → above_to top old ≡ cond b (new ∷ above_to top new) []
step_up top [] new b e f = cc
step_up top (l ∷ []) new b e f = cc
step_up top (l ∷ m ∷ ms) new b e f =
    let same : m ∷ ms ≡ new = cc in
    ap (step top) same ∙ ap (λ c. cond c (new ∷ above_to top new) []) (sym f)

pub step_none : (top old : Name) → AreLabels top → old ≡ root → above_to top old ≡ []
step_none [] old labels e = absurd labels
step_none (l ∷ ls) old labels e = ap (above_to (l ∷ ls)) e

pub step_end : (b : Bool) (top old new : Name) → AreLabels top → OnFalse b ((old ≡ root) × (new ≡ old)) → OnFalse b (above_to top old ≡ [])
step_end true top old new labels h = h
step_end false top old new labels h = step_none top old labels h.0

-- ---- whether a name is within another

ends_at_root : (n : Name) → AreLabels n → IsAtOrUnder n root
ends_at_root [] h = absurd h
ends_at_root (l ∷ []) h = ([], ap (λ (x : List ℕ). x ∷ []) h)
ends_at_root (l ∷ m ∷ ls) h = let rest = ends_at_root (m ∷ ls) h.1 in (l ∷ rest.0, ap (λ (x : Name). l ∷ x) rest.1)

pub within_root : (is : Bool) (n top : Name) → AreLabels n → IsTrue is ↔ (top ≡ root) → is ≡ true → is ≡ is_under n top
within_root false n top labels h t = cc
within_root true n top labels h t = sym (is_under_holds n top (subst (λ (r : Name). IsAtOrUnder n r) (sym (h.0 refl)) (ends_at_root n labels)))
