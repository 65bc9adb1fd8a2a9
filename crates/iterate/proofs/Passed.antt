-- The loop over addresses that failed lately: what each turn keeps.
use Rattle.std.proofs.Common.{◌≡◌, ℕ, zero, suc, ◌<◌, Bool, true, false, length, refl, sym, ap, ◌∙◌, subst, arith}
use Rattle.lru_laws.specs.Orders.{used}
use Rattle.cache.specs.Failures.{same_failed}
use Rattle.resolution.specs.Jobs.{Home, Stores, Search, given, ask_of, left_of, Job, Go, point}
use Rattle.resolution.specs.Rules.{PassesOver, Rule, skips}
use Rattle.resolution.proofs.Passing.{left_first}
use Rattle.iterate.specs.Moves.{with_search, skipping, IsNextFailed, has_some, ArePassed, ArePassedInPart}

pub record Passing (now : ℕ) (before : Search) (old : Stores) (here : Search) (stores : Stores) (some : Bool) : Type 0 where
  pub count : ℕ
  pub passes : PassesOver now count before old.failures here stores.failures
  pub stores_is : stores ≡ record old { failures = stores.failures }
  pub is_some : some ≡ has_some count

pub passing_first : (now : ℕ) (s : Search) (stores : Stores) → Passing now s stores s stores false
passing_first now s stores = record { count = zero; passes = (refl, refl); stores_is = refl; is_some = refl }

-- One more is passed over.
pub passing_on : (now : ℕ) (before : Search) (old : Stores) (here : Search) (stores : Stores) (some : Bool) (next : Search) (new : Stores) → Passing now before old here stores some
    → IsNextFailed now here stores new true → next ≡ given here → Passing now before old next new true
passing_on now before old here stores some next new h (server, due, fails, is) one = record {
  count = suc h.count;
  passes = (here, stores.failures, server, h.passes, due, fails, one, ap (λ (s : Stores). s.failures) is);
  stores_is = is ∙ ((λ i. record (h.stores_is i) { failures = used same_failed (ask_of here server) stores.failures }) ∙ ap (λ fs. record old { failures = fs }) (sym (ap (λ (s : Stores). s.failures) is)));
  is_some = refl;
}

pub passing_falls : (now : ℕ) (here next : Search) (stores new : Stores) → IsNextFailed now here stores new true → next ≡ given here
    → length (left_of (next.frame).plan) < length (left_of (here.frame).plan)
passing_falls now here next stores new (server, due, fails, is) one =
    let first = ap length (left_first (here.frame).plan server due) in
    let same = ap (λ (s : Search). length (left_of (s.frame).plan)) one in
    omega (arith, first, same)

pub passing_ends : (now : ℕ) (before : Search) (old : Stores) (here : Search) (stores new : Stores) (some : Bool) → Passing now before old here stores some → IsNextFailed now here stores new false
    → ArePassed now before old here new some
passing_ends now before old here stores new some h (free, same) =
    subst (λ (s : Stores). ArePassed now before old here s some) (sym same) (record { count = h.count; passes = h.passes; free = free; stores = h.stores_is; is_some = h.is_some })

-- Where memory ran out, so many were passed over by then.
pub passing_stops : (now : ℕ) (before : Search) (old : Stores) (here : Search) (stores new : Stores) (some : Bool) → Passing now before old here stores some → new ≡ stores → ArePassedInPart now before old new
passing_stops now before old here stores new some h same =
    subst (ArePassedInPart now before old) (sym same) (record { count = h.count; after = here; passes = h.passes; stores = h.stores_is })

-- ---- what comes of it

pub passed_so_far : (now : ℕ) (before : Search) (old : Stores) (after : Search) (new : Stores) (some : Bool) → ArePassed now before old after new some → ArePassedInPart now before old new
passed_so_far now before old after new some h = record { count = h.count; after = after; passes = h.passes; stores = h.stores }

-- Where none was passed over, nothing changed.
pub none_passed : (now : ℕ) (before : Search) (old : Stores) (after : Search) (new : Stores) → ArePassed now before old after new false → (after ≡ before) × (new ≡ old)
none_passed now before old after new h = by h.count h.passes h.is_some
  where
    by : (n : ℕ) → PassesOver now n before old.failures after new.failures → false ≡ has_some n → (after ≡ before) × (new ≡ old)
    by zero (same, is) e = (same, h.stores ∙ ap (λ fs. record old { failures = fs }) is)
    by (suc n) passes e = absurd (cc)

-- Where one was, the search goes on behind it.
pub some_passed : (home : Home) (now : ℕ) (j new : Job) (before : Search) (old : Stores) (after : Search) (stores : Stores) → ArePassed now before old after stores true → new ≡ skipping j after
    → Rule home now (point Go (with_search j before) old) (point Go new stores)
some_passed home now j new before old after stores h pushed = by h.count h.passes h.is_some
  where
    by : (n : ℕ) → PassesOver now n before old.failures after stores.failures → true ≡ has_some n → Rule home now (point Go (with_search j before) old) (point Go new stores)
    by zero passes e = absurd (cc)
    by (suc n) passes e = skips n before after j.searches stores.failures refl refl passes h.free refl pushed h.stores
