-- Asks of which none is left, and the lowest that is.
use Rattle.std.proofs.Common.{◌≡◌, refl, ℕ, zero, suc, ◌+◌, ◌-◌, ◌<◌, ◌≤◌, Bool, true, false, cond, nat_eq, Option, Some, None, List, [], ◌∷◌, ◌++◌, length, take, set, get_or, option_map, sym, ◌∙◌, ap, subst, arith}
use Rattle.std.specs.Prelude.{slice_get}
use Rattle.std.proofs.Math.ListN.{length-set}
use Rattle.std.proofs.lemmas.Bool.Decides.{nat_tests}
use Rattle.std.proofs.lemmas.List.{take_more, take_more_set, take-append-le}
use Rattle.wire.specs.declared.via.Via.{Via}
use Rattle.score.specs.declared.sends.Mark.{Mark}
use Rattle.score.specs.Sends.{NoneLeft, IsLowest, place_of, lowest, lowest_from, taken, taken_off, way_at}

none_both : (ms ns : List Mark) → NoneLeft ms → NoneLeft ns → NoneLeft (ms ++ ns)
none_both [] ns h k = k
none_both (m ∷ ms) ns h k = (h.0, none_both ms ns h.1 k)

-- One more that is not left.
pub one_more : (ms : List Mark) (i : ℕ) (m : Mark) → i < length ms → NoneLeft (take i ms) → (get_or ms i m).is_left ≡ false → NoneLeft (take (i + 1) ms)
one_more ms i m lt none h = subst NoneLeft (sym (take_more ms i m lt)) (none_both (take i ms) (get_or ms i m ∷ []) none (h, tt))

-- One is left no more, right behind those of which none is left.
pub one_taken : (ms : List Mark) (i : ℕ) (m : Mark) → i < length ms → NoneLeft (take i ms) → m.is_left ≡ false → NoneLeft (take (i + 1) (set ms i m))
one_taken ms i m lt none h = subst NoneLeft (sym (take_more_set ms i m lt)) (none_both (take i ms) (m ∷ []) none (h, tt))

-- One is left no more, wherever it stands.
pub still_none : (p i : ℕ) (ms : List Mark) (m : Mark) → NoneLeft (take p ms) → m.is_left ≡ false → NoneLeft (take p (set ms i m))
still_none zero i ms m none h = tt
still_none (suc p) i [] m none h = none
still_none (suc p) zero (x ∷ ms) m none h = (h, none.1)
still_none (suc p) (suc i) (x ∷ ms) m none h = (none.0, still_none p i ms m none.1 h)

pub still_inside : (p i : ℕ) (ms : List Mark) (m : Mark) → p ≤ length ms → p ≤ length (set ms i m)
still_inside p i ms m le = omega (arith, length-set {A = Mark})

-- More went out behind them.
pub none_behind : (p : ℕ) (ms ns : List Mark) → p ≤ length ms → NoneLeft (take p ms) → NoneLeft (take p (ms ++ ns))
none_behind p ms ns le none = subst NoneLeft (sym (take-append-le p ms ns le)) none

-- ---- the lowest one

first_left : (n i : ℕ) (ms : List Mark) (m : Mark) → slice_get ms i ≡ Some m → NoneLeft (take i ms) → m.is_left ≡ true → lowest_from n ms ≡ Some (n + i)
first_left n i [] m is none left = absurd (cc)
first_left n zero (x ∷ ms) m is none left =
    let same : x ≡ m = cc in
    ap (λ (b : Bool). cond b (Some n) (lowest_from (n + 1) ms)) (ap (λ (y : Mark). y.is_left) same ∙ left) ∙ ap Some (let e : n ≡ n + 0 = omega arith in e)
first_left n (suc i) (x ∷ ms) m is none left =
    ap (λ (b : Bool). cond b (Some n) (lowest_from (n + 1) ms)) none.0 ∙ first_left (n + 1) i ms m is none.1 left
    ∙ ap Some (let e : n + 1 + i ≡ n + suc i = omega arith in e)

pub is_lowest : (ms ns : List Mark) (p i : ℕ) → ms ≡ ns → IsLowest ms p i → Some (i + 1) ≡ lowest ns
is_lowest ms ns p i same low =
    ap Some (let e : i + 1 ≡ 1 + i = omega arith in e) ∙ sym (first_left 1 i ms low.mark low.stands low.none low.left) ∙ ap lowest same

none_from : (n : ℕ) (ms : List Mark) → NoneLeft ms → lowest_from n ms ≡ None
none_from n [] none = refl
none_from n (x ∷ ms) none = ap (λ (b : Bool). cond b (Some n) (lowest_from (n + 1) ms)) none.0 ∙ none_from (n + 1) ms none.1

pub none_lowest : (ms ns : List Mark) → ms ≡ ns → NoneLeft ms → None ≡ lowest ns
none_lowest ms ns same none = sym (none_from 1 ms none) ∙ ap lowest same

-- ---- one that is taken off

numbered : (k : ℕ) → nat_eq (suc k) 0 ≡ false
numbered k = grind (arith, nat_tests)

before : (k : ℕ) → suc k - 1 ≡ k
before k = omega arith

place_there : (k : ℕ) → place_of (suc k) ≡ Some k
place_there k = rw (numbered k, before k) refl

off_there : (ms : List Mark) (i : ℕ) → taken_off ms (suc i) ≡ taken ms i (slice_get ms i)
off_there ms i = rw (numbered i, before i) refl

inside_is : (ms : List Mark) (i : ℕ) (w : Mark) → i < length ms → w ≡ get_or ms i w → slice_get ms i ≡ Some w
inside_is [] i w lt e = absurd (omega (arith, lt))
inside_is (x ∷ ms) zero w lt e = ap Some (sym e)
inside_is (x ∷ ms) (suc i) w lt e = inside_is ms i w (omega (arith, lt)) e

-- The one at a place is left no more.
off_here : (ms ns : List Mark) (i : ℕ) (w : Mark) → ms ≡ ns → i < length ms → w ≡ get_or ms i w → set ms i (record w { is_left = false }) ≡ taken_off ns (suc i)
off_here ms ns i w same lt e = sym (off_there ms i ∙ ap (taken ms i) (inside_is ms i w lt e)) ∙ ap (λ (xs : List Mark). taken_off xs (suc i)) same

pub off_next : (ms ns : List Mark) (i : ℕ) (w : Mark) → ms ≡ ns → i < length ms → w ≡ get_or ms i w → set ms i (record w { is_left = false }) ≡ taken_off ns (i + 1)
off_next ms ns i w same lt e = off_here ms ns i w same lt e ∙ ap (taken_off ns) (let next : suc i ≡ i + 1 = omega arith in next)

-- So is the one of a number.
pub off_at : (ms ns : List Mark) (i k : ℕ) (w : Mark) → ms ≡ ns → Some i ≡ place_of k → i < length ms → w ≡ get_or ms i w → set ms i (record w { is_left = false }) ≡ taken_off ns k
off_at ms ns i zero w same at lt e = absurd (cc)
off_at ms ns i (suc k) w same at lt e =
    let is : i ≡ k = let there = at ∙ place_there k in cc in
    off_here ms ns i w same lt e ∙ ap (λ (j : ℕ). taken_off ns (suc j)) is

-- ---- the way of an ask stays

taken_behind : (m : Mark) (ms : List Mark) (i : ℕ) (o : Option Mark) → taken (m ∷ ms) (suc i) o ≡ m ∷ taken ms i o
taken_behind m ms i None = refl
taken_behind m ms i (Some x) = refl

abbrev way_in : List Mark → ℕ → Option Via
way_in ms i = option_map (λ (m : Mark). m.way) (slice_get ms i)

way_there : (ms : List Mark) (i : ℕ) → way_in (taken ms i (slice_get ms i)) i ≡ way_in ms i
way_there [] i = refl
way_there (m ∷ ms) zero = refl
way_there (m ∷ ms) (suc i) = ap (λ (xs : List Mark). way_in xs (suc i)) (taken_behind m ms i (slice_get ms i)) ∙ way_there ms i

at_place : (ms : List Mark) (i : ℕ) → way_at ms (suc i) ≡ way_in ms i
at_place ms i = rw (numbered i, before i) refl

pub way_stays : (ms : List Mark) (k : ℕ) → way_at (taken_off ms k) k ≡ way_at ms k
way_stays ms zero = refl
way_stays ms (suc i) = at_place (taken_off ms (suc i)) i ∙ ap (λ (xs : List Mark). way_in xs i) (off_there ms i) ∙ way_there ms i ∙ sym (at_place ms i)
