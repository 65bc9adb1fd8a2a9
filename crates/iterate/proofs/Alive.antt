-- Chains, and the first link of one that has run out.
use Rattle.std.proofs.Common.{◌≡◌, ℕ, zero, suc, ◌+◌, ◌<◌, ◌≤◌, true, false, Some, List, [], ◌∷◌, ◌++◌, length, take, drop, get_or, slice_get, refl, sym, ap, ◌∙◌, subst, append_assoc, arith, rules}
use Rattle.std.proofs.lemmas.List.{take_all, take_more, take-append-drop}
use Rattle.std.proofs.lemmas.Option.{slice_get_within, get_or_from_slice_get}
use Rattle.resolution.specs.Jobs.{Taken, is_dead, IsDead, AreFresh}
use Rattle.iterate.specs.Moves.{IsTakenFrom}

fresh_join : (now : ℕ) (xs : List Taken) (l : Taken) → AreFresh now xs → is_dead now l ≡ false → AreFresh now (xs ++ l ∷ [])
fresh_join now [] l all one = (one, tt)
fresh_join now (x ∷ xs) l all one = (all.0, fresh_join now xs l all.1 one)

-- A fresh link at the end of fresh ones.
pub fresh_whole : (now : ℕ) (xs : List Taken) (l : Taken) → AreFresh now xs → is_dead now l ≡ false → AreFresh now (xs ++ l ∷ [])
fresh_whole now xs l all one = fresh_join now xs l all one

-- One link more of a walk.
pub fresh_more : (now : ℕ) (xs : List Taken) (k : ℕ) (l : Taken) → k < length xs → l ≡ get_or xs k l → is_dead now l ≡ false → AreFresh now (take k xs) → AreFresh now (take (k + 1) xs)
fresh_more now xs k l lt is lives all = subst (AreFresh now) (sym (take_more xs k l lt ∙ ap (λ (y : Taken). take k xs ++ y ∷ []) (sym is))) (fresh_join now (take k xs) l all lives)

pub fresh_all : (now : ℕ) (xs : List Taken) (k : ℕ) → length xs ≤ k → AreFresh now (take k xs) → AreFresh now xs
fresh_all now xs k past all = subst (AreFresh now) (take_all k xs past) all

slice_at : (xs : List Taken) (k : ℕ) (l : Taken) → k < length xs → slice_get xs k ≡ Some (get_or xs k l)
slice_at [] k l lt = absurd (omega arith)
slice_at (x ∷ xs) zero l lt = refl
slice_at (x ∷ xs) (suc k) l lt = slice_at xs k l (omega arith)

-- The link at a place is the first dead one.
pub dead_there : (now : ℕ) (xs : List Taken) (k : ℕ) (l : Taken) → k < length xs → l ≡ get_or xs k l → is_dead now l ≡ true → AreFresh now (take k xs)
    → AreFresh now (take k xs) × (d : Taken) × (slice_get xs k ≡ Some d) × IsDead now d
dead_there now xs k l lt is dead all = (all, l, slice_at xs k l lt ∙ ap (λ (y : Taken). Some y) (sym is), dead)

front_length : (xs : List Taken) (k : ℕ) → k ≤ length xs → length (take k xs) ≡ k
front_length xs k h = grind (arith, rules)

take_front : (xs ys : List Taken) → take (length xs) (xs ++ ys) ≡ xs
take_front [] ys = refl
take_front (x ∷ xs) ys = ap (λ (zs : List Taken). x ∷ zs) (take_front xs ys)

parts_at : (xs : List Taken) (k : ℕ) (l : Taken) → k < length xs → l ≡ get_or xs k l → xs ≡ take k xs ++ l ∷ drop (k + 1) xs
parts_at xs k l lt is =
    sym (take-append-drop (k + 1) xs)
    ∙ ap (λ (zs : List Taken). zs ++ drop (k + 1) xs) (take_more xs k l lt ∙ ap (λ (y : Taken). take k xs ++ y ∷ []) (sym is))
    ∙ append_assoc (take k xs) (l ∷ []) (drop (k + 1) xs)

-- The link at that place is taken out, and all behind it go.
pub taken_from : (now : ℕ) (xs mid new : List Taken) (k : ℕ) (l d : Taken) → slice_get xs k ≡ Some d → IsDead now d → AreFresh now (take k xs)
    → l ≡ get_or xs k l → mid ≡ take k xs ++ drop (k + 1) xs → new ≡ take k mid → IsTakenFrom now xs l new
taken_from now xs mid new k l d there dead fresh is rest front =
    let lt : k < length xs = slice_get_within xs k d there in
    let same : l ≡ d = is ∙ get_or_from_slice_get xs k d l there in
    let len : length (take k xs) ≡ k = front_length xs k (omega (arith, lt)) in
    let kept : new ≡ take k xs =
    front ∙ ap (take k) rest ∙ ap (λ (n : ℕ). take n (take k xs ++ drop (k + 1) xs)) (sym len) ∙ take_front (take k xs) (drop (k + 1) xs) in
    record {
      back = drop (k + 1) xs;
      parts = parts_at xs k l lt is ∙ ap (λ (zs : List Taken). zs ++ l ∷ drop (k + 1) xs) (sym kept);
      fresh = subst (AreFresh now) (sym kept) fresh;
      dead = ap (is_dead now) same ∙ dead;
    }
