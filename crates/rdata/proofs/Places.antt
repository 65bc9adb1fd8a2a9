-- One of the data of a set where they lie.
use Rattle.std.proofs.Common.{◌≡◌, ℕ, zero, suc, ◌<◌, List, [], ◌∷◌, ◌++◌, length, get_or, take, drop, map, sym, ◌∙◌, ap, arith}
use Rattle.std.proofs.lemmas.List.{append-nil, length-map, take_all, drop_all}

pub only_one : {X : Type 0} (xs : List X) (x : X) (i : ℕ) → xs ≡ x ∷ [] → i < length xs → x ≡ get_or xs i x
only_one xs x i is within =
    let one = ap length is in
    let first : i ≡ 0 = omega arith in
    sym (ap (λ l. get_or l i x) is ∙ ap (λ n. get_or (x ∷ []) n x) first)

within_map : {X Y : Type 0} (f : X → Y) (xs : List X) (i : ℕ) (x : X) → i < length xs → x ≡ get_or xs i x → f x ≡ get_or (map f xs) i (f x)
within_map f [] i x h e = absurd (omega arith)
within_map f (y ∷ ys) zero x h e = ap f e
within_map f (y ∷ ys) (suc i) x h e = within_map f ys i x (omega arith) e

pub within : {X Y : Type 0} (f : X → Y) (xs : List X) (ys : List Y) (i : ℕ) → map f xs ≡ ys → i < length ys → i < length xs
within f xs ys i is h =
    let same = ap length is in
    omega (arith, length-map xs f)

pub as_many : {X Y : Type 0} (f : X → Y) (xs : List X) (ys : List Y) → map f xs ≡ ys → length xs ≡ length ys
as_many f xs ys is = sym (length-map xs f) ∙ ap length is

pub one_of : {X Y : Type 0} (f : X → Y) (xs : List X) (ys : List Y) (i : ℕ) (x : X) → map f xs ≡ ys → i < length ys → x ≡ get_or xs i x → f x ≡ get_or ys i (f x)
one_of f xs ys i x is h e = within_map f xs i x (within f xs ys i is h) e ∙ ap (λ l. get_or l i (f x)) is

-- A whole list that is written over.
pub written_over : {X : Type 0} (xs ys : List X) (n : ℕ) → length ys ≡ length xs → n ≡ length xs → take n (ys ++ drop (length ys) xs) ≡ ys
written_over xs ys n same long =
    ap (λ l. take n (ys ++ l)) (drop_all (length ys) xs (omega arith)) ∙ (ap (take n) (append-nil ys) ∙ take_all n ys (omega arith))
