-- A walk over data that writes a record for each.
use Rattle.std.proofs.Common.{◌≡◌, ℕ, ◌+◌, ◌<◌, List, length, take, get_or, map, sym, ◌∙◌, ap, subst, arith}
use Rattle.std.specs.Prelude.{flat_map}
use Rattle.std.specs.List.{AllByRecursion}
use Rattle.std.proofs.lemmas.List.{get_or-map, length-map, take-map}
use Rattle.message_grammar.specs.Pieces.{Piece, Text, after}
use Rattle.wire.proofs.Fitting.{all_more}
use Rattle.wire.proofs.Writing.{row_on}

long : {X Y : Type 0} (f : X → Y) (xs : List X) (i : ℕ) → i < length xs → i < length (map f xs)
long f xs i lt = let many : length (map f xs) ≡ length xs = length-map xs f in omega (arith, lt, many)

found : {X Y : Type 0} (f : X → Y) (xs : List X) (i : ℕ) (x : X) → i < length xs → x ≡ get_or xs i x → f x ≡ get_or (map f xs) i (f x)
found f xs i x lt at_i = ap f at_i ∙ sym (get_or-map f xs i x (f x) lt)

pub pieces_on : {X Y : Type 0} (pieces : Y → List Piece) (f : X → Y) (before now next : Text) (xs : List X) (i : ℕ) (x : X) → now ≡ after before (flat_map pieces (map f (take i xs))) → i < length xs
    → x ≡ get_or xs i x → next ≡ after now (pieces (f x)) → next ≡ after before (flat_map pieces (map f (take (i + 1) xs)))
pieces_on {X} {Y} pieces f before now next xs i x h lt at_i k =
    row_on pieces before now next (map f xs) i (f x) (h ∙ ap (λ (l : List Y). after before (flat_map pieces l)) (sym (take-map f i xs))) (long f xs i lt) (found f xs i x lt at_i) k
    ∙ ap (λ (l : List Y). after before (flat_map pieces l)) (take-map f (i + 1) xs)

pub all_on : {X Y : Type 0} (P : Y → Type 0) (f : X → Y) (xs : List X) (i : ℕ) (x : X) → AllByRecursion P (map f (take i xs)) → i < length xs → x ≡ get_or xs i x → P (f x)
    → AllByRecursion P (map f (take (i + 1) xs))
all_on P f xs i x h lt at_i p =
    subst (AllByRecursion P) (take-map f (i + 1) xs)
    (all_more P (map f xs) i (f x) (subst (AllByRecursion P) (sym (take-map f i xs)) h) (long f xs i lt) (found f xs i x lt at_i) p)
