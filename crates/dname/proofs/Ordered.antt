-- How the comparison of names goes on, label by label.
use Rattle.std.proofs.Common.{◌≡◌, ℕ, zero, suc, ◌+◌, ◌-◌, ◌<◌, List, [], ◌∷◌, ◌++◌, length, take, drop, reverse, refl, sym, ◌∙◌, ap, arith, length-append, length-drop, inl, inr}
use Rattle.std.proofs.lemmas.List.{reverse-append, length-reverse, take-append-drop}
use Rattle.std.proofs.lemmas.Bool.{cases_lt}
use Rattle.std.proofs.lemmas.Bool.Decides.{nat_tests}
use Rattle.std.specs.declared.cmp.Ordering.{Ordering}
use Rattle.std.specs.declared.cmp.Ordering.TheVariants.{Less, Equal, Greater}
use Rattle.std.specs.Ordering.{ordering_then, nat_cmp}
use Rattle.std.specs.Cmp.Lexicographic.{slice_cmp}
use Rattle.dname.specs.Order.{label_cmp, name_cmp}

then_assoc : (a b c : Ordering) → ordering_then a (ordering_then b c) ≡ ordering_then (ordering_then a b) c
then_assoc Less b c = refl
then_assoc Equal b c = refl
then_assoc Greater b c = refl

then_Equal : (a : Ordering) → ordering_then a Equal ≡ a
then_Equal Less = refl
then_Equal Equal = refl
then_Equal Greater = refl

-- Lists of one length decide before what stands behind them.
seam : (p q s t : List (List ℕ)) → length p ≡ length q → slice_cmp label_cmp (p ++ s) (q ++ t) ≡ ordering_then (slice_cmp label_cmp p q) (slice_cmp label_cmp s t)
seam [] [] s t e = refl
seam [] (y ∷ q) s t e = absurd (omega arith)
seam (x ∷ p) [] s t e = absurd (omega arith)
seam (x ∷ p) (y ∷ q) s t e =
    ap (λ (o : Ordering). ordering_then (label_cmp x y) o) (seam p q s t (omega arith)) ∙ then_assoc (label_cmp x y) (slice_cmp label_cmp p q) (slice_cmp label_cmp s t)

-- Names with as many labels, and further labels in front of either.
in_front : (front other a b : List (List ℕ)) → length a ≡ length b → name_cmp (front ++ a) (other ++ b) ≡ ordering_then (name_cmp a b) (slice_cmp label_cmp (reverse front) (reverse other))
in_front front other a b e =
    ap (λ (x : List (List ℕ)). slice_cmp label_cmp x (reverse (other ++ b))) (reverse-append front a)
    ∙ (ap (λ (y : List (List ℕ)). slice_cmp label_cmp (reverse a ++ reverse front) y) (reverse-append other b)
    ∙ seam (reverse a) (reverse b) (reverse front) (reverse other) (length-reverse a ∙ (e ∙ sym (length-reverse b))))

-- One label more on both sides.
pub one_more : (x y : List ℕ) (a b : List (List ℕ)) (order : Ordering) → length a ≡ length b
    → ordering_then (name_cmp (x ∷ a) (y ∷ b)) order ≡ ordering_then (name_cmp a b) (ordering_then (label_cmp x y) order)
one_more x y a b order e =
    ap (λ (o : Ordering). ordering_then o order) (in_front (x ∷ []) (y ∷ []) a b e ∙ ap (λ (o : Ordering). ordering_then (name_cmp a b) o) (then_Equal (label_cmp x y)))
    ∙ sym (then_assoc (name_cmp a b) (label_cmp x y) order)

some_first : (s : List (List ℕ)) → 0 < length s → slice_cmp label_cmp s [] ≡ Greater
some_first [] h = absurd (omega arith)
some_first (x ∷ s) h = refl

none_first : (s : List (List ℕ)) → 0 < length s → slice_cmp label_cmp [] s ≡ Less
none_first [] h = absurd (omega arith)
none_first (x ∷ s) h = refl

-- The longer name without the labels that it has more.
longer : (a b : List (List ℕ)) (k : ℕ) → 0 < k → length a ≡ k + length b → name_cmp a b ≡ ordering_then (name_cmp (drop k a) b) Greater
longer a b k h e =
    let more : length (drop k a) ≡ length b = omega (arith, length-drop k a) in
    let some : 0 < length (reverse (take k a)) = omega (arith, length-reverse (take k a), ap length (take-append-drop k a), length-append (take k a) (drop k a)) in
    ap (λ (x : List (List ℕ)). name_cmp x b) (sym (take-append-drop k a))
    ∙ (in_front (take k a) [] (drop k a) b more
    ∙ ap (λ (o : Ordering). ordering_then (name_cmp (drop k a) b) o) (some_first (reverse (take k a)) some))

shorter : (a b : List (List ℕ)) (k : ℕ) → 0 < k → length b ≡ k + length a → name_cmp a b ≡ ordering_then (name_cmp a (drop k b)) Less
shorter a b k h e =
    let more : length a ≡ length (drop k b) = omega (arith, length-drop k b) in
    let some : 0 < length (reverse (take k b)) = omega (arith, length-reverse (take k b), ap length (take-append-drop k b), length-append (take k b) (drop k b)) in
    ap (λ (x : List (List ℕ)). name_cmp a x) (sym (take-append-drop k b))
    ∙ (in_front [] (take k b) a (drop k b) more
    ∙ ap (λ (o : Ordering). ordering_then (name_cmp a (drop k b)) o) (none_first (reverse (take k b)) some))

greater : (m n : ℕ) → n < m → nat_cmp m n ≡ Greater
greater m n h = grind (arith, nat_tests)

less : (m n : ℕ) → m < n → nat_cmp m n ≡ Less
less m n h = grind (arith, nat_tests)

equal : (m n : ℕ) → m ≡ n → nat_cmp m n ≡ Equal
equal m n h = grind (arith, nat_tests)

none_dropped : (s : List (List ℕ)) (k : ℕ) → k ≡ 0 → drop k s ≡ s
none_dropped s k e = ap (λ (n : ℕ). drop n s) e

-- Where the labels that one name has more are passed over, only their number counts for them.
by_sizes : (a b : List (List ℕ)) (m n : ℕ) → m + 1 ≡ length a → n + 1 ≡ length b
    → name_cmp a b ≡ ordering_then (name_cmp (drop (m - n) a) (drop (n - m) b)) (nat_cmp m n)
by_sizes a b m n ea eb =
    elim (cases_lt m n) [
      | inl lt ↦ shorter a b (n - m) (omega arith) (omega arith)
          ∙ ap (λ (x : List (List ℕ)). ordering_then (name_cmp x (drop (n - m) b)) Less) (sym (none_dropped a (m - n) (omega arith)))
          ∙ ap (λ (o : Ordering). ordering_then (name_cmp (drop (m - n) a) (drop (n - m) b)) o) (sym (less m n lt))
      | inr le ↦ elim (cases_lt n m) [
        | inl gt ↦ longer a b (m - n) (omega arith) (omega arith)
            ∙ ap (λ (x : List (List ℕ)). ordering_then (name_cmp (drop (m - n) a) x) Greater) (sym (none_dropped b (n - m) (omega arith)))
            ∙ ap (λ (o : Ordering). ordering_then (name_cmp (drop (m - n) a) (drop (n - m) b)) o) (sym (greater m n gt))
        | inr ge ↦ sym (then_Equal (name_cmp a b))
            ∙ ap (λ (x : List (List ℕ)). ordering_then (name_cmp x b) Equal) (sym (none_dropped a (m - n) (omega arith)))
            ∙ ap (λ (x : List (List ℕ)). ordering_then (name_cmp (drop (m - n) a) x) Equal) (sym (none_dropped b (n - m) (omega arith)))
            ∙ ap (λ (o : Ordering). ordering_then (name_cmp (drop (m - n) a) (drop (n - m) b)) o) (sym (equal m n (omega arith)))
      ]
    ]

pub evened : (a b x y : List (List ℕ)) (m n : ℕ) (order : Ordering) → m + 1 ≡ length a → n + 1 ≡ length b → x ≡ drop (m - n) a → y ≡ drop (n - m) b → order ≡ nat_cmp m n
    → name_cmp a b ≡ ordering_then (name_cmp x y) order
evened a b x y m n order ea eb ex ey eo = by_sizes a b m n ea eb ∙ sym (λ i. ordering_then (name_cmp (ex i) (ey i)) (eo i))

pub even_sizes : (a b x y : List (List ℕ)) (m n : ℕ) → m + 1 ≡ length a → n + 1 ≡ length b → x ≡ drop (m - n) a → y ≡ drop (n - m) b → length x ≡ length y
even_sizes a b x y m n ea eb ex ey = omega (arith, ap length ex, ap length ey, length-drop (m - n) a, length-drop (n - m) b)

-- A label passed over.
pub dropped_one : (k : ℕ) (xs : List (List ℕ)) (y : List ℕ) (ys : List (List ℕ)) → y ∷ ys ≡ drop k xs → ys ≡ drop (k + 1) xs
dropped_one zero [] y ys e = cc
dropped_one zero (x ∷ xs) y ys e = cc
dropped_one (suc k) [] y ys e = cc
dropped_one (suc k) (x ∷ xs) y ys e = dropped_one k xs y ys e ∙ ap (λ (n : ℕ). drop n (x ∷ xs)) (let s : suc (k + 1) ≡ suc k + 1 = omega arith in s)
