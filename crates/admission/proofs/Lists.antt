-- The first of a list that passes a test, and the others: where they stand, and how many pass.
use Rattle.std.proofs.Common.{◌≡◌, ℕ, zero, suc, ◌+◌, ◌<◌, ◌≤◌, Bool, true, false, not, cond, List, [], ◌∷◌, ◌++◌, length, get_or, Option, Some, None, refl, sym, ap, ◌∙◌, ltb, arith}
use Rattle.std.specs.List.{count_by, filter, remove, position, position_or_len}
use Rattle.std.specs.Option.{OnSome}
use Rattle.std.proofs.lemmas.Bool.{ltb-false}
use Rattle.std.proofs.lemmas.List.Quantifiers.{position-Some}
use Rattle.std.proofs.lemmas.List.Sums.{sum_by-cons, sum_by-append, sum_by_push, length-filter, count_by-le-length}
use Rattle.admission.specs.Moves.{first_of, without_first}

-- Either answer of a test.
pub by_test : {P : Type 0} (b : Bool) → (b ≡ true → P) → (b ≡ false → P) → P
by_test true p q = p refl
by_test false p q = q refl

pub when_true : {A : Type 0} {b : Bool} (x y : A) → b ≡ true → cond b x y ≡ x
when_true x y e = ap (λ c. cond c x y) e

pub when_false : {A : Type 0} {b : Bool} (x y : A) → b ≡ false → cond b x y ≡ y
when_false x y e = ap (λ c. cond c x y) e

-- One where the test passes.
abbrev pub one : Bool → ℕ
one b = cond b 1 0

pub one-true : (b : Bool) → b ≡ true → one b ≡ 1
one-true b e = ap one e

pub one-false : (b : Bool) → b ≡ false → one b ≡ 0
one-false b e = ap one e

module _ {X : Type 0} (p : X → Bool) where
  pub count-cons : (x : X) (xs : List X) → count_by p (x ∷ xs) ≡ one (p x) + count_by p xs
  count-cons x xs = sum_by-cons (λ y. cond (p y) 1 0) x xs

  pub count-append : (xs ys : List X) → count_by p (xs ++ ys) ≡ count_by p xs + count_by p ys
  count-append xs ys = sum_by-append (λ y. cond (p y) 1 0) xs ys

  pub count-push : (xs : List X) (x : X) → count_by p (xs ++ x ∷ []) ≡ count_by p xs + one (p x)
  count-push xs x = sum_by_push (λ y. cond (p y) 1 0) xs x

when_some : {X : Type 0} (r : Option X) (x : X) (P : Type 0) → r ≡ Some x → OnSome r P → P
when_some None x P e h = cc
when_some (Some y) x P e h = h

module _ {X : Type 0} (test : X → Bool) where
  -- What is first passes.
  pub passes : (xs : List X) (x : X) → first_of test xs ≡ Some x → test x ≡ true
  passes [] x e = cc
  passes (y ∷ ys) x e = by_test (test y)
      (λ t. let s : Some y ≡ Some x = sym (when_true (Some y) (first_of test ys) t) ∙ e in let i : y ≡ x = cc in sym (ap test i) ∙ t)
      (λ f. passes ys x (sym (when_false (Some y) (first_of test ys) f) ∙ e))

  -- Where none is first, none passes and all are the others.
  pub none_passes : (xs : List X) → first_of test xs ≡ None → count_by test xs ≡ 0
  none_passes [] e = refl
  none_passes (y ∷ ys) e = by_test (test y)
      (λ t. let s : Some y ≡ None = sym (when_true (Some y) (first_of test ys) t) ∙ e in cc)
      (λ f. let h : count_by test ys ≡ 0 = none_passes ys (sym (when_false (Some y) (first_of test ys) f) ∙ e) in
      let z : one (test y) ≡ 0 = one-false (test y) f in
      let n : count_by test (y ∷ ys) ≡ one (test y) + count_by test ys = count-cons test y ys in
      omega arith)

  -- Where none passes, none is first.
  pub none_first : (xs : List X) → count_by test xs ≡ 0 → first_of test xs ≡ None
  none_first [] e = refl
  none_first (y ∷ ys) e =
      let n : count_by test (y ∷ ys) ≡ one (test y) + count_by test ys = count-cons test y ys in
      by_test (test y)
      (λ t. let o : one (test y) ≡ 1 = one-true (test y) t in absurd (omega (arith, e, n, o)))
      (λ f. when_false (Some y) (first_of test ys) f ∙ none_first ys (omega (arith, e, n)))

  pub none_goes : (xs : List X) → first_of test xs ≡ None → without_first test xs ≡ xs
  none_goes [] e = refl
  none_goes (y ∷ ys) e = by_test (test y)
      (λ t. let s : Some y ≡ None = sym (when_true (Some y) (first_of test ys) t) ∙ e in cc)
      (λ f. when_false ys (y ∷ without_first test ys) f ∙ ap (λ zs. y ∷ zs) (none_goes ys (sym (when_false (Some y) (first_of test ys) f) ∙ e)))

  -- The others with the first are all.
  pub count_without : (p : X → Bool) (xs : List X) (x : X) → first_of test xs ≡ Some x → count_by p (without_first test xs) + one (p x) ≡ count_by p xs
  count_without p [] x e = cc
  count_without p (y ∷ ys) x e = by_test (test y)
      (λ t. let s : Some y ≡ Some x = sym (when_true (Some y) (first_of test ys) t) ∙ e in
      let i : y ≡ x = cc in
      let j : one (p y) ≡ one (p x) = ap (λ z. one (p z)) i in
      let w : count_by p (without_first test (y ∷ ys)) ≡ count_by p ys = ap (λ zs. count_by p zs) (when_true ys (y ∷ without_first test ys) t) in
      let n : count_by p (y ∷ ys) ≡ one (p y) + count_by p ys = count-cons p y ys in
      omega arith)
      (λ f. let h : count_by p (without_first test ys) + one (p x) ≡ count_by p ys = count_without p ys x (sym (when_false (Some y) (first_of test ys) f) ∙ e) in
      let w : count_by p (without_first test (y ∷ ys)) ≡ count_by p (y ∷ without_first test ys) = ap (λ zs. count_by p zs) (when_false ys (y ∷ without_first test ys) f) in
      let m : count_by p (y ∷ without_first test ys) ≡ one (p y) + count_by p (without_first test ys) = count-cons p y (without_first test ys) in
      let n : count_by p (y ∷ ys) ≡ one (p y) + count_by p ys = count-cons p y ys in
      omega arith)

  pub length_without : (xs : List X) (x : X) → first_of test xs ≡ Some x → length (without_first test xs) + 1 ≡ length xs
  length_without [] x e = cc
  length_without (y ∷ ys) x e = by_test (test y)
      (λ t. let w : length (without_first test (y ∷ ys)) ≡ length ys = ap length (when_true ys (y ∷ without_first test ys) t) in omega arith)
      (λ f. let h : length (without_first test ys) + 1 ≡ length ys = length_without ys x (sym (when_false (Some y) (first_of test ys) f) ∙ e) in
      let w : length (without_first test (y ∷ ys)) ≡ suc (length (without_first test ys)) = ap length (when_false ys (y ∷ without_first test ys) f) in omega arith)

  -- Where it stands at a place, and what stands before does not pass.
  pub found_at : (xs : List X) (i : ℕ) (d : X) → i < length xs → test (get_or xs i d) ≡ true → ((k : ℕ) → k < i → test (get_or xs k d) ≡ false) → first_of test xs ≡ Some (get_or xs i d)
  found_at [] i d l t before = absurd (omega arith)
  found_at (y ∷ ys) zero d l t before = when_true (Some y) (first_of test ys) t
  found_at (y ∷ ys) (suc i) d l t before =
      when_false (Some y) (first_of test ys) (before 0 (omega arith)) ∙ found_at ys i d (omega arith) t (λ k m. before (suc k) (omega arith))

  pub gone_at : (xs : List X) (i : ℕ) (d : X) → i < length xs → test (get_or xs i d) ≡ true → ((k : ℕ) → k < i → test (get_or xs k d) ≡ false) → without_first test xs ≡ remove xs i
  gone_at [] i d l t before = absurd (omega arith)
  gone_at (y ∷ ys) zero d l t before = when_true ys (y ∷ without_first test ys) t
  gone_at (y ∷ ys) (suc i) d l t before =
      when_false ys (y ∷ without_first test ys) (before 0 (omega arith)) ∙ ap (λ zs. y ∷ zs) (gone_at ys i d (omega arith) t (λ k m. before (suc k) (omega arith)))

  -- Where `position` says that the first stands, it is taken from there.
  pub taken_there : (xs ys : List X) (i : ℕ) (r : Option X) → position test xs ≡ Some i → ((d : X) → i < length xs → r ≡ Some (get_or xs i d)) → OnSome r (ys ≡ remove xs i) → (r ≡ first_of test xs) × (ys ≡ without_first test xs)
  taken_there [] ys i r e f g = cc
  taken_there (x ∷ xs) ys i r e f g =
      let h = position-Some test (x ∷ xs) i x e in
      let s : r ≡ Some (get_or (x ∷ xs) i x) = f x h.0 in
      (s ∙ sym (found_at (x ∷ xs) i x h.0 h.1 h.2), when_some r (get_or (x ∷ xs) i x) (ys ≡ remove (x ∷ xs) i) s g ∙ sym (gone_at (x ∷ xs) i x h.0 h.1 h.2))

  pub gone_there : (xs : List X) (i : ℕ) → position test xs ≡ Some i → without_first test xs ≡ remove xs i
  gone_there [] i e = cc
  gone_there (x ∷ xs) i e = let h = position-Some test (x ∷ xs) i x e in gone_at (x ∷ xs) i x h.0 h.1 h.2

  pub found_there : (xs : List X) (i : ℕ) (d : X) → position test xs ≡ Some i → first_of test xs ≡ Some (get_or xs i d)
  found_there xs i d e = let h = position-Some test xs i d e in found_at xs i d h.0 h.1 h.2

  pub stands_within : (xs : List X) (i : ℕ) → position test xs ≡ Some i → i < length xs
  stands_within [] i e = cc
  stands_within (x ∷ xs) i e = let h = position-Some test (x ∷ xs) i x e in h.0

  pub passes_there : (xs : List X) (i : ℕ) (q : X) → position test xs ≡ Some i → q ≡ get_or xs i q → test q ≡ true
  passes_there xs i q e f = let h = position-Some test xs i q e in ap test f ∙ h.1

  absent : (xs : List X) → length xs ≤ position_or_len test xs → first_of test xs ≡ None
  absent [] l = refl
  absent (y ∷ ys) l = by_test (test y)
      (λ t. let z : position_or_len test (y ∷ ys) ≡ 0 = when_false (1 + position_or_len test ys) 0 (ap not t) in absurd (omega (arith, l, z)))
      (λ f. let z : position_or_len test (y ∷ ys) ≡ 1 + position_or_len test ys = when_true (1 + position_or_len test ys) 0 (ap not f) in
      when_false (Some y) (first_of test ys) f ∙ absent ys (omega (arith, l, z)))

  pub not_there : (xs : List X) → position test xs ≡ None → first_of test xs ≡ None
  not_there xs e = by_test (ltb (position_or_len test xs) (length xs))
      (λ t. let s : Some (position_or_len test xs) ≡ None = sym (when_true (Some (position_or_len test xs)) None t) ∙ e in cc)
      (λ f. absent xs (ltb-false (position_or_len test xs) (length xs) f))

-- What is left where the one at a place was removed.
pub count_removed : {X : Type 0} (p : X → Bool) (xs : List X) (i : ℕ) (d : X) → i < length xs → count_by p (remove xs i) + one (p (get_or xs i d)) ≡ count_by p xs
count_removed p [] i d l = absurd (omega arith)
count_removed p (x ∷ xs) zero d l = let n : count_by p (x ∷ xs) ≡ one (p x) + count_by p xs = count-cons p x xs in let m : count_by p xs + one (p x) ≡ one (p x) + count_by p xs = omega arith in m ∙ sym n
count_removed p (x ∷ xs) (suc i) d l =
    let h : count_by p (remove xs i) + one (p (get_or xs i d)) ≡ count_by p xs = count_removed p xs i d (omega arith) in
    let n : count_by p (x ∷ xs) ≡ one (p x) + count_by p xs = count-cons p x xs in
    let m : count_by p (x ∷ remove xs i) ≡ one (p x) + count_by p (remove xs i) = count-cons p x (remove xs i) in
    let r : count_by p (x ∷ remove xs i) + one (p (get_or xs i d)) ≡ count_by p (x ∷ xs) = omega (arith, h, n, m) in
    r

pub length_removed : {X : Type 0} (xs : List X) (i : ℕ) → i < length xs → length (remove xs i) + 1 ≡ length xs
length_removed [] i l = absurd (omega arith)
length_removed (x ∷ xs) zero l = let r : length xs + 1 ≡ suc (length xs) = omega arith in r
length_removed (x ∷ xs) (suc i) l =
    let h : length (remove xs i) + 1 ≡ length xs = length_removed xs i (omega arith) in
    let r : suc (length (remove xs i)) + 1 ≡ suc (length xs) = omega (arith, h) in
    r

pub count_left : {X : Type 0} (p : X → Bool) (xs ys : List X) (i : ℕ) (q : X) → i < length xs → q ≡ get_or xs i q → ys ≡ remove xs i → count_by p ys + one (p q) ≡ count_by p xs
count_left p xs ys i q l e f =
    let n : count_by p ys ≡ count_by p (remove xs i) = ap (λ zs. count_by p zs) f in
    let m : one (p q) ≡ one (p (get_or xs i q)) = ap (λ z. one (p z)) e in
    let r : count_by p (remove xs i) + one (p (get_or xs i q)) ≡ count_by p xs = count_removed p xs i q l in
    omega (arith, n, m, r)

pub length_left : {X : Type 0} (xs ys : List X) (i : ℕ) → i < length xs → ys ≡ remove xs i → length ys + 1 ≡ length xs
length_left xs ys i l f = let n : length ys ≡ length (remove xs i) = ap length f in let r : length (remove xs i) + 1 ≡ length xs = length_removed xs i l in omega (arith, n, r)

-- Fewer, or as many, pass of what is left.
module _ {X : Type 0} (test p : X → Bool) where
  fewer_by : (xs : List X) (o : Option X) → first_of test xs ≡ o → count_by p (without_first test xs) ≤ count_by p xs
  fewer_by xs None e = let n : count_by p (without_first test xs) ≡ count_by p xs = ap (λ zs. count_by p zs) (none_goes test xs e) in omega (arith, n)
  fewer_by xs (Some x) e = let n : count_by p (without_first test xs) + one (p x) ≡ count_by p xs = count_without test p xs x e in omega (arith, n)

  pub fewer_without : (xs : List X) → count_by p (without_first test xs) ≤ count_by p xs
  fewer_without xs = fewer_by xs (first_of test xs) refl

  pub fewer_filtered : (xs : List X) → count_by p (filter test xs) ≤ count_by p xs
  fewer_filtered [] = omega arith
  fewer_filtered (x ∷ xs) =
      let h : count_by p (filter test xs) ≤ count_by p xs = fewer_filtered xs in
      let n : count_by p (x ∷ xs) ≡ one (p x) + count_by p xs = count-cons p x xs in
      by_test (test x)
      (λ t. let m : count_by p (filter test (x ∷ xs)) ≡ count_by p (x ∷ filter test xs) = ap (λ zs. count_by p zs) (when_true (x ∷ filter test xs) (filter test xs) t) in
      let r : count_by p (x ∷ filter test xs) ≡ one (p x) + count_by p (filter test xs) = count-cons p x (filter test xs) in
      omega (arith, h, n, m, r))
      (λ f. let m : count_by p (filter test (x ∷ xs)) ≡ count_by p (filter test xs) = ap (λ zs. count_by p zs) (when_false (x ∷ filter test xs) (filter test xs) f) in
      omega (arith, h, n, m))

module _ {X : Type 0} (test : X → Bool) where
  shorter_by : (xs : List X) (o : Option X) → first_of test xs ≡ o → length (without_first test xs) ≤ length xs
  shorter_by xs None e = let n : length (without_first test xs) ≡ length xs = ap length (none_goes test xs e) in omega (arith, n)
  shorter_by xs (Some x) e = let n : length (without_first test xs) + 1 ≡ length xs = length_without test xs x e in omega (arith, n)

  pub shorter_without : (xs : List X) → length (without_first test xs) ≤ length xs
  shorter_without xs = shorter_by xs (first_of test xs) refl

  pub shorter_filtered : (xs : List X) → length (filter test xs) ≤ length xs
  shorter_filtered xs = let n : length (filter test xs) ≡ count_by test xs = length-filter test xs in let m : count_by test xs ≤ length xs = count_by-le-length test xs in omega (arith, n, m)
