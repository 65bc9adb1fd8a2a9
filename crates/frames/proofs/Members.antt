-- Members of filtered lists, and lists in which no address stands twice.
use Rattle.std.proofs.Common.{◌≡◌, ℕ, zero, suc, Bool, true, false, cond, ◌||◌, ◌⊎◌, inl, inr, List, [], ◌∷◌, ◌++◌, take, filter, Contains, refl, sym, ap, ◌∙◌, subst}
use Rattle.std.specs.List.{IsDistinct, All}
use Rattle.std.proofs.lemmas.List.Elements.{All-nil, All-cons, All-contains, All-from_recursion, recursion_from_All, Contains-append_cases}
use Rattle.std.proofs.lemmas.Map.Keys.{IsDistinct-head, IsDistinct-tail, IsDistinct-cons}
use Rattle.lru.proofs.Splits.{Contains-head, Contains-tail, Contains-cons, Contains-nil}
use Rattle.lru.proofs.CallerLemmas.{Contains-take}
use Rattle.rdata.specs.declared.addr.Addr.{Addr}
use Rattle.retry.specs.Penalties.{same_addr}
use Rattle.retry.proofs.Exact.{same_addr_exact}
use Rattle.frames.specs.Frames.{has_address}

-- Either answer of a test.
pub by_test : {P : Type 0} (b : Bool) → (b ≡ true → P) → (b ≡ false → P) → P
by_test true p q = p refl
by_test false p q = q refl

pub first_of : {X : Type 0} {b : Bool} (x y : X) → b ≡ true → cond b x y ≡ x
first_of x y e = ap (λ c. cond c x y) e

pub second_of : {X : Type 0} {b : Bool} (x y : X) → b ≡ false → cond b x y ≡ y
second_of x y e = ap (λ c. cond c x y) e

pub true_or_false : {P : Type 0} {b : Bool} → b ≡ true → b ≡ false → P
true_or_false t f = cc

pub other_or : {b : Bool} (c : Bool) → b ≡ false → (b || c) ≡ c
other_or c e = ap (λ t. t || c) e

pub one_or : {b : Bool} (c : Bool) → b ≡ true → (b || c) ≡ true
one_or c e = ap (λ t. t || c) e

-- ---- filters

pub filter_from : {X : Type 0} (p : X → Bool) (xs : List X) (x : X) → Contains (filter p xs) x → Contains xs x × (p x ≡ true)
filter_from p [] x c = absurd (Contains-nil x c)
filter_from {X} p (y ∷ xs) x c = by_test (p y) (λ e. here (filter_from p xs x) e (Contains-cons y (filter p xs) x (subst (λ (l : List X). Contains l x) (first_of (y ∷ filter p xs) (filter p xs) e) c)))
    (λ e. past (filter_from p xs x (subst (λ (l : List X). Contains l x) (second_of (y ∷ filter p xs) (filter p xs) e) c)))
  where
    past : Contains xs x × (p x ≡ true) → Contains (y ∷ xs) x × (p x ≡ true)
    past m = (Contains-tail y xs x m.0, m.1)

    here : (Contains (filter p xs) x → Contains xs x × (p x ≡ true)) → p y ≡ true → (y ≡ x) ⊎ Contains (filter p xs) x → Contains (y ∷ xs) x × (p x ≡ true)
    here more e (inl is) = (subst (Contains (y ∷ xs)) is (Contains-head y xs), ap p (sym is) ∙ e)
    here more e (inr d) = past (more d)

pub filter_there : {X : Type 0} (p : X → Bool) (xs : List X) (x : X) → Contains xs x → p x ≡ true → Contains (filter p xs) x
filter_there p [] x c h = absurd (Contains-nil x c)
filter_there {X} p (y ∷ xs) x c h = by (λ d. filter_there p xs x d h) (Contains-cons y xs x c)
  where
    by : (Contains xs x → Contains (filter p xs) x) → (y ≡ x) ⊎ Contains xs x → Contains (filter p (y ∷ xs)) x
    by more (inl is) = subst (λ (l : List X). Contains l x) (sym (first_of (y ∷ filter p xs) (filter p xs) (ap p is ∙ h))) (subst (Contains (y ∷ filter p xs)) is (Contains-head y (filter p xs)))
    by more (inr d) = by_test (p y)
        (λ e. subst (λ (l : List X). Contains l x) (sym (first_of (y ∷ filter p xs) (filter p xs) e)) (Contains-tail y (filter p xs) x (more d)))
        (λ e. subst (λ (l : List X). Contains l x) (sym (second_of (y ∷ filter p xs) (filter p xs) e)) (more d))

-- ---- equality of addresses

pub same_flip : (a b : Addr) → same_addr a b ≡ same_addr b a
same_flip a b = by_test (same_addr a b)
    (λ e. e ∙ sym (subst (λ (x : Addr). same_addr x a ≡ true) (same_addr_exact.equal a b e) (same_addr_exact.refl a)))
    (λ e. by_test (same_addr b a)
    (λ f. true_or_false (subst (λ (x : Addr). same_addr x b ≡ true) (same_addr_exact.equal b a f) (same_addr_exact.refl b)) e)
    (λ f. e ∙ sym f))

pub has_in : (xs : List Addr) (a : Addr) → has_address xs a ≡ true → Contains xs a
has_in [] a h = true_or_false h refl
has_in (x ∷ xs) a h = by_test (same_addr a x)
    (λ e. subst (Contains (x ∷ xs)) (sym (same_addr_exact.equal a x e)) (Contains-head x xs))
    (λ e. Contains-tail x xs a (has_in xs a (sym (other_or (has_address xs a) e) ∙ h)))

pub in_has : (xs : List Addr) (a : Addr) → Contains xs a → has_address xs a ≡ true
in_has [] a c = absurd (Contains-nil a c)
in_has (x ∷ xs) a c = by_test (same_addr a x)
    (λ e. one_or (has_address xs a) e)
    (λ e. other_or (has_address xs a) e ∙ elim (Contains-cons x xs a c) [
      | inl is ↦ true_or_false (subst (λ (z : Addr). same_addr z x ≡ true) is (same_addr_exact.refl x)) e
      | inr d ↦ in_has xs a d
    ])

-- What passes a filter is in the filtered list where it is in the list.
pub has_filtered : (p : Addr → Bool) (xs : List Addr) (a : Addr) → p a ≡ true → has_address (filter p xs) a ≡ has_address xs a
has_filtered p [] a h = refl
has_filtered p (x ∷ xs) a h = by_test (p x)
    (λ e. ap (λ (l : List Addr). has_address l a) (first_of (x ∷ filter p xs) (filter p xs) e) ∙ ap (λ (t : Bool). same_addr a x || t) (has_filtered p xs a h))
    (λ e. ap (λ (l : List Addr). has_address l a) (second_of (x ∷ filter p xs) (filter p xs) e) ∙ (has_filtered p xs a h ∙ sym (other_or (has_address xs a) (apart e))))
  where
    apart : p x ≡ false → same_addr a x ≡ false
    apart e = by_test (same_addr a x)
        (λ s. true_or_false (ap p (sym (same_addr_exact.equal a x s)) ∙ h) e)
        (λ n. n)

-- ---- no address twice

all_of : (P : Addr → Type 0) (xs : List Addr) → ((x : Addr) → Contains xs x → P x) → All P xs
all_of P [] h = All-nil P
all_of P (x ∷ xs) h = All-cons P x xs (h x (Contains-head x xs)) (all_of P xs (λ y c. h y (Contains-tail x xs y c)))

pub distinct_with : (a : Addr) (xs : List Addr) → ((y : Addr) → Contains xs y → same_addr a y ≡ false) → IsDistinct same_addr xs → IsDistinct same_addr (a ∷ xs)
distinct_with a xs h d = IsDistinct-cons same_addr a xs (recursion_from_All (λ y. same_addr a y ≡ false) xs (all_of (λ y. same_addr a y ≡ false) xs h)) d

pub distinct_apart : (a : Addr) (xs : List Addr) (y : Addr) → IsDistinct same_addr (a ∷ xs) → Contains xs y → same_addr a y ≡ false
distinct_apart a xs y d c = All-contains (λ y. same_addr a y ≡ false) xs y (All-from_recursion (λ y. same_addr a y ≡ false) xs (IsDistinct-head same_addr a xs d)) c

pub none_twice : IsDistinct same_addr []
unfolding IsDistinct
none_twice = tt

pub distinct_filter : (p : Addr → Bool) (xs : List Addr) → IsDistinct same_addr xs → IsDistinct same_addr (filter p xs)
distinct_filter p [] d = none_twice
distinct_filter p (x ∷ xs) d = by_test (p x)
    (λ e. subst (IsDistinct same_addr) (sym (first_of (x ∷ filter p xs) (filter p xs) e))
    (distinct_with x (filter p xs) (λ y c. distinct_apart x xs y d (filter_from p xs y c).0) (distinct_filter p xs (IsDistinct-tail same_addr x xs d))))
    (λ e. subst (IsDistinct same_addr) (sym (second_of (x ∷ filter p xs) (filter p xs) e)) (distinct_filter p xs (IsDistinct-tail same_addr x xs d)))

pub distinct_take : (n : ℕ) (xs : List Addr) → IsDistinct same_addr xs → IsDistinct same_addr (take n xs)
distinct_take zero xs d = none_twice
distinct_take (suc n) [] d = none_twice
distinct_take (suc n) (x ∷ xs) d = distinct_with x (take n xs) (λ y c. distinct_apart x xs y d (Contains-take n xs y c)) (distinct_take n xs (IsDistinct-tail same_addr x xs d))

pub distinct_both : (xs ys : List Addr) → IsDistinct same_addr xs → IsDistinct same_addr ys → ((y : Addr) → Contains ys y → has_address xs y ≡ false) → IsDistinct same_addr (xs ++ ys)
distinct_both [] ys d e h = e
distinct_both (x ∷ xs) ys d e h = distinct_with x (xs ++ ys) apart (distinct_both xs ys (IsDistinct-tail same_addr x xs d) e later)
  where
    later : (y : Addr) → Contains ys y → has_address xs y ≡ false
    later y c = by_test (has_address xs y)
        (λ t. true_or_false (by_test (same_addr y x) (λ s. one_or (has_address xs y) s) (λ s. other_or (has_address xs y) s ∙ t)) (h y c))
        (λ n. n)

    first : (y : Addr) → Contains ys y → same_addr x y ≡ false
    first y c = by_test (same_addr y x) (λ s. true_or_false (one_or (has_address xs y) s) (h y c)) (λ s. same_flip x y ∙ s)

    apart : (y : Addr) → Contains (xs ++ ys) y → same_addr x y ≡ false
    apart y c = elim (Contains-append_cases xs ys y c) [ inl i ↦ distinct_apart x xs y d i | inr i ↦ first y i ]
