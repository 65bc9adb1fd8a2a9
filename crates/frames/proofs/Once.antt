-- Addresses, each once where it stands first: members, and one address more.
use Rattle.std.proofs.Common.{◌≡◌, ℕ, ◌≤◌, ◌<◌, Bool, true, false, cond, not, ◌||◌, inl, inr, List, [], ◌∷◌, ◌++◌, ◌+◌, length, take, filter, get_or, Contains, refl, sym, ap, ◌∙◌, subst, arith, length-append}
use Rattle.std.specs.List.{IsDistinct}
use Rattle.std.proofs.lemmas.List.{append-nil, length-take, take_all, take_more, take-append-le}
use Rattle.std.proofs.lemmas.List.Elements.{filter-append}
use Rattle.lru.proofs.Splits.{Contains-head, Contains-tail, Contains-cons}
use Rattle.lru.proofs.CallerLemmas.{Contains-take}
use Rattle.rdata.specs.declared.addr.Addr.{Addr}
use Rattle.retry.specs.Penalties.{same_addr}
use Rattle.retry.proofs.Exact.{same_addr_exact}
use Rattle.frames.specs.Frames.{has_address, each_once, most_taken}
use Rattle.frames.proofs.Members.{by_test, first_of, second_of, true_or_false, other_or, one_or, filter_from, filter_there, same_flip, has_in, in_has, has_filtered, distinct_with, distinct_filter, none_twice}

pub once_from : (xs : List Addr) (a : Addr) → Contains (each_once xs) a → Contains xs a
once_from [] a c = c
once_from (x ∷ xs) a c = elim (Contains-cons x (filter (λ b. not (same_addr x b)) (each_once xs)) a c) [
  | inl is ↦ subst (Contains (x ∷ xs)) is (Contains-head x xs)
  | inr d ↦ Contains-tail x xs a (once_from xs a (filter_from (λ b. not (same_addr x b)) (each_once xs) a d).0)
]

pub once_there : (xs : List Addr) (a : Addr) → Contains xs a → Contains (each_once xs) a
once_there [] a c = c
once_there (x ∷ xs) a c = by_test (same_addr x a)
    (λ e. subst (Contains (each_once (x ∷ xs))) (same_addr_exact.equal x a e) (Contains-head x (filter (λ b. not (same_addr x b)) (each_once xs))))
    (λ e. Contains-tail x (filter (λ b. not (same_addr x b)) (each_once xs)) a (filter_there (λ b. not (same_addr x b)) (each_once xs) a (once_there xs a (later e)) (ap not e)))
  where
    later : same_addr x a ≡ false → Contains xs a
    later e = elim (Contains-cons x xs a c) [
      | inl is ↦ true_or_false (subst (λ (z : Addr). same_addr x z ≡ true) is (same_addr_exact.refl x)) e
      | inr d ↦ d
    ]

pub once_distinct : (xs : List Addr) → IsDistinct same_addr (each_once xs)
once_distinct [] = none_twice
once_distinct (x ∷ xs) = distinct_with x (filter (λ b. not (same_addr x b)) (each_once xs)) apart (distinct_filter (λ b. not (same_addr x b)) (each_once xs) (once_distinct xs))
  where
    apart : (y : Addr) → Contains (filter (λ b. not (same_addr x b)) (each_once xs)) y → same_addr x y ≡ false
    apart y c = by_test (same_addr x y)
        (λ e. true_or_false (filter_from (λ b. not (same_addr x b)) (each_once xs) y c).1 (ap not e))
        (λ n. n)

-- ---- one address more

-- The address, if it is not there.
abbrev pub one_unless : Bool → Addr → List Addr
one_unless b y = cond b [] (y ∷ [])

passed : (p : Addr → Bool) (y : Addr) (b : Bool) → p y ≡ true → filter p (one_unless b y) ≡ one_unless b y
passed p y true e = refl
passed p y false e = first_of (y ∷ []) [] e

dropped : (p : Addr → Bool) (y : Addr) (b : Bool) → p y ≡ false → filter p (one_unless b y) ≡ []
dropped p y true e = refl
dropped p y false e = second_of (y ∷ []) [] e

pub once_more : (xs : List Addr) (y : Addr) → each_once (xs ++ y ∷ []) ≡ each_once xs ++ one_unless (has_address (each_once xs) y) y
once_more [] y = refl
once_more (x ∷ xs) y = ap (λ (l : List Addr). x ∷ filter keeps l) (once_more xs y)
    ∙ ap (λ (l : List Addr). x ∷ l) (filter-append keeps (each_once xs) (one_unless (has_address (each_once xs) y) y) ∙ ap (λ (l : List Addr). filter keeps (each_once xs) ++ l) (last))
  where
    keeps : Addr → Bool
    keeps b = not (same_addr x b)

    last : filter (λ b. not (same_addr x b)) (one_unless (has_address (each_once xs) y) y) ≡ one_unless (same_addr y x || has_address (filter (λ b. not (same_addr x b)) (each_once xs)) y) y
    last = by_test (same_addr x y)
        (λ e. dropped (λ b. not (same_addr x b)) y (has_address (each_once xs) y) (ap not e)
        ∙ sym (ap (λ (b : Bool). one_unless b y) (one_or (has_address (filter (λ b. not (same_addr x b)) (each_once xs)) y) (same_flip y x ∙ e))))
        (λ e. passed (λ b. not (same_addr x b)) y (has_address (each_once xs) y) (ap not e)
        ∙ ap (λ (b : Bool). one_unless b y) (sym (has_filtered (λ b. not (same_addr x b)) (each_once xs) y (ap not e)) ∙ sym (other_or (has_address (filter (λ b. not (same_addr x b)) (each_once xs)) y) (same_flip y x ∙ e))))

-- ---- the first of them

module _ (xs : List Addr) (y : Addr) (taken : List Addr) (so_far : taken ≡ take most_taken (each_once xs)) where
  many : 16 ≤ length taken → 16 ≤ length (each_once xs)
  many h = let n = ap length so_far ∙ length-take 16 (each_once xs) in omega arith

  few : length taken < 16 → length (each_once xs) ≤ 16
  few h = let n = ap length so_far ∙ length-take 16 (each_once xs) in omega arith

  -- The list is full.
  pub taken_full : 16 ≤ length taken → taken ≡ take most_taken (each_once (xs ++ y ∷ []))
  taken_full h = so_far ∙ (sym (take-append-le 16 (each_once xs) (one_unless (has_address (each_once xs) y) y) (many h)) ∙ ap (take 16) (sym (once_more xs y)))

  -- The address is taken already.
  pub taken_known : has_address taken y ≡ true → taken ≡ take most_taken (each_once (xs ++ y ∷ []))
  taken_known h =
      let whole : has_address (each_once xs) y ≡ true = in_has (each_once xs) y (Contains-take 16 (each_once xs) y (subst (λ (l : List Addr). Contains l y) so_far (has_in taken y h))) in
      so_far ∙ ap (take 16) (sym (append-nil (each_once xs)) ∙ (ap (λ (b : Bool). each_once xs ++ one_unless b y) (sym whole) ∙ sym (once_more xs y)))

  -- The address is new and there is room.
  pub taken_new : length taken < 16 → has_address taken y ≡ false → taken ++ y ∷ [] ≡ take most_taken (each_once (xs ++ y ∷ []))
  taken_new h n =
      let all : taken ≡ each_once xs = so_far ∙ take_all 16 (each_once xs) (few h) in
      let more : each_once (xs ++ y ∷ []) ≡ taken ++ y ∷ [] = once_more xs y ∙ (ap (λ (l : List Addr). l ++ one_unless (has_address l y) y) (sym all) ∙ ap (λ (b : Bool). taken ++ one_unless b y) n) in
      let short : length (taken ++ y ∷ []) ≤ 16 = let s = length-append taken (y ∷ []) in omega arith in
      sym (ap (take 16) more ∙ take_all 16 (taken ++ y ∷ []) short)

-- ---- those that are not known

module _ (known xs : List Addr) (y : Addr) (fresh : List Addr) (so_far : fresh ≡ filter (λ a. not (has_address known a)) (each_once xs)) where
  more_fresh : filter (λ a. not (has_address known a)) (each_once (xs ++ y ∷ [])) ≡ fresh ++ filter (λ a. not (has_address known a)) (one_unless (has_address (each_once xs) y) y)
  more_fresh = ap (filter (λ a. not (has_address known a))) (once_more xs y)
      ∙ (filter-append (λ a. not (has_address known a)) (each_once xs) (one_unless (has_address (each_once xs) y) y) ∙ ap (λ (l : List Addr). l ++ filter (λ a. not (has_address known a)) (one_unless (has_address (each_once xs) y) y)) (sym so_far))

  pub fresh_known : has_address known y ≡ true → fresh ≡ filter (λ a. not (has_address known a)) (each_once (xs ++ y ∷ []))
  fresh_known h = sym (more_fresh ∙ (ap (λ (l : List Addr). fresh ++ l) (dropped (λ a. not (has_address known a)) y (has_address (each_once xs) y) (ap not h)) ∙ append-nil fresh))

  there : has_address known y ≡ false → has_address fresh y ≡ has_address (each_once xs) y
  there n = ap (λ (l : List Addr). has_address l y) so_far ∙ has_filtered (λ a. not (has_address known a)) (each_once xs) y (ap not n)

  by_fresh : (b : Bool) → has_address known y ≡ false → has_address fresh y ≡ b → filter (λ a. not (has_address known a)) (each_once (xs ++ y ∷ [])) ≡ fresh ++ one_unless b y
  by_fresh b n h = more_fresh ∙ ap (λ (l : List Addr). fresh ++ l)
      (passed (λ a. not (has_address known a)) y (has_address (each_once xs) y) (ap not n) ∙ ap (λ (c : Bool). one_unless c y) (sym (there n) ∙ h))

  pub fresh_there : has_address known y ≡ false → has_address fresh y ≡ true → fresh ≡ filter (λ a. not (has_address known a)) (each_once (xs ++ y ∷ []))
  fresh_there n h = sym (by_fresh true n h ∙ append-nil fresh)

  pub fresh_new : has_address known y ≡ false → has_address fresh y ≡ false → fresh ++ y ∷ [] ≡ filter (λ a. not (has_address known a)) (each_once (xs ++ y ∷ []))
  fresh_new n h = sym (by_fresh false n h)

-- ---- a step over those found

module _ (known found : List Addr) (i : ℕ) (d : Addr) (fresh : List Addr) (lt : i < length found) (so_far : fresh ≡ filter (λ a. not (has_address known a)) (each_once (take i found))) where
  onward : filter (λ a. not (has_address known a)) (each_once (take i found ++ get_or found i d ∷ [])) ≡ filter (λ a. not (has_address known a)) (each_once (take (i + 1) found))
  onward = ap (λ (l : List Addr). filter (λ a. not (has_address known a)) (each_once l)) (sym (take_more found i d lt))

  pub found_known : (r : Bool) → r ≡ has_address known (get_or found i d) → r ≡ true → fresh ≡ filter (λ a. not (has_address known a)) (each_once (take (i + 1) found))
  found_known r e t = fresh_known known (take i found) (get_or found i d) fresh so_far (sym e ∙ t) ∙ onward

  pub found_there : (seen : List Addr) (r s : Bool) → r ≡ has_address known (get_or found i d) → r ≡ false → seen ≡ fresh → s ≡ has_address seen (get_or found i d) → s ≡ true
      → fresh ≡ filter (λ a. not (has_address known a)) (each_once (take (i + 1) found))
  found_there seen r s e n v f t = fresh_there known (take i found) (get_or found i d) fresh so_far (sym e ∙ n) (ap (λ (l : List Addr). has_address l (get_or found i d)) (sym v) ∙ (sym f ∙ t)) ∙ onward

  pub found_new : (seen new : List Addr) (r s : Bool) → r ≡ has_address known (get_or found i d) → r ≡ false → seen ≡ fresh → s ≡ has_address seen (get_or found i d) → s ≡ false
      → new ≡ fresh ++ get_or found i d ∷ [] → new ≡ filter (λ a. not (has_address known a)) (each_once (take (i + 1) found))
  found_new seen new r s e n v f t is = is ∙ (fresh_new known (take i found) (get_or found i d) fresh so_far (sym e ∙ n) (ap (λ (l : List Addr). has_address l (get_or found i d)) (sym v) ∙ (sym f ∙ t)) ∙ onward)
