-- Keys stay apart, and entries are as many as there is room for.
use Rattle.std.proofs.Common.{◌≡◌, ℕ, zero, suc, ◌-◌, ◌≤◌, Bool, true, false, cond, List, [], ◌∷◌, length, take, Option, Some, None, Contains, refl, sym, ap, ◌∙◌, subst, arith}
use Rattle.std.specs.List.{AllByRecursion, IsDistinct}
use Rattle.std.specs.Map.{keys_of, lookup, remove_entry}
use Rattle.std.specs.Cmp.{IsEquivalence, decided}
use Rattle.std.proofs.lemmas.List.{length-take}
use Rattle.std.proofs.lemmas.Map.{lookup-remove_entry}
use Rattle.std.proofs.lemmas.Map.Views.{lookup-from_Contains}
use Rattle.lru.specs.LruCache.{lru_cache, IsValid}
use Rattle.lru_laws.specs.Orders.{IsExact, kept, kept_from, used, used_from}
use Rattle.lru_laws.proofs.Kept.{by_test, first_of, second_of}

module _ {K V : Type 0} (test : K → Bool) where
  removed_all : (P : K → Type 0) (es : List (K × V)) → AllByRecursion P (keys_of es) → AllByRecursion P (keys_of (remove_entry test es))
  removed_all P [] h = h
  removed_all P (e ∷ es) h = by_test (test e.0)
      (λ y. subst (λ l. AllByRecursion P (keys_of l)) (sym (first_of es (e ∷ remove_entry test es) y)) h.1)
      (λ n. subst (λ l. AllByRecursion P (keys_of l)) (sym (second_of es (e ∷ remove_entry test es) n)) (h.0, removed_all P es h.1))

  pub removed_apart : (same : K → K → Bool) (es : List (K × V)) → IsDistinct same (keys_of es) → IsDistinct same (keys_of (remove_entry test es))
  unfolding IsDistinct
  removed_apart same [] h = h
  removed_apart same (e ∷ es) h = by_test (test e.0)
      (λ y. subst (λ l. IsDistinct same (keys_of l)) (sym (first_of es (e ∷ remove_entry test es) y)) h.1)
      (λ n. subst (λ l. IsDistinct same (keys_of l)) (sym (second_of es (e ∷ remove_entry test es) n)) (removed_all (λ j. same e.0 j ≡ false) es h.0, removed_apart same es h.1))

  pub removed_short : (es : List (K × V)) → length (remove_entry test es) ≤ length es
  removed_short [] = omega arith
  removed_short (e ∷ es) = by_test (test e.0)
      (λ y. let is = ap (λ (l : List (K × V)). length l) (first_of es (e ∷ remove_entry test es) y) in omega (arith, is))
      (λ n. let is = ap (λ (l : List (K × V)). length l) (second_of es (e ∷ remove_entry test es) n) in let more = removed_short es in omega (arith, is, more))

  removed_one : (es : List (K × V)) (v : V) → lookup test es ≡ Some v → suc (length (remove_entry test es)) ≡ length es
  removed_one [] v h = cc
  removed_one (e ∷ es) v h = by_test (test e.0)
      (λ y. ap (λ (l : List (K × V)). suc (length l)) (first_of es (e ∷ remove_entry test es) y))
      (λ n. ap (λ (l : List (K × V)). suc (length l)) (second_of es (e ∷ remove_entry test es) n) ∙ ap suc (removed_one es v (sym (second_of (Some e.1) (lookup test es) n) ∙ h)))

  missed_all : (es : List (K × V)) → lookup test es ≡ None → AllByRecursion (λ j. test j ≡ false) (keys_of es)
  missed_all [] h = tt
  missed_all (e ∷ es) h = by_test (test e.0)
      (λ y. absurd (never (sym (first_of (Some e.1) (lookup test es) y) ∙ h)))
      (λ n. (n, missed_all es (sym (second_of (Some e.1) (lookup test es) n) ∙ h)))
    where
      never : {a : V} → Some a ≡ None → ⊥
      never e = cc

module _ {K V : Type 0} where
  taken_all : (P : K → Type 0) (n : ℕ) (es : List (K × V)) → AllByRecursion P (keys_of es) → AllByRecursion P (keys_of (take n es))
  taken_all P zero es h = tt
  taken_all P (suc n) [] h = tt
  taken_all P (suc n) (e ∷ es) h = (h.0, taken_all P n es h.1)

  taken_apart : (same : K → K → Bool) (n : ℕ) (es : List (K × V)) → IsDistinct same (keys_of es) → IsDistinct same (keys_of (take n es))
  unfolding IsDistinct
  taken_apart same zero es h = tt
  taken_apart same (suc n) [] h = tt
  taken_apart same (suc n) (e ∷ es) h = (taken_all (λ j. same e.0 j ≡ false) n es h.0, taken_apart same n es h.1)

equivalence : {K : Type 0} (same : K → K → Bool) → IsExact same → IsEquivalence same
equivalence same x = decided same (λ a b. (x.equal a b, λ e. subst (λ k. same a k ≡ true) e (x.refl a)))

module _ {K V : Type 0} (same : K → K → Bool) (x : IsExact same) where
  -- where keys are apart, an entry that is there is found,
  pub member_found : (k : K) (v : V) (es : List (K × V)) → IsDistinct same (keys_of es) → Contains es (k, v) → lookup (same k) es ≡ Some v
  member_found k v es d m = lookup-from_Contains (equivalence same x) k v es d m

  -- and one that was removed is not
  pub removed_missed : (k : K) (es : List (K × V)) → IsDistinct same (keys_of es) → lookup (same k) (remove_entry (same k) es) ≡ None
  removed_missed k es d =
      lookup-remove_entry (equivalence same x) (same k) (λ a b h. ap (λ c. same c b) (x.equal k a h)) k es d
      ∙ ap (λ b. cond b None (lookup (same k) es)) (x.refl k)

  apart_more : (k : K) (v : V) (es : List (K × V)) → lookup (same k) es ≡ None → IsDistinct same (keys_of es) → IsDistinct same (keys_of ((k, v) ∷ es))
  unfolding IsDistinct
  apart_more k v es none d = (missed_all (same k) es none, d)

  apart_taken : (k : K) (v : V) (n : ℕ) (es : List (K × V)) → lookup (same k) es ≡ None → IsDistinct same (keys_of es) → IsDistinct same (keys_of ((k, v) ∷ take n es))
  unfolding IsDistinct
  apart_taken k v n es none d = (taken_all (λ j. same k j ≡ false) n es (missed_all (same k) es none), taken_apart same n es d)

  pub kept_valid : (cap : ℕ) (k : K) (v : V) (es : List (K × V)) → IsValid same (lru_cache es cap) → IsValid same (lru_cache (kept same cap k v es) cap)
  kept_valid cap k v es h = by (lookup (same k) es) refl
    where
      by : (o : Option V) → lookup (same k) es ≡ o → IsValid same (lru_cache (kept_from same o cap k v es) cap)
      by None none =
          let taken = length-take (cap - 1) es in
          (apart_taken k v (cap - 1) es none h.0, omega (arith, h.1, h.2, taken), h.2)
      by (Some w) some =
          let one = removed_one (same k) es w some in
          (apart_more k v (remove_entry (same k) es) (removed_missed k es h.0) (removed_apart (same k) same es h.0), omega (arith, h.1, one), h.2)

  pub used_valid : (cap : ℕ) (k : K) (es : List (K × V)) → IsValid same (lru_cache es cap) → IsValid same (lru_cache (used same k es) cap)
  used_valid cap k es h = by (lookup (same k) es) refl
    where
      by : (o : Option V) → lookup (same k) es ≡ o → IsValid same (lru_cache (used_from same o k es) cap)
      by None none = h
      by (Some w) some =
          let one = removed_one (same k) es w some in
          (apart_more k w (remove_entry (same k) es) (removed_missed k es h.0) (removed_apart (same k) same es h.0), omega (arith, h.1, one), h.2)

  pub removed_valid : (cap : ℕ) (k : K) (es : List (K × V)) → IsValid same (lru_cache es cap) → IsValid same (lru_cache (remove_entry (same k) es) cap)
  removed_valid cap k es h = let short = removed_short (same k) es in (removed_apart (same k) same es h.0, omega (arith, h.1, short), h.2)
