-- How far back an entry goes.
use Rattle.std.proofs.Common.{◌≡◌, ℕ, zero, suc, ◌+◌, ◌-◌, ◌≤◌, ◌<◌, Bool, false, List, [], ◌∷◌, take, Option, Some, None, refl, sym, ap, ◌∙◌, subst, arith}
use Rattle.std.specs.Map.{lookup, remove_entry}
use Rattle.std.proofs.lemmas.List.{take-take}
use Rattle.lru_laws.specs.Orders.{IsExact, kept, kept_from, used, used_from, IsWithin}
use Rattle.lru_laws.proofs.Kept.{by_test, first_of, second_of}

none_or_some : {X : Type 0} {x : X} → None ≡ Some x → ⊥
none_or_some e = cc

one_value : {X : Type 0} {x y : X} → Some x ≡ Some y → x ≡ y
one_value e = cc

module _ {K V : Type 0} (same : K → K → Bool) where
  -- the head decides, or the rest does
  at_head : (k : K) (e : K × V) (fs gs : List (K × V)) (v : V) → lookup (same k) (e ∷ fs) ≡ Some v → (lookup (same k) fs ≡ Some v → lookup (same k) gs ≡ Some v) → lookup (same k) (e ∷ gs) ≡ Some v
  at_head k e fs gs v h rest = by_test (same k e.0)
      (λ y. first_of (Some e.1) (lookup (same k) gs) y ∙ (sym (first_of (Some e.1) (lookup (same k) fs) y) ∙ h))
      (λ n. second_of (Some e.1) (lookup (same k) gs) n ∙ rest (sym (second_of (Some e.1) (lookup (same k) fs) n) ∙ h))

  pub within_next : (n : ℕ) (k : K) (v : V) (es : List (K × V)) → IsWithin same n k v es → IsWithin same (suc n) k v es
  within_next zero k v es h = absurd (none_or_some h)
  within_next (suc n) k v [] h = h
  within_next (suc n) k v (e ∷ es) h = at_head k e (take n es) (take (suc n) es) v h (within_next n k v es)

  within_by : (d n : ℕ) (k : K) (v : V) (es : List (K × V)) → IsWithin same n k v es → IsWithin same (d + n) k v es
  within_by zero n k v es h = let same_place : n ≡ zero + n = omega arith in subst (λ m. IsWithin same m k v es) same_place h
  within_by (suc d) n k v es h =
      let one : suc (d + n) ≡ suc d + n = omega arith in
      subst (λ m. IsWithin same m k v es) one (within_next (d + n) k v es (within_by d n k v es h))

  -- among the first n, so among more
  pub within_further : (n m : ℕ) (k : K) (v : V) (es : List (K × V)) → n ≤ m → IsWithin same n k v es → IsWithin same m k v es
  within_further n m k v es le h = let e : (m - n) + n ≡ m = omega arith in subst (λ l. IsWithin same l k v es) e (within_by (m - n) n k v es h)

  -- among the first n, so found
  pub within_found : (n : ℕ) (k : K) (v : V) (es : List (K × V)) → IsWithin same n k v es → lookup (same k) es ≡ Some v
  within_found zero k v es h = absurd (none_or_some h)
  within_found (suc n) k v [] h = h
  within_found (suc n) k v (e ∷ es) h = at_head k e (take n es) es v h (within_found n k v es)

module _ {K V : Type 0} (same : K → K → Bool) (x : IsExact same) where
  -- an entry that is kept is the first
  pub within_put : (cap : ℕ) (k : K) (v : V) (es : List (K × V)) → IsWithin same 1 k v (kept same cap k v es)
  within_put cap k v es = by (lookup (same k) es)
    where
      by : (o : Option V) → IsWithin same 1 k v (kept_from same o cap k v es)
      by None = first_of (Some v) None (x.refl k)
      by (Some w) = first_of (Some v) None (x.refl k)

  -- where another key's entry is removed, nothing goes down
  pub within_removed : (n : ℕ) (k j : K) (v : V) (es : List (K × V)) → same k j ≡ false → IsWithin same n k v es → IsWithin same n k v (remove_entry (same j) es)
  within_removed zero k j v es apart h = h
  within_removed (suc n) k j v [] apart h = h
  within_removed (suc n) k j v (e ∷ es) apart h = by_test (same j e.0)
      (λ y. let other : same k e.0 ≡ false = ap (same k) (sym (x.equal j e.0 y)) ∙ apart in
      ap (λ l. lookup (same k) (take (suc n) l)) (first_of es (e ∷ remove_entry (same j) es) y)
      ∙ within_next same n k v es (sym (second_of (Some e.1) (lookup (same k) (take n es)) other) ∙ h))
      (λ m. ap (λ l. lookup (same k) (take (suc n) l)) (second_of es (e ∷ remove_entry (same j) es) m)
      ∙ at_head same k e (take n es) (take n (remove_entry (same j) es)) v h (within_removed n k j v es apart))

  behind : (n : ℕ) (k j : K) (v w : V) (fs : List (K × V)) → same k j ≡ false → IsWithin same n k v fs → IsWithin same (suc n) k v ((j, w) ∷ fs)
  behind n k j v w fs apart h = second_of (Some w) (lookup (same k) (take n fs)) apart ∙ h

  -- where another key is kept and the room is not filled before, down by one
  pub within_kept : (cap n : ℕ) (k j : K) (v w : V) (es : List (K × V)) → same k j ≡ false → n < cap → IsWithin same n k v es → IsWithin same (suc n) k v (kept same cap j w es)
  within_kept cap n k j v w es apart few h = by (lookup (same j) es)
    where
      short : n ≤ cap - 1
      short = omega arith

      by : (o : Option V) → IsWithin same (suc n) k v (kept_from same o cap j w es)
      by None = behind n k j v w (take (cap - 1) es) apart (ap (lookup (same k)) (take-take n (cap - 1) es short) ∙ h)
      by (Some old) = behind n k j v w (remove_entry (same j) es) apart (within_removed n k j v es apart h)

  -- where any key is used, down by one
  pub within_used : (n : ℕ) (k j : K) (v : V) (es : List (K × V)) → IsWithin same n k v es → IsWithin same (suc n) k v (used same j es)
  within_used n k j v es h = by (lookup (same j) es) refl
    where
      by : (o : Option V) → lookup (same j) es ≡ o → IsWithin same (suc n) k v (used_from same o j es)
      by None none = within_next same n k v es h
      by (Some w) some = by_test (same k j)
          (λ y. let is : w ≡ v = one_value (sym some ∙ (ap (λ i. lookup (same i) es) (sym (x.equal k j y)) ∙ within_found same n k v es h)) in
          first_of (Some w) (lookup (same k) (take n (remove_entry (same j) es))) y ∙ ap Some is)
          (λ apart. behind n k j v w (remove_entry (same j) es) apart (within_removed n k j v es apart h))
