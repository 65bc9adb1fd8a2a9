-- `lru`'s words as exact lists, and what membership and look-ups follow.
use Rattle.std.proofs.Common.{◌≡◌, ℕ, zero, suc, ◌-◌, Bool, true, false, cond, ◌⊎◌, inl, inr, List, [], ◌∷◌, take, drop, Contains, Option, Some, None, refl, sym, ap, ◌∙◌, subst, take-append-drop}
use Rattle.std.specs.Option.{option_map_or}
use Rattle.std.specs.Map.{lookup, lookup_entry, remove_entry, set_value}
use Rattle.std.proofs.lemmas.List.Elements.{Contains-append_cases}
use Rattle.lru.specs.LruCache.{lru_cache, promoted, put_entries}
use Rattle.lru.proofs.Splits.{Contains-head, Contains-tail, Contains-cons, Contains-nil}
use Rattle.lru.proofs.CallerLemmas.{Contains-take, Contains-lookup_entry, Contains-remove_entry}
use Rattle.lru_laws.specs.Orders.{IsExact, kept, kept_from, used, used_from, KeepsOnly, LosesOnly, HasSame, MayGo}

-- Either answer of a test.
pub by_test : {P : Type 0} (b : Bool) → (b ≡ true → P) → (b ≡ false → P) → P
by_test true p q = p refl
by_test false p q = q refl

pub first_of : {A : Type 0} {b : Bool} (x y : A) → b ≡ true → cond b x y ≡ x
first_of x y e = ap (λ c. cond c x y) e

pub second_of : {A : Type 0} {b : Bool} (x y : A) → b ≡ false → cond b x y ≡ y
second_of x y e = ap (λ c. cond c x y) e

module _ {K V : Type 0} (same : K → K → Bool) (k : K) where
  pub kept_there : (cap : ℕ) (v : V) (es : List (K × V)) → Contains (kept same cap k v es) (k, v)
  kept_there cap v es = by (lookup (same k) es)
    where
      by : (o : Option V) → Contains (kept_from same o cap k v es) (k, v)
      by None = Contains-head (k, v) (take (cap - 1) es)
      by (Some w) = Contains-head (k, v) (remove_entry (same k) es)

  pub kept_only : (cap : ℕ) (v : V) (es : List (K × V)) → KeepsOnly es (λ e. e ≡ (k, v)) (kept same cap k v es)
  kept_only cap v es e = by (lookup (same k) es)
    where
      by : (o : Option V) → Contains (kept_from same o cap k v es) e → Contains es e ⊎ (e ≡ (k, v))
      by None c = elim (Contains-cons (k, v) (take (cap - 1) es) e c) [ inl is ↦ inr (sym is) | inr d ↦ inl (Contains-take (cap - 1) es e d) ]
      by (Some w) c = elim (Contains-cons (k, v) (remove_entry (same k) es) e c) [ inl is ↦ inr (sym is) | inr d ↦ inl (Contains-remove_entry (same k) es e d) ]

module _ {K V : Type 0} (same : K → K → Bool) (x : IsExact same) (k : K) where
  entry_found : (es : List (K × V)) (v : V) → lookup (same k) es ≡ Some v → lookup_entry (same k) es ≡ Some (k, v)
  entry_found [] v h = cc
  entry_found (e ∷ es) v h = by_test (same k e.0)
      (λ y. let value : e.1 ≡ v = some_is (sym (first_of (Some e.1) (lookup (same k) es) y) ∙ h) in
      first_of (Some e) (lookup_entry (same k) es) y ∙ (λ i. Some (sym (x.equal k e.0 y) i, value i)))
      (λ n. second_of (Some e) (lookup_entry (same k) es) n ∙ entry_found es v (sym (second_of (Some e.1) (lookup (same k) es) n) ∙ h))
    where
      some_is : {a b : V} → Some a ≡ Some b → a ≡ b
      some_is e = cc

  no_entry_found : (es : List (K × V)) → lookup (same k) es ≡ None → lookup_entry (same k) es ≡ None
  no_entry_found [] h = refl
  no_entry_found (e ∷ es) h = by_test (same k e.0)
      (λ y. absurd (never (sym (first_of (Some e.1) (lookup (same k) es) y) ∙ h)))
      (λ n. second_of (Some e) (lookup_entry (same k) es) n ∙ no_entry_found es (sym (second_of (Some e.1) (lookup (same k) es) n) ∙ h))
    where
      never : {a : V} → Some a ≡ None → ⊥
      never e = cc

  abbrev put_by : Option (K × V) → ℕ → V → List (K × V) → List (K × V)
  put_by o cap v es = option_map_or (λ e. (e.0, v) ∷ remove_entry (same k) es) o ((k, v) ∷ take (cap - 1) es)

  -- `put`, by what the look-up finds
  pub put_is_kept : (cap : ℕ) (v : V) (es : List (K × V)) → put_entries same (lru_cache es cap) k v ≡ kept same cap k v es
  put_is_kept cap v es = by (lookup (same k) es) refl
    where
      by : (o : Option V) → lookup (same k) es ≡ o → put_entries same (lru_cache es cap) k v ≡ kept_from same o cap k v es
      by None h = ap (λ o. put_by o cap v es) (no_entry_found es h)
      by (Some w) h = ap (λ o. put_by o cap v es) (entry_found es w h)

  abbrev fronted_by : Option (K × V) → List (K × V) → List (K × V)
  fronted_by o es = option_map_or (λ e. e ∷ remove_entry (same k) es) o es

  -- `promote`, by what the look-up finds
  pub promoted_is_used : (es : List (K × V)) → promoted (same k) es ≡ used same k es
  promoted_is_used es = by (lookup (same k) es) refl
    where
      by : (o : Option V) → lookup (same k) es ≡ o → promoted (same k) es ≡ used_from same o k es
      by None h = ap (λ o. fronted_by o es) (no_entry_found es h)
      by (Some w) h = ap (λ o. fronted_by o es) (entry_found es w h)

  pub put_known : (cap : ℕ) (v old : V) (es : List (K × V)) → lookup (same k) es ≡ Some old → put_entries same (lru_cache es cap) k v ≡ (k, v) ∷ remove_entry (same k) es
  put_known cap v old es h = ap (λ o. put_by o cap v es) (entry_found es old h)

  pub put_new : (cap : ℕ) (v : V) (es : List (K × V)) → lookup (same k) es ≡ None → put_entries same (lru_cache es cap) k v ≡ (k, v) ∷ take (cap - 1) es
  put_new cap v es h = ap (λ o. put_by o cap v es) (no_entry_found es h)

  pub promoted_known : (v : V) (es : List (K × V)) → lookup (same k) es ≡ Some v → promoted (same k) es ≡ (k, v) ∷ remove_entry (same k) es
  promoted_known v es h = ap (λ o. fronted_by o es) (entry_found es v h)

  pub promoted_missed : (es : List (K × V)) → lookup (same k) es ≡ None → promoted (same k) es ≡ es
  promoted_missed es h = ap (λ o. fronted_by o es) (no_entry_found es h)

  -- a value written at the entry that goes first
  pub set_promoted : (v w : V) (es : List (K × V)) → lookup (same k) es ≡ Some v → set_value (same k) (promoted (same k) es) w ≡ (k, w) ∷ remove_entry (same k) es
  set_promoted v w es h = ap (λ l. set_value (same k) l w) (promoted_known v es h)
      ∙ first_of ((k, w) ∷ remove_entry (same k) es) ((k, v) ∷ set_value (same k) (remove_entry (same k) es) w) (x.refl k)

  -- ---- membership

  gone_here : (f : K × V) (es : List (K × V)) (e : K × V) → same k f.0 ≡ true → Contains (f ∷ es) e → Contains (remove_entry (same k) (f ∷ es)) e ⊎ (e.0 ≡ k)
  gone_here f es e y c = elim (Contains-cons f es e c) [
    | inl is ↦ inr (sym (ap (λ p. p.0) is) ∙ sym (x.equal k f.0 y))
    | inr d ↦ inl (subst (λ l. Contains l e) (sym (first_of es (f ∷ remove_entry (same k) es) y)) d)
  ]

  gone_past : (f : K × V) (es : List (K × V)) (e : K × V) → same k f.0 ≡ false → Contains (f ∷ es) e → (Contains es e → Contains (remove_entry (same k) es) e ⊎ (e.0 ≡ k))
      → Contains (remove_entry (same k) (f ∷ es)) e ⊎ (e.0 ≡ k)
  gone_past f es e n c more =
      let to : f ∷ remove_entry (same k) es ≡ remove_entry (same k) (f ∷ es) = sym (second_of es (f ∷ remove_entry (same k) es) n) in
      elim (Contains-cons f es e c) [
        | inl is ↦ inl (subst (λ l. Contains l e) to (subst (Contains (f ∷ remove_entry (same k) es)) is (Contains-head f (remove_entry (same k) es))))
        | inr d ↦ elim (more d) [
          | inl s ↦ inl (subst (λ l. Contains l e) to (Contains-tail f (remove_entry (same k) es) e s))
          | inr is ↦ inr is
        ]
      ]

  pub removed_gone : (es : List (K × V)) → LosesOnly es (λ e. e.0 ≡ k) (remove_entry (same k) es)
  removed_gone [] e c = absurd (Contains-nil e c)
  removed_gone (f ∷ es) e c = by_test (same k f.0) (λ y. gone_here f es e y c) (λ n. gone_past f es e n c (removed_gone es e))

  removed_others : (j : K) → same j k ≡ false → (es : List (K × V)) → lookup (same j) (remove_entry (same k) es) ≡ lookup (same j) es
  removed_others j n [] = refl
  removed_others j n (e ∷ es) = by_test (same k e.0)
      (λ y. let apart : same j e.0 ≡ false = ap (same j) (sym (x.equal k e.0 y)) ∙ n in
      ap (lookup (same j)) (first_of es (e ∷ remove_entry (same k) es) y) ∙ sym (second_of (Some e.1) (lookup (same j) es) apart))
      (λ m. ap (lookup (same j)) (second_of es (e ∷ remove_entry (same k) es) m) ∙ ap (cond (same j e.0) (Some e.1)) (removed_others j n es))

  pub kept_gone : (cap : ℕ) (v : V) (es : List (K × V)) → LosesOnly es (MayGo same cap k es) (kept same cap k v es)
  kept_gone cap v es e c = by (lookup (same k) es) refl
    where
      by : (o : Option V) → lookup (same k) es ≡ o → Contains (kept_from same o cap k v es) e ⊎ MayGo same cap k es e
      by None h = elim (Contains-append_cases (take (cap - 1) es) (drop (cap - 1) es) e (subst (λ l. Contains l e) (sym (take-append-drop (cap - 1) es)) c)) [
        | inl d ↦ inl (Contains-tail (k, v) (take (cap - 1) es) e d)
        | inr d ↦ inr (inr (h, d))
      ]
      by (Some w) h = elim (removed_gone es e c) [
        | inl d ↦ inl (Contains-tail (k, v) (remove_entry (same k) es) e d)
        | inr is ↦ inr (inl is)
      ]

  pub used_members : (es : List (K × V)) → HasSame es (used same k es)
  used_members es = by (lookup (same k) es) refl
    where
      at_front : (w : V) → lookup (same k) es ≡ Some w → Contains es (k, w)
      at_front w h = (Contains-lookup_entry (same k) es (k, w) (entry_found es w h)).0

      by : (o : Option V) → lookup (same k) es ≡ o → HasSame es (used_from same o k es)
      by None h = (λ e c. c, λ e c. c)
      by (Some w) h = (
        λ e c. elim (Contains-cons (k, w) (remove_entry (same k) es) e c) [ inl is ↦ subst (Contains es) is (at_front w h) | inr d ↦ Contains-remove_entry (same k) es e d ],
        λ e c. stays es w h e c,
      )
        where
          stays : (fs : List (K × V)) (v : V) → lookup (same k) fs ≡ Some v → (e : K × V) → Contains fs e → Contains ((k, v) ∷ remove_entry (same k) fs) e
          stays [] v l e c = absurd (Contains-nil e c)
          stays (f ∷ fs) v l e c = by_test (same k f.0)
              (λ y. let value = entry_found (f ∷ fs) v l in
              let first : f ≡ (k, v) = only (sym (first_of (Some f) (lookup_entry (same k) fs) y) ∙ value) in
              subst (λ m. Contains m e) (λ i. first i ∷ sym (first_of fs (f ∷ remove_entry (same k) fs) y) i) c)
              (λ n. let more = stays fs v (sym (second_of (Some f.1) (lookup (same k) fs) n) ∙ l) in
              subst (λ m. Contains ((k, v) ∷ m) e) (sym (second_of fs (f ∷ remove_entry (same k) fs) n)) (elim (Contains-cons f fs e c) [
                | inl is ↦ Contains-tail (k, v) (f ∷ remove_entry (same k) fs) e (subst (Contains (f ∷ remove_entry (same k) fs)) is (Contains-head f (remove_entry (same k) fs)))
                | inr d ↦ elim (Contains-cons (k, v) (remove_entry (same k) fs) e (more e d)) [
                  | inl is ↦ subst (Contains ((k, v) ∷ f ∷ remove_entry (same k) fs)) is (Contains-head (k, v) (f ∷ remove_entry (same k) fs))
                  | inr s ↦ Contains-tail (k, v) (f ∷ remove_entry (same k) fs) e (Contains-tail f (remove_entry (same k) fs) e s)
                ]
              ]))
            where
              only : {a b : K × V} → Some a ≡ Some b → a ≡ b
              only e = cc

  -- ---- look-ups

  pub kept_found : (cap : ℕ) (v : V) (es : List (K × V)) → lookup (same k) (kept same cap k v es) ≡ Some v
  kept_found cap v es = by (lookup (same k) es)
    where
      by : (o : Option V) → lookup (same k) (kept_from same o cap k v es) ≡ Some v
      by None = first_of (Some v) (lookup (same k) (take (cap - 1) es)) (x.refl k)
      by (Some w) = first_of (Some v) (lookup (same k) (remove_entry (same k) es)) (x.refl k)

  one_more : (j : K) (b : Bool) (e : K × V) (es fs : List (K × V)) → (lookup (same j) fs ≡ lookup (same j) es) ⊎ (lookup (same j) fs ≡ None)
      → (cond b (Some e.1) (lookup (same j) fs) ≡ cond b (Some e.1) (lookup (same j) es)) ⊎ (cond b (Some e.1) (lookup (same j) fs) ≡ None)
  one_more j true e es fs h = inl refl
  one_more j false e es fs h = h

  taken_others : (j : K) (n : ℕ) (es : List (K × V)) → (lookup (same j) (take n es) ≡ lookup (same j) es) ⊎ (lookup (same j) (take n es) ≡ None)
  taken_others j zero es = inr refl
  taken_others j (suc n) [] = inl refl
  taken_others j (suc n) (e ∷ es) = one_more j (same j e.0) e es (take n es) (taken_others j n es)

  pub kept_others : (cap : ℕ) (v : V) (es : List (K × V)) (j : K) → same j k ≡ false
      → (lookup (same j) (kept same cap k v es) ≡ lookup (same j) es) ⊎ (lookup (same j) (kept same cap k v es) ≡ None)
  kept_others cap v es j n = by (lookup (same k) es)
    where
      by : (o : Option V) → (lookup (same j) (kept_from same o cap k v es) ≡ lookup (same j) es) ⊎ (lookup (same j) (kept_from same o cap k v es) ≡ None)
      by None = let past = second_of (Some v) (lookup (same j) (take (cap - 1) es)) n in
          elim (taken_others j (cap - 1) es) [ inl e ↦ inl (past ∙ e) | inr e ↦ inr (past ∙ e) ]
      by (Some w) = inl (second_of (Some v) (lookup (same j) (remove_entry (same k) es)) n ∙ removed_others j n es)

  pub used_found : (j : K) (es : List (K × V)) → lookup (same j) (used same k es) ≡ lookup (same j) es
  used_found j es = by (lookup (same k) es) refl
    where
      by : (o : Option V) → lookup (same k) es ≡ o → lookup (same j) (used_from same o k es) ≡ lookup (same j) es
      by None h = refl
      by (Some w) h = by_test (same j k)
          (λ y. first_of (Some w) (lookup (same j) (remove_entry (same k) es)) y ∙ (sym h ∙ ap (λ i. lookup (same i) es) (sym (x.equal j k y))))
          (λ n. second_of (Some w) (lookup (same j) (remove_entry (same k) es)) n ∙ removed_others j n es)

  pub removed_others_of : (j : K) (es : List (K × V)) → same j k ≡ false → lookup (same j) (remove_entry (same k) es) ≡ lookup (same j) es
  removed_others_of j es n = removed_others j n es
