-- Entries under other keys, which are told apart alike: what the steps on the ones are on the others.
use Rattle.std.proofs.Common.{◌≡◌, ℕ, suc, ◌-◌, ◌≤◌, Bool, true, false, cond, nat_eq, List, [], ◌∷◌, map, length, take, Option, Some, None, refl, sym, ap, ◌∙◌, subst}
use Rattle.std.specs.Prelude.{option_map}
use Rattle.std.specs.Option.{option_map_or}
use Rattle.std.specs.List.{IsDistinct, AllByRecursion}
use Rattle.std.specs.Map.{keys_of, lookup, lookup_entry, remove_entry}
use Rattle.std.proofs.lemmas.List.{take-map}
use Rattle.lru.specs.LruCache.{lru_cache, IsValid, promoted, put_entries}
use Rattle.lru_laws.specs.Orders.{rekeyed}
use Rattle.lru_laws.specs.Stores.{put_for}

module _ {K L : Type 0} (f : K → L) (same : K → K → Bool) (other : L → L → Bool) (agree : (a b : K) → other (f a) (f b) ≡ same a b) where
  unlike : (k : K) (ks : List K) → AllByRecursion (λ y. other (f k) y ≡ false) (map f ks) → AllByRecursion (λ y. same k y ≡ false) ks
  unlike k [] h = tt
  unlike k (j ∷ ks) h = (sym (agree k j) ∙ h.0, unlike k ks h.1)

  distinct : (ks : List K) → IsDistinct other (map f ks) → IsDistinct same ks
  unfolding IsDistinct
  distinct [] h = tt
  distinct (k ∷ ks) h = (unlike k ks h.0, distinct ks h.1)

module _ {K L V : Type 0} (f : K → L) (same : K → K → Bool) (other : L → L → Bool) (agree : (a b : K) → other (f a) (f b) ≡ same a b) where
  abbrev at : K × V → L × V
  at e = (f e.0, e.1)

  module _ (k : K) where
    pub looked_rekeyed : (es : List (K × V)) → lookup (other (f k)) (rekeyed f es) ≡ lookup (same k) es
    looked_rekeyed [] = refl
    looked_rekeyed (e ∷ es) = λ i. cond (agree k e.0 i) (Some e.1) (looked_rekeyed es i)

    entry_rekeyed : (es : List (K × V)) → lookup_entry (other (f k)) (rekeyed f es) ≡ option_map at (lookup_entry (same k) es)
    entry_rekeyed [] = refl
    entry_rekeyed (e ∷ es) = (λ i. cond (agree k e.0 i) (Some (at e)) (entry_rekeyed es i)) ∙ by (same k e.0)
      where
        by : (b : Bool) → cond b (Some (at e)) (option_map at (lookup_entry (same k) es)) ≡ option_map at (cond b (Some e) (lookup_entry (same k) es))
        by true = refl
        by false = refl

    pub removed_rekeyed : (es : List (K × V)) → remove_entry (other (f k)) (rekeyed f es) ≡ rekeyed f (remove_entry (same k) es)
    removed_rekeyed [] = refl
    removed_rekeyed (e ∷ es) = (λ i. cond (agree k e.0 i) (rekeyed f es) (at e ∷ removed_rekeyed es i)) ∙ by (same k e.0)
      where
        by : (b : Bool) → cond b (rekeyed f es) (at e ∷ rekeyed f (remove_entry (same k) es)) ≡ rekeyed f (cond b es (e ∷ remove_entry (same k) es))
        by true = refl
        by false = refl

    pub promoted_rekeyed : (es : List (K × V)) → promoted (other (f k)) (rekeyed f es) ≡ rekeyed f (promoted (same k) es)
    promoted_rekeyed es = (λ i. option_map_or (λ e. e ∷ removed_rekeyed es i) (entry_rekeyed es i) (rekeyed f es)) ∙ by (lookup_entry (same k) es)
      where
        by : (o : Option (K × V)) → option_map_or (λ e. e ∷ rekeyed f (remove_entry (same k) es)) (option_map at o) (rekeyed f es) ≡ rekeyed f (option_map_or (λ e. e ∷ remove_entry (same k) es) o es)
        by None = refl
        by (Some e) = refl

    put_rekeyed : (cap : ℕ) (v : V) (es : List (K × V)) → put_entries other (lru_cache (rekeyed f es) cap) (f k) v ≡ rekeyed f (put_entries same (lru_cache es cap) k v)
    put_rekeyed cap v es = (λ i. option_map_or (λ e. (e.0, v) ∷ removed_rekeyed es i) (entry_rekeyed es i) ((f k, v) ∷ take-map at (cap - 1) es i)) ∙ by (lookup_entry (same k) es)
      where
        by : (o : Option (K × V)) → option_map_or (λ e. (e.0, v) ∷ rekeyed f (remove_entry (same k) es)) (option_map at o) ((f k, v) ∷ rekeyed f (take (cap - 1) es))
            ≡ rekeyed f (option_map_or (λ e. (e.0, v) ∷ remove_entry (same k) es) o ((k, v) ∷ take (cap - 1) es))
        by None = refl
        by (Some e) = refl

    pub stored_rekeyed : (cap : ℕ) (v : V) (ttl : ℕ) (es : List (K × V)) → put_for other (lru_cache (rekeyed f es) cap) (f k) v ttl ≡ rekeyed f (put_for same (lru_cache es cap) k v ttl)
    stored_rekeyed cap v ttl es = by (nat_eq ttl 0)
      where
        by : (b : Bool) → cond b (remove_entry (other (f k)) (rekeyed f es)) (put_entries other (lru_cache (rekeyed f es) cap) (f k) v)
            ≡ rekeyed f (cond b (remove_entry (same k) es) (put_entries same (lru_cache es cap) k v))
        by true = removed_rekeyed es
        by false = put_rekeyed cap v es

  keys_rekeyed : (es : List (K × V)) → keys_of (rekeyed f es) ≡ map f (keys_of es)
  keys_rekeyed [] = refl
  keys_rekeyed (e ∷ es) = ap (λ (l : List L). f e.0 ∷ l) (keys_rekeyed es)

  length_rekeyed : (es : List (K × V)) → length (rekeyed f es) ≡ length es
  length_rekeyed [] = refl
  length_rekeyed (e ∷ es) = ap suc (length_rekeyed es)

  -- the same keys, and as many
  pub valid_rekeyed : (cap : ℕ) (es : List (K × V)) → IsValid other (lru_cache (rekeyed f es) cap) → IsValid same (lru_cache es cap)
  valid_rekeyed cap es h = (distinct f same other agree (keys_of es) (subst (IsDistinct other) (keys_rekeyed es) h.0), subst (λ n. n ≤ cap) (length_rekeyed es) h.1, h.2)
