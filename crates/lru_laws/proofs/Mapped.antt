-- What `lru`'s words leave of entries, and of the same entries with other values.
use Rattle.std.proofs.Common.{◌≡◌, ℕ, suc, ◌-◌, ◌≤◌, Bool, List, [], ◌∷◌, length, Option, Some, None, refl, sym, ap, ◌∙◌, subst}
use Rattle.std.specs.Prelude.{option_map}
use Rattle.std.specs.List.{IsDistinct}
use Rattle.std.specs.Map.{keys_of, lookup, remove_entry}
use Rattle.std.proofs.lemmas.List.{take-map}
use Rattle.lru.specs.LruCache.{lru_cache, IsValid}
use Rattle.lru_laws.proofs.Kept.{by_test, first_of, second_of}
use Rattle.lru_laws.specs.Orders.{IsExact, kept, kept_from, used, used_from, mapped}

module _ {K V W : Type 0} (f : K → V → W) where
  pub removed_mapped : (test : K → Bool) (es : List (K × V)) → remove_entry test (mapped f es) ≡ mapped f (remove_entry test es)
  removed_mapped test [] = refl
  removed_mapped test (e ∷ es) = by_test (test e.0)
      (λ y. first_of (mapped f es) ((e.0, f e.0 e.1) ∷ remove_entry test (mapped f es)) y ∙ ap (mapped f) (sym (first_of es (e ∷ remove_entry test es) y)))
      (λ n. second_of (mapped f es) ((e.0, f e.0 e.1) ∷ remove_entry test (mapped f es)) n
      ∙ (ap (λ (l : List (K × W)). (e.0, f e.0 e.1) ∷ l) (removed_mapped test es) ∙ ap (mapped f) (sym (second_of es (e ∷ remove_entry test es) n))))

  pub keys_mapped : (es : List (K × V)) → keys_of (mapped f es) ≡ keys_of es
  keys_mapped [] = refl
  keys_mapped (e ∷ es) = ap (λ (l : List K). e.0 ∷ l) (keys_mapped es)

  pub length_mapped : (es : List (K × V)) → length (mapped f es) ≡ length es
  length_mapped [] = refl
  length_mapped (e ∷ es) = ap suc (length_mapped es)

  -- the same keys, and as many
  pub valid_mapped : (same : K → K → Bool) (cap : ℕ) (es : List (K × V)) → IsValid same (lru_cache es cap) → IsValid same (lru_cache (mapped f es) cap)
  valid_mapped same cap es h = (subst (IsDistinct same) (sym (keys_mapped es)) h.0, subst (λ n. n ≤ cap) (sym (length_mapped es)) h.1, h.2)

module _ {K V W : Type 0} (f : K → V → W) (same : K → K → Bool) (x : IsExact same) (k : K) where
  pub looked_mapped : (es : List (K × V)) → lookup (same k) (mapped f es) ≡ option_map (f k) (lookup (same k) es)
  looked_mapped [] = refl
  looked_mapped (e ∷ es) = by_test (same k e.0)
      (λ y. first_of (Some (f e.0 e.1)) (lookup (same k) (mapped f es)) y
      ∙ (ap (λ j. Some (f j e.1)) (sym (x.equal k e.0 y)) ∙ ap (option_map (f k)) (sym (first_of (Some e.1) (lookup (same k) es) y))))
      (λ n. second_of (Some (f e.0 e.1)) (lookup (same k) (mapped f es)) n
      ∙ (looked_mapped es ∙ ap (option_map (f k)) (sym (second_of (Some e.1) (lookup (same k) es) n))))

  pub kept_mapped : (cap : ℕ) (v : V) (es : List (K × V)) → kept same cap k (f k v) (mapped f es) ≡ mapped f (kept same cap k v es)
  kept_mapped cap v es = ap (λ o. kept_from same o cap k (f k v) (mapped f es)) (looked_mapped es) ∙ by (lookup (same k) es)
    where
      by : (o : Option V) → kept_from same (option_map (f k) o) cap k (f k v) (mapped f es) ≡ mapped f (kept_from same o cap k v es)
      by None = ap (λ (l : List (K × W)). (k, f k v) ∷ l) (take-map (λ e. (e.0, f e.0 e.1)) (cap - 1) es)
      by (Some w) = ap (λ (l : List (K × W)). (k, f k v) ∷ l) (removed_mapped f (same k) es)

  pub used_mapped : (es : List (K × V)) → used same k (mapped f es) ≡ mapped f (used same k es)
  used_mapped es = ap (λ o. used_from same o k (mapped f es)) (looked_mapped es) ∙ by (lookup (same k) es)
    where
      by : (o : Option V) → used_from same (option_map (f k) o) k (mapped f es) ≡ mapped f (used_from same o k es)
      by None = refl
      by (Some v) = ap (λ (l : List (K × W)). (k, f k v) ∷ l) (removed_mapped f (same k) es)
