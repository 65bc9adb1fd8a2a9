-- To keys that have the hash of their name, entries under such keys are the same entries without hashes.
use Rattle.std.proofs.Common.{◌≡◌, ℕ, Bool, true, false, ◌&&◌, nat_eq, List, [], ◌∷◌, refl, sym, ap, ◌∙◌, subst, eq-eqb}
use Rattle.std.specs.Map.{lookup, remove_entry}
use Rattle.lru.specs.LruCache.{lru_cache, IsValid, promoted}
use Rattle.lru_laws.specs.Orders.{rekeyed}
use Rattle.lru_laws.specs.Stores.{put_for}
use Rattle.lru_laws.proofs.Rekeyed.{looked_rekeyed, removed_rekeyed, promoted_rekeyed, stored_rekeyed, valid_rekeyed}
use Rattle.cache.specs.Keys.{Key, same_key}
use Rattle.cache.specs.Hashed.{HashedKey, plain, same_hashed, hashed, IsHashed, unhashed, AreHashed}
use Rattle.cache.specs.Laws.{same_key_exact}

module _ (h : List (List ℕ) → ℕ) where
  agree : (a b : Key) → same_hashed (hashed h a) (hashed h b) ≡ same_key a b
  agree a b = by (same_key a b) refl
    where
      by : (s : Bool) → same_key a b ≡ s → same_key a b && nat_eq (h a.name) (h b.name) ≡ same_key a b
      by true is = (λ i. is i && eq-eqb (h a.name) (h b.name) (ap (λ (k : Key). h k.name) (same_key_exact.equal a b is)) i) ∙ sym is
      by false is = (λ i. is i && nat_eq (h a.name) (h b.name)) ∙ sym is

  key_is : (k : HashedKey) → IsHashed h k → k ≡ hashed h (plain k)
  key_is k is = λ i. record { name = k.name; slot = k.slot; hash = is i }

  module _ {V : Type 0} where
    again : (es : List (Key × V)) → unhashed (rekeyed (hashed h) es) ≡ es
    again [] = refl
    again (e ∷ es) = ap (λ (l : List (Key × V)). e ∷ l) (again es)

    -- Entries that are made of others by their names' hashes.
    module _ (es : List (HashedKey × V)) (bare : List (Key × V)) (is : es ≡ rekeyed (hashed h) bare) where
      pub bare_is : unhashed es ≡ bare
      bare_is = ap unhashed is ∙ again bare

      pub are_hashed : AreHashed h es
      are_hashed = is ∙ ap (rekeyed (hashed h)) (sym bare_is)

    module _ (es : List (HashedKey × V)) (are : AreHashed h es) where
      module _ (k : HashedKey) (is : IsHashed h k) where
        pub looked : lookup (same_hashed k) es ≡ lookup (same_key (plain k)) (unhashed es)
        looked = (λ i. lookup (same_hashed (key_is k is i)) (are i)) ∙ looked_rekeyed (hashed h) same_key same_hashed agree (plain k) (unhashed es)

        pub removed_is : remove_entry (same_hashed k) es ≡ rekeyed (hashed h) (remove_entry (same_key (plain k)) (unhashed es))
        removed_is = (λ i. remove_entry (same_hashed (key_is k is i)) (are i)) ∙ removed_rekeyed (hashed h) same_key same_hashed agree (plain k) (unhashed es)

        pub promoted_is : promoted (same_hashed k) es ≡ rekeyed (hashed h) (promoted (same_key (plain k)) (unhashed es))
        promoted_is = (λ i. promoted (same_hashed (key_is k is i)) (are i)) ∙ promoted_rekeyed (hashed h) same_key same_hashed agree (plain k) (unhashed es)

        pub stored_is : (cap : ℕ) (v : V) (ttl : ℕ) → put_for same_hashed (lru_cache es cap) k v ttl ≡ rekeyed (hashed h) (put_for same_key (lru_cache (unhashed es) cap) (plain k) v ttl)
        stored_is cap v ttl = (λ i. put_for same_hashed (lru_cache (are i) cap) (key_is k is i) v ttl) ∙ stored_rekeyed (hashed h) same_key same_hashed agree (plain k) cap v ttl (unhashed es)

      pub valid_bare : (cap : ℕ) → IsValid same_hashed (lru_cache es cap) → IsValid same_key (lru_cache (unhashed es) cap)
      valid_bare cap v = valid_rekeyed (hashed h) same_key same_hashed agree cap (unhashed es) (subst (λ (l : List (HashedKey × V)). IsValid same_hashed (lru_cache l cap)) are v)
