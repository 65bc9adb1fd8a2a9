-- What a store holds after each of its calls.
use Rattle.std.proofs.Common.{◌≡◌, ◌≢◌, ℕ, Bool, true, false, cond, nat_eq, ◌⊎◌, inl, inr, List, Contains, Option, Some, None, refl, sym, subst, eqb-true, eq-eqb}
use Rattle.std.specs.Map.{remove_entry}
use Rattle.lru.specs.LruCache.{LruCache, lru_cache, IsValid}
use Rattle.lru.proofs.CallerLemmas.{Contains-remove_entry}
use Rattle.lru_laws.specs.Orders.{IsExact, kept, KeepsOnly, LosesOnly, HasSame, MayGo}
use Rattle.lru_laws.specs.Stores.{moved, stored}
use Rattle.lru_laws.proofs.Kept.{kept_there, kept_only, kept_gone, removed_gone, used_members}
use Rattle.lru_laws.proofs.Keys.{kept_valid, used_valid, removed_valid}

module _ {K V : Type 0} (same : K → K → Bool) (cap : ℕ) (k : K) (v : V) (ttl : ℕ) (es : List (K × V)) where
  not_zero : nat_eq ttl 0 ≡ false → ttl ≢ 0
  not_zero e is = let none = eq-eqb ttl 0 is in absurd (cc)

  pub stored_only : KeepsOnly es (λ e. (e ≡ (k, v)) × (ttl ≢ 0)) (stored same cap k v ttl es)
  stored_only e = by (nat_eq ttl 0) refl
    where
      by : (b : Bool) → nat_eq ttl 0 ≡ b → Contains (cond b (remove_entry (same k) es) (kept same cap k v es)) e → Contains es e ⊎ ((e ≡ (k, v)) × (ttl ≢ 0))
      by true z c = inl (Contains-remove_entry (same k) es e c)
      by false z c = elim (kept_only same k cap v es e c) [ inl d ↦ inl d | inr is ↦ inr (is, not_zero z) ]

  pub stored_there : ttl ≢ 0 → Contains (stored same cap k v ttl es) (k, v)
  stored_there some = by (nat_eq ttl 0) refl
    where
      by : (b : Bool) → nat_eq ttl 0 ≡ b → Contains (cond b (remove_entry (same k) es) (kept same cap k v es)) (k, v)
      by true z = absurd (some (eqb-true ttl 0 z))
      by false z = kept_there same k cap v es

module _ {K V : Type 0} (same : K → K → Bool) (exact : IsExact same) (cap : ℕ) (k : K) (v : V) (ttl : ℕ) (es : List (K × V)) where
  pub stored_gone : LosesOnly es (MayGo same cap k es) (stored same cap k v ttl es)
  stored_gone e c = by (nat_eq ttl 0)
    where
      by : (b : Bool) → Contains (cond b (remove_entry (same k) es) (kept same cap k v es)) e ⊎ MayGo same cap k es e
      by true = elim (removed_gone same exact k es e c) [ inl d ↦ inl d | inr is ↦ inr (inl is) ]
      by false = kept_gone same exact k cap v es e c

  pub stored_valid : IsValid same (lru_cache es cap) → IsValid same (lru_cache (stored same cap k v ttl es) cap)
  stored_valid h = by (nat_eq ttl 0)
    where
      by : (b : Bool) → IsValid same (lru_cache (cond b (remove_entry (same k) es) (kept same cap k v es)) cap)
      by true = removed_valid same exact cap k es h
      by false = kept_valid same exact cap k v es h

module _ {K V : Type 0} (same : K → K → Bool) (exact : IsExact same) where
  pub moved_same : (a : Option (K × V)) (es : List (K × V)) → HasSame es (moved same a es)
  moved_same None es = (λ e c. c, λ e c. c)
  moved_same (Some a) es = used_members same exact a.0 es

  pub moved_members : (c d : LruCache K V) (a : Option (K × V)) → d ≡ lru_cache (moved same a c.entries) c.cap → HasSame c.entries d.entries
  moved_members c d a e = subst (λ (x : LruCache K V). HasSame c.entries x.entries) (sym e) (moved_same a c.entries)

  pub moved_valid : (cap : ℕ) (a : Option (K × V)) (es : List (K × V)) → IsValid same (lru_cache es cap) → IsValid same (lru_cache (moved same a es) cap)
  moved_valid cap None es h = h
  moved_valid cap (Some a) es h = used_valid same exact cap a.0 es h
