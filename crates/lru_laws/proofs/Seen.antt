-- Entries seen with other values: what the steps on the ones are on the others.
use Rattle.std.proofs.Common.{◌≡◌, ℕ, Bool, true, false, cond, nat_eq, Option, Some, None, sym, ap, ◌∙◌, subst}
use Rattle.std.specs.Prelude.{option_map}
use Rattle.std.specs.Map.{lookup, remove_entry}
use Rattle.lru.specs.LruCache.{LruCache, lru_cache, IsValid, put_entries, promoted}
use Rattle.lru_laws.specs.Orders.{IsExact, kept, mapped}
use Rattle.lru_laws.specs.Stores.{live_from, live_at, stored, put_for}
use Rattle.lru_laws.proofs.Kept.{put_is_kept, promoted_is_used}
use Rattle.lru_laws.proofs.Mapped.{valid_mapped, looked_mapped, kept_mapped, used_mapped, removed_mapped}

module _ {K V W : Type 0} (f : K → V → W) where
  abbrev pub seen : LruCache K V → LruCache K W
  seen e = lru_cache (mapped f e.entries) e.cap

module _ {K V W : Type 0} (f : K → V → W) (same : K → K → Bool) (exact : IsExact same) (c : LruCache K W) (e : LruCache K V) (view : seen f e ≡ c) where
  pub seen_valid : IsValid same e → IsValid same c
  seen_valid h = subst (IsValid same) view (valid_mapped f same e.cap e.entries h)

  module _ (lives : W → Bool) (k : K) where
    live_is : (o : Option V) → lookup (same k) e.entries ≡ o → live_at same lives k c.entries ≡ live_from lives (option_map (f k) o)
    live_is o found =
        ap (λ (x : LruCache K W). live_at same lives k x.entries) (sym view)
        ∙ ap (live_from lives) (looked_mapped f same exact k e.entries ∙ ap (option_map (f k)) found)

    -- The answer r of the test of age decides.
    pub live_seen : (v : V) (r : Bool) → lookup (same k) e.entries ≡ Some v → r ≡ lives (f k v) → r ≡ true → Some (f k v) ≡ live_at same lives k c.entries
    live_seen v r found is live = sym (live_is (Some v) found ∙ ap (λ b. cond b (Some (f k v)) None) (sym is ∙ live))

    pub dead_seen : (v : V) (r : Bool) → lookup (same k) e.entries ≡ Some v → r ≡ lives (f k v) → r ≡ false → None ≡ live_at same lives k c.entries
    dead_seen v r found is dead = sym (live_is (Some v) found ∙ ap (λ b. cond b (Some (f k v)) None) (sym is ∙ dead))

    pub none_seen : lookup (same k) e.entries ≡ None → None ≡ live_at same lives k c.entries
    none_seen found = sym (live_is None found)

  pub popped_seen : (test : K → Bool) (d : LruCache K V) → d ≡ lru_cache (remove_entry test e.entries) e.cap → seen f d ≡ lru_cache (remove_entry test c.entries) c.cap
  popped_seen test d is =
      ap (seen f) is ∙ (ap (λ es. lru_cache es e.cap) (sym (removed_mapped f test e.entries)) ∙ ap (λ (x : LruCache K W). lru_cache (remove_entry test x.entries) x.cap) view)

  pub promoted_seen : (k : K) (d : LruCache K V) → d ≡ lru_cache (promoted (same k) e.entries) e.cap → seen f d ≡ lru_cache (promoted (same k) c.entries) c.cap
  promoted_seen k d is =
      ap (seen f) is
      ∙ (ap (λ es. lru_cache es e.cap) (ap (mapped f) (promoted_is_used same exact k e.entries)
      ∙ (sym (used_mapped f same exact k e.entries) ∙ sym (promoted_is_used same exact k (mapped f e.entries))))
      ∙ ap (λ (x : LruCache K W). lru_cache (promoted (same k) x.entries) x.cap) view)

  put_seen : (k : K) (v : V) (d : LruCache K V) → d ≡ lru_cache (put_entries same e k v) e.cap → seen f d ≡ lru_cache (kept same c.cap k (f k v) c.entries) c.cap
  put_seen k v d is =
      ap (seen f) is
      ∙ (ap (λ es. lru_cache es e.cap) (ap (mapped f) (put_is_kept same exact k e.cap v e.entries) ∙ sym (kept_mapped f same exact k e.cap v e.entries))
      ∙ ap (λ (x : LruCache K W). lru_cache (kept same x.cap k (f k v) x.entries) x.cap) view)

  pub stored_seen : (k : K) (v : V) (ttl : ℕ) (d : LruCache K V) → d ≡ lru_cache (put_for same e k v ttl) e.cap → seen f d ≡ lru_cache (stored same c.cap k (f k v) ttl c.entries) c.cap
  stored_seen k v ttl d = by (nat_eq ttl 0)
    where
      by : (b : Bool) → d ≡ lru_cache (cond b (remove_entry (same k) e.entries) (put_entries same e k v)) e.cap
          → seen f d ≡ lru_cache (cond b (remove_entry (same k) c.entries) (kept same c.cap k (f k v) c.entries)) c.cap
      by true is = popped_seen (same k) d is
      by false is = put_seen k v d is
