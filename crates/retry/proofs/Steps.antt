-- What the steps of a store of penalties leave.
use Rattle.std.proofs.Common.{◌≡◌, ℕ, zero, suc, ◌-◌, ◌/◌, ◌≤◌, Bool, true, false, cond, List, [], ◌∷◌, take, inl, inr, Option, Some, None, IsSome, sym, ap, ◌∙◌, subst, arith}
use Rattle.std.specs.Option.{unwrap_or}
use Rattle.std.specs.Map.{lookup, remove_entry, set_value}
use Rattle.lru.specs.LruCache.{LruCache, lru_cache, put_entries, promoted}
use Rattle.lru.proofs.Splits.{Contains-cons, Contains-tail}
use Rattle.lru.proofs.CallerLemmas.{Contains-remove_entry}
use Rattle.rdata.specs.declared.addr.Addr.{Addr}
use Rattle.lru_laws.specs.Orders.{kept, kept_from, KeepsOnly, LosesOnly, MayGo}
use Rattle.lru_laws.proofs.Kept.{put_is_kept, kept_only, kept_gone, set_promoted, removed_gone}
use Rattle.retry.specs.Penalties.{same_addr, penalty, raised, timed_out, answered, answered_from, AreAtMost}
use Rattle.retry.proofs.Exact.{same_addr_exact}

pub looked_most : (n : ℕ) (test : Addr → Bool) (es : List (Addr × ℕ)) → AreAtMost n es → unwrap_or (lookup test es) 0 ≤ n
looked_most n test [] h = omega arith
looked_most n test (e ∷ es) h = by (test e.0) (looked_most n test es h.1)
  where
    by : (b : Bool) → unwrap_or (lookup test es) 0 ≤ n → unwrap_or (cond b (Some e.1) (lookup test es)) 0 ≤ n
    by true more = h.0
    by false more = more

taken_most : (n k : ℕ) (es : List (Addr × ℕ)) → AreAtMost n es → AreAtMost n (take k es)
taken_most n zero es h = tt
taken_most n (suc k) [] h = tt
taken_most n (suc k) (e ∷ es) h = (h.0, taken_most n k es h.1)

removed_most : (n : ℕ) (test : Addr → Bool) (es : List (Addr × ℕ)) → AreAtMost n es → AreAtMost n (remove_entry test es)
removed_most n test [] h = tt
removed_most n test (e ∷ es) h = by (test e.0) (removed_most n test es h.1)
  where
    by : (b : Bool) → AreAtMost n (remove_entry test es) → AreAtMost n (cond b es (e ∷ remove_entry test es))
    by true more = h.1
    by false more = (h.0, more)

pub kept_most : (n cap p : ℕ) (a : Addr) (es : List (Addr × ℕ)) → p ≤ n → AreAtMost n es → AreAtMost n (kept same_addr cap a p es)
kept_most n cap p a es le h = by (lookup (same_addr a) es)
  where
    by : (o : Option ℕ) → AreAtMost n (kept_from same_addr o cap a p es)
    by None = (le, taken_most n (cap - 1) es h)
    by (Some q) = (le, removed_most n (same_addr a) es h)

-- The same store, under the two names that a proof has for it.
pub put_seen : (b c d : LruCache Addr ℕ) (a : Addr) (level : ℕ) → b ≡ c → d ≡ lru_cache (put_entries same_addr b a level) b.cap
    → d ≡ lru_cache (put_entries same_addr c a level) c.cap
put_seen b c d a level view is = is ∙ ap (λ x. lru_cache (put_entries same_addr x a level) x.cap) view

pub never_refused : (b c : LruCache Addr ℕ) (a : Addr) → b ≡ c → (IsSome (lookup (same_addr a) b.entries) → false ≡ true) → IsSome (lookup (same_addr a) c.entries) → ⊥
never_refused b c a view h some = let e = h (subst (λ x. IsSome (lookup (same_addr a) x.entries)) (sym view) some) in cc

module _ (c d : LruCache Addr ℕ) (a : Addr) (level : ℕ) (put : d ≡ lru_cache (put_entries same_addr c a level) c.cap) where
  put_level : d ≡ lru_cache (kept same_addr c.cap a level c.entries) c.cap
  put_level = put ∙ ap (λ es. lru_cache es c.cap) (put_is_kept same_addr same_addr_exact a c.cap level c.entries)

  module _ (is : level ≡ raised a c.entries) where
    pub timed_out_is : d ≡ lru_cache (timed_out a c.cap c.entries) c.cap
    timed_out_is = put_level ∙ ap (λ n. lru_cache (kept same_addr c.cap a n c.entries) c.cap) is

    pub timed_out_only : KeepsOnly c.entries (λ e. e ≡ (a, raised a c.entries)) d.entries
    timed_out_only = subst (KeepsOnly c.entries (λ e. e ≡ (a, raised a c.entries))) (sym (ap (λ x. x.entries) timed_out_is)) (kept_only same_addr a c.cap (raised a c.entries) c.entries)

    pub timed_out_gone : LosesOnly c.entries (MayGo same_addr c.cap a c.entries) d.entries
    timed_out_gone = subst (LosesOnly c.entries (MayGo same_addr c.cap a c.entries)) (sym (ap (λ x. x.entries) timed_out_is)) (kept_gone same_addr same_addr_exact a c.cap (raised a c.entries) c.entries)

    pub timed_out_most : AreAtMost 8 c.entries → AreAtMost 8 d.entries
    timed_out_most h = let le : raised a c.entries ≤ 8 = omega arith in
        subst (AreAtMost 8) (sym (ap (λ x. x.entries) timed_out_is)) (kept_most 8 c.cap (raised a c.entries) a c.entries le h)

module _ (c d : LruCache Addr ℕ) (a : Addr) where
  module _ (p : ℕ) (found : lookup (same_addr a) c.entries ≡ Some p) (written : d ≡ lru_cache (set_value (same_addr a) (promoted (same_addr a) c.entries) (p / 2)) c.cap) where
    pub halved_is : d ≡ lru_cache (answered a c.entries) c.cap
    halved_is = written ∙ (ap (λ es. lru_cache es c.cap) (set_promoted same_addr same_addr_exact a p (p / 2) c.entries found)
        ∙ ap (λ o. lru_cache (answered_from o a c.entries) c.cap) (sym found))

  pub missed_is : lookup (same_addr a) c.entries ≡ None → d ≡ c → d ≡ lru_cache (answered a c.entries) c.cap
  missed_is none is = is ∙ ap (λ o. lru_cache (answered_from o a c.entries) c.cap) (sym none)

answered_only_from : (a : Addr) (es : List (Addr × ℕ)) (o : Option ℕ) → KeepsOnly es (λ e. e.0 ≡ a) (answered_from o a es)
answered_only_from a es None e c = inl c
answered_only_from a es (Some p) e c = elim (Contains-cons (a, p / 2) (remove_entry (same_addr a) es) e c) [
  | inl is ↦ inr (sym (ap (λ x. x.0) is))
  | inr d ↦ inl (Contains-remove_entry (same_addr a) es e d)
]

answered_gone_from : (a : Addr) (es : List (Addr × ℕ)) (o : Option ℕ) → LosesOnly es (λ e. e.0 ≡ a) (answered_from o a es)
answered_gone_from a es None e c = inl c
answered_gone_from a es (Some p) e c = elim (removed_gone same_addr same_addr_exact a es e c) [
  | inl d ↦ inl (Contains-tail (a, p / 2) (remove_entry (same_addr a) es) e d)
  | inr is ↦ inr is
]

pub answered_most_from : (a : Addr) (es : List (Addr × ℕ)) (o : Option ℕ) → unwrap_or o 0 ≤ 8 → AreAtMost 8 es → AreAtMost 8 (answered_from o a es)
answered_most_from a es None le h = h
answered_most_from a es (Some p) le h = let half : p / 2 ≤ 8 = omega arith in (half, removed_most 8 (same_addr a) es h)

module _ (c d : LruCache Addr ℕ) (a : Addr) (is : d ≡ lru_cache (answered a c.entries) c.cap) where
  pub answered_only : KeepsOnly c.entries (λ e. e.0 ≡ a) d.entries
  answered_only = subst (KeepsOnly c.entries (λ e. e.0 ≡ a)) (sym (ap (λ x. x.entries) is)) (answered_only_from a c.entries (lookup (same_addr a) c.entries))

  pub answered_gone : LosesOnly c.entries (λ e. e.0 ≡ a) d.entries
  answered_gone = subst (LosesOnly c.entries (λ e. e.0 ≡ a)) (sym (ap (λ x. x.entries) is)) (answered_gone_from a c.entries (lookup (same_addr a) c.entries))

  pub answered_most : AreAtMost 8 c.entries → AreAtMost 8 d.entries
  answered_most h = subst (AreAtMost 8) (sym (ap (λ x. x.entries) is)) (answered_most_from a c.entries (lookup (same_addr a) c.entries) (looked_most 8 (same_addr a) c.entries h) h)

-- ---- penalties stay at most 8

pub level_low : (a : Addr) (es : List (Addr × ℕ)) → AreAtMost 8 es → penalty a es ≤ 8
level_low a es h = looked_most 8 (same_addr a) es h

pub timed_out_low : (a : Addr) (cap : ℕ) (es : List (Addr × ℕ)) → AreAtMost 8 es → AreAtMost 8 (timed_out a cap es)
timed_out_low a cap es h = let le : raised a es ≤ 8 = omega arith in kept_most 8 cap (raised a es) a es le h

pub answered_low : (a : Addr) (es : List (Addr × ℕ)) → AreAtMost 8 es → AreAtMost 8 (answered a es)
answered_low a es h = answered_most_from a es (lookup (same_addr a) es) (level_low a es h) h
