-- What a store of failures says, and what its steps leave.
use Rattle.std.proofs.Common.{◌≡◌, ℕ, ◌-◌, ◌<◌, Bool, true, false, cond, List, Contains, Option, Some, None, is_some, refl, sym, ap, ◌∙◌, subst}
use Rattle.std.proofs.lemmas.Bool.{ltb-true, lt-ltb}
use Rattle.std.specs.Map.{lookup}
use Rattle.lru.specs.LruCache.{LruCache, lru_cache, promoted, put_entries}
use Rattle.lru.proofs.CallerLemmas.{Contains-lookup}
use Rattle.lru_laws.specs.Orders.{used, KeepsOnly, LosesOnly, HasSame, MayGo}
use Rattle.lru_laws.specs.Stores.{live_from}
use Rattle.lru_laws.proofs.Kept.{first_of, put_is_kept, promoted_is_used, kept_only, kept_gone, kept_found, used_members, used_found}
use Rattle.cache.specs.Failures.{FailedAsk, same_failed, is_recent, is_failed, after_failed, after_is_failed}
use Rattle.cache.specs.FailureLaws.{same_failed_exact}

-- ---- what lives

there : (k : FailedAsk) (es : List (FailedAsk × ℕ)) (since : ℕ) → lookup (same_failed k) es ≡ Some since → Contains es (k, since)
there k es since e =
    let found = Contains-lookup (same_failed k) es since e in
    subst (λ j. Contains es (j, since)) (sym (same_failed_exact.equal k found.0 found.2)) found.1

pub failed_was_kept : (now : ℕ) (k : FailedAsk) (es : List (FailedAsk × ℕ)) → is_failed now k es ≡ true → (since : ℕ) × Contains es (k, since) × (now - since < 30000)
failed_was_kept now k es = by (lookup (same_failed k) es) refl
  where
    by : (o : Option ℕ) → lookup (same_failed k) es ≡ o → is_some (live_from (is_recent now) o) ≡ true → (since : ℕ) × Contains es (k, since) × (now - since < 30000)
    by None e h = absurd (cc)
    by (Some since) e h = live (is_recent now since) refl h
      where
        live : (b : Bool) → is_recent now since ≡ b → is_some (cond b (Some since) None) ≡ true → (since : ℕ) × Contains es (k, since) × (now - since < 30000)
        live true young h = (since, there k es since e, ltb-true (now - since) 30000 young)
        live false old h = absurd (cc)

-- What the look-up finds decides.
pub found_is : (now : ℕ) (k : FailedAsk) (es : List (FailedAsk × ℕ)) (since : ℕ) → lookup (same_failed k) es ≡ Some since → is_failed now k es ≡ is_recent now since
found_is now k es since e = ap (λ (o : Option ℕ). is_some (live_from (is_recent now) o)) e ∙ by (is_recent now since)
  where
    by : (b : Bool) → is_some (cond b (Some since) None) ≡ b
    by true = refl
    by false = refl

pub none_is : (now : ℕ) (k : FailedAsk) (es : List (FailedAsk × ℕ)) → lookup (same_failed k) es ≡ None → is_failed now k es ≡ false
none_is now k es e = ap (λ (o : Option ℕ). is_some (live_from (is_recent now) o)) e

pub kept_is_failed : (cap now later : ℕ) (k : FailedAsk) (es : List (FailedAsk × ℕ)) → later - now < 30000 → is_failed later k (after_failed cap k now es) ≡ true
kept_is_failed cap now later k es young =
    found_is later k (after_failed cap k now es) now (kept_found same_failed same_failed_exact k cap now es) ∙ lt-ltb (later - now) 30000 young

-- ---- look-ups

pub used_fails : (now : ℕ) (k j : FailedAsk) (es : List (FailedAsk × ℕ)) → is_failed now j (used same_failed k es) ≡ is_failed now j es
used_fails now k j es = ap (λ (o : Option ℕ). is_some (live_from (is_recent now) o)) (used_found same_failed same_failed_exact k j es)

pub asked_fails : (now later : ℕ) (k j : FailedAsk) (es : List (FailedAsk × ℕ)) → is_failed later j (after_is_failed now k es) ≡ is_failed later j es
asked_fails now later k j es = by (is_failed now k es)
  where
    by : (b : Bool) → is_failed later j (cond b (used same_failed k es) es) ≡ is_failed later j es
    by true = used_fails later k j es
    by false = refl

pub used_same : (k : FailedAsk) (es : List (FailedAsk × ℕ)) → HasSame es (used same_failed k es)
used_same k es = used_members same_failed same_failed_exact k es

pub asked_members : (now : ℕ) (k : FailedAsk) (es : List (FailedAsk × ℕ)) → HasSame es (after_is_failed now k es)
asked_members now k es = by (is_failed now k es)
  where
    by : (b : Bool) → HasSame es (cond b (used same_failed k es) es)
    by true = used_same k es
    by false = (λ x c. c, λ x c. c)

pub members_after : (c d : LruCache FailedAsk ℕ) (now : ℕ) (k : FailedAsk) → d ≡ lru_cache (after_is_failed now k c.entries) c.cap → HasSame c.entries d.entries
members_after c d now k is = subst (λ (x : LruCache FailedAsk ℕ). HasSame c.entries x.entries) (sym is) (asked_members now k c.entries)

-- The failure that lives goes first.
pub lives_first : (c d : LruCache FailedAsk ℕ) (now : ℕ) (k : FailedAsk) → is_failed now k c.entries ≡ true → d ≡ lru_cache (promoted (same_failed k) c.entries) c.cap
    → d ≡ lru_cache (after_is_failed now k c.entries) c.cap
lives_first c d now k lives is =
    is ∙ ap (λ es. lru_cache es c.cap) (promoted_is_used same_failed same_failed_exact k c.entries ∙ sym (first_of (used same_failed k c.entries) c.entries lives))

-- ---- a failure that comes

pub put_is : (e c d : LruCache FailedAsk ℕ) (j k : FailedAsk) (now : ℕ) → e ≡ c → j ≡ k → d ≡ lru_cache (put_entries same_failed e j now) e.cap
    → d ≡ lru_cache (after_failed c.cap k now c.entries) c.cap
put_is e c d j k now seen same is =
    is ∙ ((λ i. lru_cache (put_entries same_failed (seen i) (same i) now) (seen i).cap) ∙ ap (λ es. lru_cache es c.cap) (put_is_kept same_failed same_failed_exact k c.cap now c.entries))

pub failed_members : (cap : ℕ) (k : FailedAsk) (now : ℕ) (es : List (FailedAsk × ℕ)) → KeepsOnly es (λ e. e ≡ (k, now)) (after_failed cap k now es)
failed_members cap k now es = kept_only same_failed k cap now es

pub failed_lost : (cap : ℕ) (k : FailedAsk) (now : ℕ) (es : List (FailedAsk × ℕ)) → LosesOnly es (MayGo same_failed cap k es) (after_failed cap k now es)
failed_lost cap k now es = kept_gone same_failed same_failed_exact k cap now es

module _ (c d : LruCache FailedAsk ℕ) (k : FailedAsk) (now : ℕ) (is : d ≡ lru_cache (after_failed c.cap k now c.entries) c.cap) where
  pub put_only : KeepsOnly c.entries (λ e. e ≡ (k, now)) d.entries
  put_only = subst (λ (x : LruCache FailedAsk ℕ). KeepsOnly c.entries (λ e. e ≡ (k, now)) x.entries) (sym is) (failed_members c.cap k now c.entries)

  pub put_gone : LosesOnly c.entries (MayGo same_failed c.cap k c.entries) d.entries
  put_gone = subst (λ (x : LruCache FailedAsk ℕ). LosesOnly c.entries (MayGo same_failed c.cap k c.entries) x.entries) (sym is) (failed_lost c.cap k now c.entries)
