-- How far down a kept link goes: by one at most for each link that is kept and each look-up that finds one.
use Rattle.std.proofs.Common.{◌≡◌, ◌≢◌, ℕ, suc, ◌+◌, ◌≤◌, ◌<◌, Bool, true, false, cond, nat_eq, List, [], ◌∷◌, length, Option, Some, None, refl, sym, ap, subst, arith, ne_eqb}
use Rattle.std.specs.Map.{lookup, remove_entry}
use Rattle.zone.specs.Links.{Link, Found, Alias, NoData, NxDomain}
use Rattle.zone.specs.Zones.{cname_type}
use Rattle.lru_laws.specs.Orders.{kept, IsWithin}
use Rattle.lru_laws.proofs.Kept.{by_test}
use Rattle.cache.specs.Keys.{Kind, NameError, Key, same_key, error_key, key_for}
use Rattle.cache.specs.Cached.{Hit, Question, lent, moved, is_error, stored, after_keep}
use Rattle.cache.specs.Laws.{same_key_exact}
use Rattle.laws.specs.Uses.{AreHits}
use Rattle.lru_laws.proofs.Places.{within_put, within_kept, within_used, within_removed, within_found}

-- Among the first n entries at most.
abbrev pub IsNear : ℕ → Key → Hit → List (Key × Hit) → Type 0
IsNear n k v es = (m : ℕ) × (m ≤ n) × IsWithin same_key m k v es

pub near_found : (n : ℕ) (k : Key) (v : Hit) (es : List (Key × Hit)) → IsNear n k v es → lookup (same_key k) es ≡ Some v
near_found n k v es w = within_found same_key w.0 k v es w.2

-- Two keys of different names are different.
pub other_key : (k j : Key) → (j.name ≡ k.name → ⊥) → same_key k j ≡ false
other_key k j apart = by_test (same_key k j) (λ e. absurd (apart (ap (λ (x : Key). x.name) (sym (same_key_exact.equal k j e))))) (λ e. e)

differ : (k j : Key) → (k ≡ j → ⊥) → same_key k j ≡ false
differ k j apart = by_test (same_key k j) (λ e. absurd (apart (same_key_exact.equal k j e))) (λ e. e)

-- ---- a link that is kept

not_error : (q : List (List ℕ)) (t : ℕ) (l : Link) → is_error l ≡ false → key_for q t l ≡ error_key q → ⊥
not_error q t (Found rs) z e = let s : Kind t ≡ NameError = ap (λ (k : Key). k.slot) e in cc
not_error q t (Alias r) z e = let s : Kind cname_type ≡ NameError = ap (λ (k : Key). k.slot) e in cc
not_error q t (NoData soa) z e = let s : Kind t ≡ NameError = ap (λ (k : Key). k.slot) e in cc
not_error q t (NxDomain soa) z e = cc

pub near_kept : (cap : ℕ) (q : List (List ℕ)) (t : ℕ) (h : Hit) (es : List (Key × Hit)) → h.ttl ≢ 0 → IsNear 1 (key_for q t h.link) h (after_keep cap q t h es)
near_kept cap q t h es some = (1, omega arith, swept_or (is_error h.link) refl)
  where
    first : IsWithin same_key 1 (key_for q t h.link) h (stored cap (key_for q t h.link) h es)
    first = subst (λ (b : Bool). IsWithin same_key 1 (key_for q t h.link) h (cond b (remove_entry (same_key (key_for q t h.link)) es) (kept same_key cap (key_for q t h.link) h es)))
        (sym (ne_eqb h.ttl 0 some)) (within_put same_key same_key_exact cap (key_for q t h.link) h es)

    swept_or : (b : Bool) → is_error h.link ≡ b
        → IsWithin same_key 1 (key_for q t h.link) h (cond b (stored cap (key_for q t h.link) h es) (remove_entry (same_key (error_key q)) (stored cap (key_for q t h.link) h es)))
    swept_or true e = first
    swept_or false e = within_removed same_key same_key_exact 1 (key_for q t h.link) (error_key q) h (stored cap (key_for q t h.link) h es)
        (differ (key_for q t h.link) (error_key q) (not_error q t h.link e)) first

-- A link of another name that is kept.
pub near_other : (cap n : ℕ) (k : Key) (v : Hit) (q : List (List ℕ)) (t : ℕ) (h : Hit) (es : List (Key × Hit)) → (q ≡ k.name → ⊥) → n < cap → IsNear n k v es
    → IsNear (suc n) k v (after_keep cap q t h es)
near_other cap n k v q t h es apart few (m, le, w) = swept_or (is_error h.link)
  where
    stored_or : (b : Bool) → IsNear (suc n) k v (cond b (remove_entry (same_key (key_for q t h.link)) es) (kept same_key cap (key_for q t h.link) h es))
    stored_or true = (m, omega arith, within_removed same_key same_key_exact m k (key_for q t h.link) v es (other_key k (key_for q t h.link) apart) w)
    stored_or false = (suc m, omega arith, within_kept same_key same_key_exact cap m k (key_for q t h.link) v h es (other_key k (key_for q t h.link) apart) (omega arith) w)

    swept_or : (b : Bool) → IsNear (suc n) k v (cond b (stored cap (key_for q t h.link) h es) (remove_entry (same_key (error_key q)) (stored cap (key_for q t h.link) h es)))
    swept_or true = stored_or (nat_eq h.ttl 0)
    swept_or false = let (p, lp, u) = stored_or (nat_eq h.ttl 0) in
        (p, lp, within_removed same_key same_key_exact p k (error_key q) v (stored cap (key_for q t h.link) h es) (other_key k (error_key q) apart) u)

-- ---- look-ups

near_moved : (n : ℕ) (k : Key) (v : Hit) (a : Option (Key × Hit)) (es : List (Key × Hit)) → IsNear n k v es → IsNear (suc n) k v (moved a es)
near_moved n k v None es (m, le, w) = (m, omega arith, w)
near_moved n k v (Some a) es (m, le, w) = (suc m, omega arith, within_used same_key same_key_exact m k a.0 v es w)

pub near_hits : (now n : ℕ) (k : Key) (v : Hit) (hits : List Question) (old new : List (Key × Hit)) → AreHits now hits old new → IsNear n k v old → IsNear (n + length hits) k v new
near_hits now n k v [] old new are near = subst (λ es. IsNear (n + 0) k v es) (sym are) (let (m, le, w) = near in (m, omega arith, w))
near_hits now n k v (a ∷ more) old new (some, are) near =
    let (m, le, w) = near_hits now (suc n) k v more (moved (lent a now old) old) new are (near_moved n k v (lent a now old) old near) in
    (m, omega arith, w)
