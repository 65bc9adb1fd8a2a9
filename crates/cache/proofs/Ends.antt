-- An entry of the name itself that is no alias answers before all others.
use Rattle.std.proofs.Common.{◌≡◌, ℕ, true, false, cond, nat_eq, List, Option, Some, None, is_some, refl, sym, ap, ◌∙◌}
use Rattle.std.specs.Prelude.{MatchOption}
use Rattle.lru.specs.LruCache.{LruCache, lru_cache, promoted}
use Rattle.rdata.specs.Records.{Record}
use Rattle.zone.specs.Links.{Link, Found, Alias, NoData, NxDomain}
use Rattle.zone.specs.Zones.{cname_type}
use Rattle.cache.specs.Keys.{Key, same_key, kind_key, error_key}
use Rattle.cache.specs.Cached.{Hit, as_set, set_from, live_at, set_at, alias_at, under, or_else, own_end, above_to, asked_to, error_above, lent, hit_of, IsUsed}
use Rattle.cache.proofs.Steps.{moved_some}
use Rattle.cache.proofs.Members.{given_held}

one_entry : {a b : Key × Hit} → Some a ≡ Some b → a ≡ b
one_entry e = cc

first_of : (x y z w : Option (Key × Hit)) (f : Key × Hit) → or_else x y ≡ Some f → or_else (or_else x (or_else y z)) w ≡ Some f
first_of None None z w f e = cc
first_of None (Some b) z w f e = e
first_of (Some a) y z w f e = e

no_alias : (l : Link) (r : Record) → as_set l ≡ Alias r → ⊥
no_alias (Found rs) r e = cc
no_alias (Alias s) r e = cc
no_alias (NoData soa) r e = cc
no_alias (NxDomain soa) r e = cc

set_ends : (k j : Key) (o : Option Hit) (h : Hit) → under k (set_from o) ≡ Some (j, h) → (r : Record) → h.link ≡ Alias r → ⊥
set_ends k j None h e r is = cc
set_ends k j (Some x) h e r is = no_alias x.link r (ap (λ (p : Key × Hit). (p.1).link) (one_entry e) ∙ is)

either_ends : (k l j : Key) (o p : Option Hit) (h : Hit) → or_else (under k (set_from o)) (under l (set_from p)) ≡ Some (j, h) → (r : Record) → h.link ≡ Alias r → ⊥
either_ends k l j None p h e r is = set_ends l j p h e r is
either_ends k l j (Some x) p h e r is = set_ends k j (Some x) h e r is

used : (top q : List (List ℕ)) (t now : ℕ) (k : Key) (h : Hit) (before after : LruCache Key Hit) → under k (Some h) ≡ own_end q t now before.entries
    → after ≡ lru_cache (promoted (same_key k) before.entries) before.cap → IsUsed (asked_to top q t) now before h after
used top q t now k h before after found is =
    let es = before.entries in
    let error = under (error_key q) (set_at now (error_key q) es) in
    let own = under (kind_key q t) (set_at now (kind_key q t) es) in
    let alias = cond (nat_eq t cname_type) None (under (kind_key q cname_type) (alias_at now (kind_key q cname_type) es)) in
    let first : lent (asked_to top q t) now es ≡ Some (k, h) = first_of error own alias (error_above (above_to top q) now es) (k, h) (sym found) in
    record {
      found = ap hit_of first;
      held = given_held (asked_to top q t) now es h (ap hit_of first);
      ends = either_ends (error_key q) (kind_key q t) k (live_at now (error_key q) es) (live_at now (kind_key q t) es) h (sym found);
      moves = moved_some before after k (Some h) (lent (asked_to top q t) now es) (sym first) refl is;
    }

-- The hit that was found is used; without one nothing changes.
module _ (q : List (List ℕ)) (t now : ℕ) (before after : LruCache Key Hit) where
  abbrev pub Uses : Option Hit → Type 0
  Uses o = MatchOption o (after ≡ before) (λ h. (top : List (List ℕ)) → IsUsed (asked_to top q t) now before h after)

  pub uses_one : (o : Option Hit) (k : Key) → under k o ≡ own_end q t now before.entries → is_some o ≡ true → after ≡ lru_cache (promoted (same_key k) before.entries) before.cap → Uses o
  uses_one None k found some is = cc
  uses_one (Some h) k found some is = λ top. used top q t now k h before after found is

  pub uses_none : (o : Option Hit) → is_some o ≡ false → after ≡ before → Uses o
  uses_none None none is = is
  uses_none (Some h) none is = cc
