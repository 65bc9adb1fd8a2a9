-- What the steps of a cache leave.
use Rattle.std.proofs.Common.{◌≡◌, ◌≢◌, ℕ, Bool, true, false, cond, nat_eq, ◌⊎◌, inl, inr, List, [], ◌∷◌, Contains, Option, Some, None, is_some, refl, sym, ap, ◌∙◌, subst, eq-eqb}
use Rattle.std.specs.Prelude.{IfSome}
use Rattle.std.specs.Map.{lookup, remove_entry}
use Rattle.lru.specs.LruCache.{LruCache, lru_cache, promoted}
use Rattle.lru.proofs.CallerLemmas.{Contains-lookup, Contains-remove_entry}
use Rattle.zone.specs.Links.{Link, Found, Alias, NoData, NxDomain}
use Rattle.zone.specs.Zones.{cname_type}
use Rattle.zone.proofs.LawLists.{first_in, later_in}
use Rattle.lru_laws.specs.Orders.{KeepsOnly, LosesOnly, HasSame}
use Rattle.lru_laws.proofs.Kept.{promoted_is_used, removed_gone}
use Rattle.lru_laws.proofs.Stored as stores
use Rattle.cache.specs.Keys.{Kind, NameError, Key, same_key, kind_key, error_key, key_for}
use Rattle.cache.specs.Cached.{Hit, as_set, as_alias, with_link, live_from, set_from, alias_from, set_at, alias_at, is_live, under, or_else, Question, error_above, lent, moved, is_error, swept, stored, after_keep, IsKept, IsGone, EntryAnswers, IsHeld}
use Rattle.cache.specs.Laws.{same_key_exact}

-- ---- look-ups

looked_there : (k : Key) (es : List (Key × Hit)) (h : Hit) → lookup (same_key k) es ≡ Some h → Contains es (k, h)
looked_there k es h e =
    let found = Contains-lookup (same_key k) es h e in
    subst (λ j. Contains es (j, h)) (sym (same_key_exact.equal k found.0 found.2)) found.1

module _ (a : Question) (now : ℕ) (es : List (Key × Hit)) where
  abbrev pub AreHeld : Option (Key × Hit) → Type 0
  AreHeld None = Unit {0}
  AreHeld (Some x) = IsHeld a now es x.1

  either_held : (x y : Option (Key × Hit)) → AreHeld x → AreHeld y → AreHeld (or_else x y)
  either_held None y g h = h
  either_held (Some x) y g h = g

  set_held : (k : Key) → ((l : Link) → EntryAnswers a k l (as_set l)) → AreHeld (under k (set_at now k es))
  set_held k answers = by (lookup (same_key k) es) refl
    where
      by : (o : Option Hit) → lookup (same_key k) es ≡ o → AreHeld (under k (set_from (live_from now o)))
      by None e = tt
      by (Some h) e = live (is_live now h) refl
        where
          live : (b : Bool) → is_live now h ≡ b → AreHeld (under k (set_from (cond b (Some h) None)))
          live true l = (k, h, looked_there k es h e, l, answers h.link, refl, refl)
          live false l = tt

  alias_held : (k : Key) → ((l given : Link) → as_alias l ≡ Some given → EntryAnswers a k l given) → AreHeld (under k (alias_at now k es))
  alias_held k answers = by (lookup (same_key k) es) refl
    where
      by : (o : Option Hit) → lookup (same_key k) es ≡ o → AreHeld (under k (alias_from (live_from now o)))
      by None e = tt
      by (Some h) e = live (is_live now h) refl
        where
          given : (o : Option Link) → as_alias h.link ≡ o → is_live now h ≡ true → AreHeld (under k (with_link h o))
          given None is l = tt
          given (Some x) is l = (k, h, looked_there k es h e, l, answers h.link x is, refl, refl)

          live : (b : Bool) → is_live now h ≡ b → AreHeld (under k (alias_from (cond b (Some h) None)))
          live true l = given (as_alias h.link) refl l
          live false l = tt

  alias_where : (b : Bool) → nat_eq a.kind cname_type ≡ b → AreHeld (cond b None (under (kind_key a.name cname_type) (alias_at now (kind_key a.name cname_type) es)))
  alias_where true e = tt
  alias_where false e = alias_held (kind_key a.name cname_type) (λ l given as_one. inr (inr (inl (refl, apart, as_one))))
    where
      apart : a.kind ≢ cname_type
      apart is = let same = eq-eqb a.kind cname_type is in absurd (cc)

  above_held : (ns : List (List (List ℕ))) → ((p : List (List ℕ)) → Contains ns p → Contains a.above p) → AreHeld (error_above ns now es)
  above_held [] f = tt
  above_held (n ∷ ns) f =
      either_held _ _ (set_held (error_key n) (λ l. inr (inr (inr (n, f n (first_in n ns), refl, refl))))) (above_held ns (λ p m. f p (later_in n p ns m)))

  pub answers_held : AreHeld (lent a now es)
  answers_held = either_held _ _ (either_held _ _ (set_held (error_key a.name) (λ l. inl (refl, refl)))
      (either_held _ _ (set_held (kind_key a.name a.kind) (λ l. inr (inl (refl, refl)))) (alias_where (nat_eq a.kind cname_type) refl)))
      (above_held a.above (λ p m. m))

  -- what is found is there and lives
  pub hit_is_held : (k : Key) (h : Option Hit) → under k h ≡ lent a now es → IfSome h (IsHeld a now es)
  hit_is_held k None e = tt
  hit_is_held k (Some h) e = subst AreHeld (sym e) answers_held

module _ (c d : LruCache Key Hit) (k : Key) (h : Option Hit) (a : Option (Key × Hit)) (found : under k h ≡ a) where
  pub moved_some : is_some h ≡ true → d ≡ lru_cache (promoted (same_key k) c.entries) c.cap → d ≡ lru_cache (moved a c.entries) c.cap
  moved_some some is = is ∙ (by h some ∙ ap (λ x. lru_cache (moved x c.entries) c.cap) found)
    where
      by : (o : Option Hit) → is_some o ≡ true → lru_cache (promoted (same_key k) c.entries) c.cap ≡ lru_cache (moved (under k o) c.entries) c.cap
      by None e = cc
      by (Some h) e = ap (λ es. lru_cache es c.cap) (promoted_is_used same_key same_key_exact k c.entries)

  pub moved_none : is_some h ≡ false → d ≡ c → d ≡ lru_cache (moved a c.entries) c.cap
  moved_none none is = is ∙ (by h none ∙ ap (λ x. lru_cache (moved x c.entries) c.cap) found)
    where
      by : (o : Option Hit) → is_some o ≡ false → c ≡ lru_cache (moved (under k o) c.entries) c.cap
      by None e = refl
      by (Some h) e = cc

pub moved_members : (c d : LruCache Key Hit) (a : Option (Key × Hit)) → d ≡ lru_cache (moved a c.entries) c.cap → HasSame c.entries d.entries
moved_members c d a e = stores.moved_members same_key same_key_exact c d a e

-- ---- links that are kept

pub swept_is : (q : List (List ℕ)) (l : Link) (es : List (Key × Hit)) → is_error l ≡ false → remove_entry (same_key (error_key q)) es ≡ swept q l es
swept_is q l es e = ap (λ x. cond x es (remove_entry (same_key (error_key q)) es)) (sym e)

module _ (q : List (List ℕ)) (l : Link) (es : List (Key × Hit)) where
  swept_only : (e : Key × Hit) → Contains (swept q l es) e → Contains es e
  swept_only e = by (is_error l)
    where
      by : (b : Bool) → Contains (cond b es (remove_entry (same_key (error_key q)) es)) e → Contains es e
      by true c = c
      by false c = Contains-remove_entry (same_key (error_key q)) es e c

  swept_gone : LosesOnly es (λ e. (e.0 ≡ error_key q) × (is_error l ≡ false)) (swept q l es)
  swept_gone e c = by (is_error l) refl
    where
      by : (b : Bool) → is_error l ≡ b → Contains (cond b es (remove_entry (same_key (error_key q)) es)) e ⊎ ((e.0 ≡ error_key q) × (is_error l ≡ false))
      by true z = inl c
      by false z = elim (removed_gone same_key same_key_exact (error_key q) es e c) [ inl d ↦ inl d | inr is ↦ inr (is, z) ]

-- A link other than an NXDOMAIN stands under a type.
pub apart_from_error : (q : List (List ℕ)) (t : ℕ) (l : Link) → is_error l ≡ false → key_for q t l ≡ error_key q → ⊥
apart_from_error q t (Found rs) z e = let s : Kind t ≡ NameError = ap (λ k. k.slot) e in cc
apart_from_error q t (Alias r) z e = let s : Kind cname_type ≡ NameError = ap (λ k. k.slot) e in cc
apart_from_error q t (NoData soa) z e = let s : Kind t ≡ NameError = ap (λ k. k.slot) e in cc
apart_from_error q t (NxDomain soa) z e = cc

module _ (cap : ℕ) (q : List (List ℕ)) (t : ℕ) (h : Hit) (es : List (Key × Hit)) where
  pub after_there : h.ttl ≢ 0 → Contains (after_keep cap q t h es) (key_for q t h.link, h)
  after_there some =
      let k = key_for q t h.link in
      elim (swept_gone q h.link (stored cap k h es) (k, h) (stores.stored_there same_key cap k h h.ttl es some)) [
        | inl c ↦ c
        | inr e ↦ absurd (apart_from_error q t h.link e.1 e.0)
      ]

  pub after_only : KeepsOnly es (IsKept q t h) (after_keep cap q t h es)
  after_only e c = let k = key_for q t h.link in stores.stored_only same_key cap k h h.ttl es e (swept_only q h.link (stored cap k h es) e c)

  pub after_gone : LosesOnly es (IsGone cap q t h es) (after_keep cap q t h es)
  after_gone e c =
      let k = key_for q t h.link in
      elim (stores.stored_gone same_key same_key_exact cap k h h.ttl es e c) [
        | inl d ↦ elim (swept_gone q h.link (stored cap k h es) e d) [ inl s ↦ inl s | inr is ↦ inr (inl is) ]
        | inr go ↦ inr (inr go)
      ]

module _ (c d : LruCache Key Hit) (q : List (List ℕ)) (t : ℕ) (h : Hit) (is : d ≡ lru_cache (after_keep c.cap q t h c.entries) c.cap) where
  pub keep_there : h.ttl ≢ 0 → Contains d.entries (key_for q t h.link, h)
  keep_there some = subst (λ x. Contains x.entries (key_for q t h.link, h)) (sym is) (after_there c.cap q t h c.entries some)

  pub keep_only : KeepsOnly c.entries (IsKept q t h) d.entries
  keep_only = subst (λ x. KeepsOnly c.entries (IsKept q t h) x.entries) (sym is) (after_only c.cap q t h c.entries)

  pub keep_gone : LosesOnly c.entries (IsGone c.cap q t h c.entries) d.entries
  keep_gone = subst (λ x. LosesOnly c.entries (IsGone c.cap q t h c.entries) x.entries) (sym is) (after_gone c.cap q t h c.entries)
