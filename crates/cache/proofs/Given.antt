-- What a look-up gives, and when it gives nothing.
use Rattle.std.proofs.Common.{◌≡◌, ◌≢◌, ℕ, Bool, true, false, cond, nat_eq, inl, inr, List, [], ◌∷◌, Option, Some, None, refl, sym, ap, ◌∙◌, subst, ne_eqb, eq-eqb}
use Rattle.std.specs.Prelude.{IfNone, Contains}
use Rattle.std.specs.Map.{lookup, remove_entry}
use Rattle.lru.specs.LruCache.{lru_cache, IsValid}
use Rattle.rdata.specs.Records.{Record}
use Rattle.zone.specs.Links.{Link, Found, Alias, NoData, NxDomain}
use Rattle.zone.specs.Zones.{cname_type}
use Rattle.zone.proofs.LawLists.{none_in, first_in, later_in, in_cases}
use Rattle.lru_laws.specs.Orders.{kept}
use Rattle.lru_laws.proofs.Kept.{by_test, kept_found, kept_others, removed_others_of}
use Rattle.lru_laws.proofs.Keys.{used_valid, removed_valid, removed_missed}
use Rattle.lru_laws.proofs.Stored as stores
use Rattle.cache.specs.Keys.{Kind, Key, same_key, kind_key, error_key, key_for}
use Rattle.cache.specs.Cached.{Hit, as_kept, as_alias, with_link, is_live, live_from, live_at, set_from, set_at, alias_from, alias_at, under, or_else, answer, hit_of, Question, error_above, lent, moved, after_look, is_error, stored, after_keep, Lives, IsMiss, ComesFirst, IsHeld}
use Rattle.cache.specs.Laws.{same_key_exact}
use Rattle.cache.proofs.Steps.{apart_from_error}
use Rattle.cache.proofs.Members.{given_held}

some_or_none : {X : Type 0} {x : X} → Some x ≡ None → ⊥
some_or_none e = cc

one_value : {X : Type 0} {x y : X} → Some x ≡ Some y → x ≡ y
one_value e = cc

module _ (now : ℕ) (es : List (Key × Hit)) (k : Key) where
  live_to : (h : Hit) → Lives now es k h → live_at now k es ≡ Some h
  live_to h l = ap (live_from now) l.0 ∙ ap (λ b. cond b (Some h) None) l.1

  live_none : ((h : Hit) → Lives now es k h → ⊥) → live_at now k es ≡ None
  live_none none = by (lookup (same_key k) es) refl
    where
      by : (o : Option Hit) → lookup (same_key k) es ≡ o → live_from now o ≡ None
      by None e = refl
      by (Some h) e = by_test (is_live now h) (λ y. absurd (none h (e, y))) (λ n. ap (λ b. cond b (Some h) None) n)

  live_of : (o : Option Hit) → live_at now k es ≡ o → (h : Hit) → o ≡ Some h → Lives now es k h
  live_of o is h some = by (lookup (same_key k) es) refl (is ∙ some)
    where
      at : (j : Hit) → lookup (same_key k) es ≡ Some j → (b : Bool) → is_live now j ≡ b → cond b (Some j) None ≡ Some h → Lives now es k h
      at j e true l s = let same : j ≡ h = one_value s in (e ∙ ap Some same, ap (is_live now) (sym same) ∙ l)
      at j e false l s = cc

      by : (p : Option Hit) → lookup (same_key k) es ≡ p → live_from now p ≡ Some h → Lives now es k h
      by None e s = cc
      by (Some j) e s = at j e (is_live now j) refl s

  -- nothing under the key that is an alias
  alias_none : ((h : Hit) (l : Link) → Lives now es k h → as_alias h.link ≡ Some l → ⊥) → alias_at now k es ≡ None
  alias_none none = by (live_at now k es) refl
    where
      by : (o : Option Hit) → live_at now k es ≡ o → alias_from o ≡ None
      by None e = refl
      by (Some h) e = given (as_alias h.link) refl
        where
          given : (a : Option Link) → as_alias h.link ≡ a → with_link h a ≡ None
          given None f = refl
          given (Some l) f = absurd (none h l (live_of (Some h) e h refl) f)

none_both : (x y : Option (Key × Hit)) → or_else x y ≡ None → (x ≡ None) × (y ≡ None)
none_both None y h = (refl, h)
none_both (Some a) y h = absurd (some_or_none h)

under_none : (k : Key) (o : Option Hit) → under k o ≡ None → o ≡ None
under_none k None h = refl
under_none k (Some h) e = absurd (some_or_none e)

hit_none : (a : Option (Key × Hit)) → hit_of a ≡ None → a ≡ None
hit_none None h = refl
hit_none (Some a) h = absurd (some_or_none h)

module _ (q : List (List ℕ)) (t now : ℕ) (es : List (Key × Hit)) where
  abbrev alias_part : Bool → Option (Key × Hit)
  alias_part b = cond b None (under (kind_key q cname_type) (alias_at now (kind_key q cname_type) es))

  -- ---- the first one is given

  error_none : (l : Link) (h : Hit) → h.link ≡ l → is_error l ≡ false → ComesFirst q t now es h → set_at now (error_key q) es ≡ None
  error_none l h is z f = ap set_from (live_none now es (error_key q) (f.exists (ap is_error is ∙ z)))

  first_answers : (h : Hit) → ComesFirst q t now es h → answer q t now es ≡ Some (key_for q t h.link, h)
  first_answers h f = by h.link h.ttl h.since f
    where
      by : (l : Link) (ttl since : ℕ) → ComesFirst q t now es (as_kept l ttl since) → answer q t now es ≡ Some (key_for q t l, as_kept l ttl since)
      by (Found rs) ttl since f =
          let e = error_none (Found rs) (as_kept (Found rs) ttl since) refl refl f in
          let o = ap set_from (live_to now es (kind_key q t) (as_kept (Found rs) ttl since) f.lives) in
          λ i. or_else (under (error_key q) (e i)) (or_else (under (kind_key q t) (o i)) (alias_part (nat_eq t cname_type)))
      by (NoData soa) ttl since f =
          let e = error_none (NoData soa) (as_kept (NoData soa) ttl since) refl refl f in
          let o = ap set_from (live_to now es (kind_key q t) (as_kept (NoData soa) ttl since) f.lives) in
          λ i. or_else (under (error_key q) (e i)) (or_else (under (kind_key q t) (o i)) (alias_part (nat_eq t cname_type)))
      by (NxDomain soa) ttl since f =
          let e = ap set_from (live_to now es (error_key q) (as_kept (NxDomain soa) ttl since) f.lives) in
          λ i. or_else (under (error_key q) (e i)) (or_else (under (kind_key q t) (set_at now (kind_key q t) es)) (alias_part (nat_eq t cname_type)))
      by (Alias r) ttl since f =
          let e = error_none (Alias r) (as_kept (Alias r) ttl since) refl refl f in
          let other = f.other r refl in
          let o : set_at now (kind_key q t) es ≡ None = ap set_from (live_none now es (kind_key q t) other.1) in
          let n = ne_eqb t cname_type other.0 in
          let a = ap alias_from (live_to now es (kind_key q cname_type) (as_kept (Alias r) ttl since) f.lives) in
          λ i. or_else (under (error_key q) (e i)) (or_else (under (kind_key q t) (o i)) (cond (n i) None (under (kind_key q cname_type) (a i))))

-- ---- errors of names above

module _ (now : ℕ) (es : List (Key × Hit)) where
  none_above : (ns : List (List (List ℕ))) → error_above ns now es ≡ None → (p : List (List ℕ)) → Contains ns p → (h : Hit) → Lives now es (error_key p) h → ⊥
  none_above [] e p m h l = none_in p m
  none_above (n ∷ ns) e p m h l =
      let both = none_both (under (error_key n) (set_at now (error_key n) es)) (error_above ns now es) e in
      elim (in_cases n p ns m) [
        | inl same ↦ (let lives = subst (λ (x : List (List ℕ)). Lives now es (error_key x) h) (sym same) l in
            some_or_none (sym (ap set_from (live_to now es (error_key n) h lives)) ∙ under_none (error_key n) (set_at now (error_key n) es) both.0))
        | inr more ↦ none_above ns both.1 p more h l
      ]

  all_none : (ns : List (List (List ℕ))) → ((p : List (List ℕ)) → Contains ns p → (h : Hit) → Lives now es (error_key p) h → ⊥) → error_above ns now es ≡ None
  all_none [] f = refl
  all_none (n ∷ ns) f =
      ap (λ o. or_else (under (error_key n) (set_from o)) (error_above ns now es)) (live_none now es (error_key n) (f n (first_in n ns))) ∙ all_none ns (λ p m. f p (later_in n p ns m))

-- ---- nothing is given

module _ (a : Question) (now : ℕ) (es : List (Key × Hit)) where
  abbrev alias_of : Bool → Option (Key × Hit)
  alias_of b = alias_part a.name a.kind now es b

  miss_of : lent a now es ≡ None → IsMiss a now es
  miss_of nothing =
      let whole = none_both (answer a.name a.kind now es) (error_above a.above now es) nothing in
      let first = none_both (under (error_key a.name) (set_at now (error_key a.name) es)) (or_else (under (kind_key a.name a.kind) (set_at now (kind_key a.name a.kind) es)) (alias_of (nat_eq a.kind cname_type))) whole.0 in
      let rest = none_both (under (kind_key a.name a.kind) (set_at now (kind_key a.name a.kind) es)) (alias_of (nat_eq a.kind cname_type)) first.1 in
      record {
        error = λ h l. some_or_none (sym (ap set_from (live_to now es (error_key a.name) h l)) ∙ under_none (error_key a.name) (set_at now (error_key a.name) es) first.0);
        own = λ h l. some_or_none (sym (ap set_from (live_to now es (kind_key a.name a.kind) h l)) ∙ under_none (kind_key a.name a.kind) (set_at now (kind_key a.name a.kind) es) rest.0);
        alias = λ h l other lives is.
            let part : alias_of false ≡ None = sym (ap alias_of (ne_eqb a.kind cname_type other)) ∙ rest.1 in
            let none_at = under_none (kind_key a.name cname_type) (alias_at now (kind_key a.name cname_type) es) part in
            some_or_none (sym (ap alias_from (live_to now es (kind_key a.name cname_type) h lives) ∙ ap (with_link h) is) ∙ none_at);
        above = none_above now es a.above whole.1;
      }

  own_none : IsMiss a now es → answer a.name a.kind now es ≡ None
  own_none miss =
      let e : set_at now (error_key a.name) es ≡ None = ap set_from (live_none now es (error_key a.name) miss.error) in
      let o : set_at now (kind_key a.name a.kind) es ≡ None = ap set_from (live_none now es (kind_key a.name a.kind) miss.own) in
      (λ i. or_else (under (error_key a.name) (e i)) (or_else (under (kind_key a.name a.kind) (o i)) (alias_of (nat_eq a.kind cname_type))))
      ∙ by_test (nat_eq a.kind cname_type)
      (λ y. ap alias_of y)
      (λ n. ap alias_of n ∙ ap (under (kind_key a.name cname_type)) (alias_none now es (kind_key a.name cname_type) (λ h l lives is. miss.alias h l (other n) lives is)))
    where
      other : nat_eq a.kind cname_type ≡ false → a.kind ≢ cname_type
      other n is = let same = eq-eqb a.kind cname_type is in absurd (cc)

  none_of : IsMiss a now es → lent a now es ≡ None
  none_of miss = ap (λ o. or_else o (error_above a.above now es)) (own_none miss) ∙ all_none now es a.above miss.above

  pub nothing_missed : hit_of (lent a now es) ≡ None → IsMiss a now es
  nothing_missed h = miss_of (hit_none (lent a now es) h)

  pub miss_gives_nothing : IsMiss a now es → hit_of (lent a now es) ≡ None
  miss_gives_nothing miss = ap hit_of (none_of miss)

  pub miss_is_missed : (k : Key) (h : Option Hit) → under k h ≡ lent a now es → IfNone h (IsMiss a now es)
  miss_is_missed k None e = miss_of (sym e)
  miss_is_missed k (Some h) e = tt

  pub given_lives : (h : Hit) → hit_of (lent a now es) ≡ Some h → is_live now h ≡ true
  given_lives h is = let held : IsHeld a now es h = given_held a now es h is in by held
    where
      by : IsHeld a now es h → is_live now h ≡ true
      by (k, e, there, lives, answers, ttl, since) = (λ i. is_live now (as_kept e.link (ttl i) (since i))) ∙ lives

  pub first_given : (h : Hit) → ComesFirst a.name a.kind now es h → lent a now es ≡ Some (key_for a.name a.kind h.link, h)
  first_given h f = ap (λ o. or_else o (error_above a.above now es)) (first_answers a.name a.kind now es h f)

-- ---- kept, then looked up

keys_apart : (a b : Key) → (a ≡ b → ⊥) → same_key a b ≡ false
keys_apart a b n = by_test (same_key a b) (λ y. absurd (n (same_key_exact.equal a b y))) (λ m. m)

kinds_apart : (q : List (List ℕ)) (s t : ℕ) → s ≢ t → kind_key q s ≡ kind_key q t → ⊥
kinds_apart q s t n e = let slots : Kind s ≡ Kind t = ap (λ k. k.slot) e in let same : s ≡ t = cc in n same

kind_from_error : (q : List (List ℕ)) (t : ℕ) → kind_key q t ≡ error_key q → ⊥
kind_from_error q t e = apart_from_error q t (Found []) refl e

module _ (cap : ℕ) (q : List (List ℕ)) (t : ℕ) (h : Hit) (es : List (Key × Hit)) (valid : IsValid same_key (lru_cache es cap)) where
  stored_valid : IsValid same_key (lru_cache (stored cap (key_for q t h.link) h es) cap)
  stored_valid = stores.stored_valid same_key same_key_exact cap (key_for q t h.link) h h.ttl es valid

  pub keep_valid : IsValid same_key (lru_cache (after_keep cap q t h es) cap)
  keep_valid = by_bool (is_error h.link)
    where
      by_bool : (b : Bool) → IsValid same_key (lru_cache (cond b (stored cap (key_for q t h.link) h es) (remove_entry (same_key (error_key q)) (stored cap (key_for q t h.link) h es))) cap)
      by_bool true = stored_valid
      by_bool false = removed_valid same_key same_key_exact cap (error_key q) (stored cap (key_for q t h.link) h es) stored_valid

  module _ (some : h.ttl ≢ 0) where
    abbrev by_ttl : Bool → List (Key × Hit)
    by_ttl b = cond b (remove_entry (same_key (key_for q t h.link)) es) (kept same_key cap (key_for q t h.link) h es)

    stored_is : stored cap (key_for q t h.link) h es ≡ kept same_key cap (key_for q t h.link) h es
    stored_is = ap by_ttl (ne_eqb h.ttl 0 some)

    stored_found : lookup (same_key (key_for q t h.link)) (stored cap (key_for q t h.link) h es) ≡ Some h
    stored_found = ap (lookup (same_key (key_for q t h.link))) stored_is ∙ kept_found same_key same_key_exact (key_for q t h.link) cap h es

    abbrev by_error : Bool → List (Key × Hit)
    by_error b = cond b (stored cap (key_for q t h.link) h es) (remove_entry (same_key (error_key q)) (stored cap (key_for q t h.link) h es))

    after_found : lookup (same_key (key_for q t h.link)) (after_keep cap q t h es) ≡ Some h
    after_found = by_test (is_error h.link)
        (λ y. ap (λ b. lookup (same_key (key_for q t h.link)) (by_error b)) y ∙ stored_found)
        (λ n. ap (λ b. lookup (same_key (key_for q t h.link)) (by_error b)) n
        ∙ (removed_others_of same_key same_key_exact (error_key q) (key_for q t h.link) (stored cap (key_for q t h.link) h es) (keys_apart (key_for q t h.link) (error_key q) (apart_from_error q t h.link n))
        ∙ stored_found))

    no_error : is_error h.link ≡ false → lookup (same_key (error_key q)) (after_keep cap q t h es) ≡ None
    no_error n = ap (λ b. lookup (same_key (error_key q)) (by_error b)) n ∙ removed_missed same_key same_key_exact (error_key q) (stored cap (key_for q t h.link) h es) stored_valid.0

    other_was : (r : Record) → h.link ≡ Alias r → t ≢ cname_type → (e : Hit) → lookup (same_key (kind_key q t)) (after_keep cap q t h es) ≡ Some e → lookup (same_key (kind_key q t)) es ≡ Some e
    other_was r is other e looked =
        let k : key_for q t h.link ≡ kind_key q cname_type = ap (key_for q t) is in
        let n : is_error h.link ≡ false = ap is_error is in
        let to_stored = sym (ap (λ b. lookup (same_key (kind_key q t)) (by_error b)) n
        ∙ removed_others_of same_key same_key_exact (error_key q) (kind_key q t) (stored cap (key_for q t h.link) h es) (keys_apart (kind_key q t) (error_key q) (kind_from_error q t))) in
        let to_kept = sym (ap (lookup (same_key (kind_key q t))) stored_is) in
        let found : lookup (same_key (kind_key q t)) (kept same_key cap (key_for q t h.link) h es) ≡ Some e = to_kept ∙ (to_stored ∙ looked) in
        let apart = keys_apart (kind_key q t) (key_for q t h.link) (λ s. kinds_apart q t cname_type other (s ∙ k)) in
        elim (kept_others same_key same_key_exact (key_for q t h.link) cap h es (kind_key q t) apart) [
          | inl same ↦ sym same ∙ found
          | inr none ↦ absurd (some_or_none (sym found ∙ none))
        ]

    pub kept_given : (above : List (List (List ℕ))) (now : ℕ) → is_live now h ≡ true → ((r : Record) → h.link ≡ Alias r → (t ≢ cname_type) × ((e : Hit) → Lives now es (kind_key q t) e → ⊥))
        → hit_of (lent (record { name = q; kind = t; above = above }) now (after_keep cap q t h es)) ≡ Some h
    kept_given above now live other = ap hit_of (first_given (record { name = q; kind = t; above = above }) now (after_keep cap q t h es) h (record {
      lives = (after_found, live);
      exists = λ n e lives. some_or_none (sym lives.0 ∙ no_error n);
      other = λ r is. ((other r is).0, λ e lives. (other r is).1 e (other_was r is (other r is).0 e lives.0, lives.1));
    }))

pub look_valid : (cap : ℕ) (a : Question) (now : ℕ) (es : List (Key × Hit)) → IsValid same_key (lru_cache es cap) → IsValid same_key (lru_cache (after_look a now es) cap)
look_valid cap a now es h = by (lent a now es)
  where
    by : (x : Option (Key × Hit)) → IsValid same_key (lru_cache (moved x es) cap)
    by None = h
    by (Some x) = used_valid same_key same_key_exact cap x.0 es h
