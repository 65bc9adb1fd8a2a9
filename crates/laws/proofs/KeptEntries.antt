-- What a cache answers, by what stands under the three keys of a question.
use Rattle.std.proofs.Common.{◌≡◌, ◌≢◌, ℕ, true, false, cond, nat_eq, List, [], ◌∷◌, Contains, Option, Some, None, refl, sym, ap, ◌∙◌, subst, ne_eqb}
use Rattle.std.specs.Map.{lookup}
use Rattle.lru.proofs.CallerLemmas.{Contains-lookup}
use Rattle.rdata.specs.Records.{Record}
use Rattle.zone.specs.Links.{Link, Found, Alias, NoData, NxDomain}
use Rattle.zone.specs.Zones.{cname_type}
use Rattle.lru_laws.proofs.Kept.{used_found}
use Rattle.cache.specs.Keys.{Kind, NameError, Key, same_key, kind_key, error_key, key_for}
use Rattle.cache.specs.Cached.{Hit, as_set, as_alias, with_link, is_live, live_from, live_at, set_from, alias_from, under, or_else, answer, Question, error_above, lent, hit_of, moved}
use Rattle.cache.specs.Laws.{same_key_exact}

pub looked_in : (k : Key) (es : List (Key × Hit)) (h : Hit) → lookup (same_key k) es ≡ Some h → Contains es (k, h)
looked_in k es h e =
    let found = Contains-lookup (same_key k) es h e in
    subst (λ j. Contains es (j, h)) (sym (same_key_exact.equal k found.0 found.2)) found.1

-- A hit that goes first changes no answer.
pub moved_looks : (a : Option (Key × Hit)) (es : List (Key × Hit)) (k : Key) → lookup (same_key k) (moved a es) ≡ lookup (same_key k) es
moved_looks None es k = refl
moved_looks (Some a) es k = used_found same_key same_key_exact a.0 k es

same_answer : (q : List (List ℕ)) (t now : ℕ) (es fs : List (Key × Hit)) → ((k : Key) → lookup (same_key k) fs ≡ lookup (same_key k) es) → answer q t now fs ≡ answer q t now es
same_answer q t now es fs same = λ i. or_else (under (error_key q) (set_from (live_from now (same (error_key q) i))))
    (or_else (under (kind_key q t) (set_from (live_from now (same (kind_key q t) i))))
    (cond (nat_eq t cname_type) None (under (kind_key q cname_type) (alias_from (live_from now (same (kind_key q cname_type) i))))))

same_errors : (ns : List (List (List ℕ))) (now : ℕ) (es fs : List (Key × Hit)) → ((k : Key) → lookup (same_key k) fs ≡ lookup (same_key k) es) → error_above ns now fs ≡ error_above ns now es
same_errors [] now es fs same = refl
same_errors (n ∷ ns) now es fs same = λ i. or_else (under (error_key n) (set_from (live_from now (same (error_key n) i)))) (same_errors ns now es fs same i)

pub same_lent : (a : Question) (now : ℕ) (es fs : List (Key × Hit)) → ((k : Key) → lookup (same_key k) fs ≡ lookup (same_key k) es) → lent a now fs ≡ lent a now es
same_lent a now es fs same = λ i. or_else (same_answer a.name a.kind now es fs same i) (same_errors a.above now es fs same i)

-- What stands at the name itself goes before the errors of names above.
first_hit : (own above : Option (Key × Hit)) (h : Hit) → hit_of own ≡ Some h → hit_of (or_else own above) ≡ Some h
first_hit None above h e = cc
first_hit (Some x) above h e = e

module _ (q : List (List ℕ)) (t now : ℕ) (es : List (Key × Hit)) where
  -- What stands under a key does not live, so it is no answer.
  abbrev pub IsDead : Key → Type 0
  IsDead k = (h : Hit) → lookup (same_key k) es ≡ Some h → is_live now h ≡ false

  dead_is_none : (k : Key) → IsDead k → live_at now k es ≡ None
  dead_is_none k dead = by (lookup (same_key k) es) refl
    where
      by : (o : Option Hit) → lookup (same_key k) es ≡ o → live_from now o ≡ None
      by None e = refl
      by (Some h) e = ap (λ b. cond b (Some h) None) (dead h e)

  live_is_some : (k : Key) (h : Hit) → lookup (same_key k) es ≡ Some h → is_live now h ≡ true → live_at now k es ≡ Some h
  live_is_some k h e l = ap (live_from now) e ∙ ap (λ b. cond b (Some h) None) l

  -- A link that lives is the answer where no other entry of its name lives; an alias not where CNAME is asked for.
  lone_is_answer : (h : Hit) → lookup (same_key (key_for q t h.link)) es ≡ Some h → is_live now h ≡ true
      → ((k : Key) → k.name ≡ q → k ≢ key_for q t h.link → IsDead k) → ((r : Record) → h.link ≡ Alias r → t ≢ cname_type)
      → hit_of (answer q t now es) ≡ Some h
  lone_is_answer h there lives alone plain = by h.link refl
    where
      at : (k : Key) → key_for q t h.link ≡ k → live_at now k es ≡ Some h
      at k e = subst (λ (j : Key). live_at now j es ≡ Some h) e (live_is_some (key_for q t h.link) h there lives)

      none : (k j : Key) → key_for q t h.link ≡ j → k.name ≡ q → (k ≡ j → ⊥) → live_at now k es ≡ None
      none k j is named apart = dead_is_none k (alone k named (λ e. apart (e ∙ is)))

      kind_not_error : (u : ℕ) → error_key q ≡ kind_key q u → ⊥
      kind_not_error u e = let s : NameError ≡ Kind u = ap (λ (k : Key). k.slot) e in absurd (cc)

      as_it_is : as_set h.link ≡ h.link → hit_of (Some (key_for q t h.link, record { link = as_set h.link; ttl = h.ttl; since = h.since })) ≡ Some h
      as_it_is e = λ i. Some (record { link = e i; ttl = h.ttl; since = h.since })

      rest : Option Hit → Option Hit → Option (Key × Hit)
      rest s c = or_else (under (kind_key q t) (set_from s)) (cond (nat_eq t cname_type) None (under (kind_key q cname_type) (alias_from c)))

      of_kind : (l : Link) → h.link ≡ l → key_for q t l ≡ kind_key q t → as_set l ≡ l → hit_of (answer q t now es) ≡ Some h
      of_kind l e is set =
          let key : key_for q t h.link ≡ kind_key q t = ap (key_for q t) e ∙ is in
          ap (λ o. hit_of (or_else (under (error_key q) (set_from o)) (rest (live_at now (kind_key q t) es) (live_at now (kind_key q cname_type) es))))
          (none (error_key q) (kind_key q t) key refl (kind_not_error t))
          ∙ (ap (λ o. hit_of (rest o (live_at now (kind_key q cname_type) es))) (at (kind_key q t) key)
          ∙ as_it_is (ap as_set e ∙ (set ∙ sym e)))

      by : (l : Link) → h.link ≡ l → hit_of (answer q t now es) ≡ Some h
      by (Found rs) e = of_kind (Found rs) e refl refl
      by (NoData soa) e = of_kind (NoData soa) e refl refl
      by (NxDomain soa) e =
          let key : key_for q t h.link ≡ error_key q = ap (key_for q t) e in
          ap (λ o. hit_of (or_else (under (error_key q) (set_from o)) (rest (live_at now (kind_key q t) es) (live_at now (kind_key q cname_type) es)))) (at (error_key q) key)
          ∙ as_it_is (ap as_set e ∙ sym e)
      by (Alias r) e =
          let key : key_for q t h.link ≡ kind_key q cname_type = ap (key_for q t) e in
          let other : t ≢ cname_type = plain r e in
          ap (λ o. hit_of (or_else (under (error_key q) (set_from o)) (rest (live_at now (kind_key q t) es) (live_at now (kind_key q cname_type) es))))
          (none (error_key q) (kind_key q cname_type) key refl (kind_not_error cname_type))
          ∙ (ap (λ o. hit_of (rest o (live_at now (kind_key q cname_type) es)))
          (none (kind_key q t) (kind_key q cname_type) key refl (λ same. other (slots_are (ap (λ (k : Key). k.slot) same))))
          ∙ (ap (λ b. hit_of (cond b None (under (kind_key q cname_type) (alias_from (live_at now (kind_key q cname_type) es))))) (ne_eqb t cname_type other)
          ∙ (ap (λ o. hit_of (under (kind_key q cname_type) (alias_from o))) (at (kind_key q cname_type) key)
          ∙ (ap (λ o. hit_of (under (kind_key q cname_type) (with_link h o))) (ap as_alias e)
          ∙ (λ i. Some (record { link = sym e i; ttl = h.ttl; since = h.since }))))))
        where
          slots_are : {a b : ℕ} → Kind a ≡ Kind b → a ≡ b
          slots_are e = cc

  pub lone_is_lent : (above : List (List (List ℕ))) (h : Hit) → lookup (same_key (key_for q t h.link)) es ≡ Some h → is_live now h ≡ true
      → ((k : Key) → k.name ≡ q → k ≢ key_for q t h.link → IsDead k) → ((r : Record) → h.link ≡ Alias r → t ≢ cname_type)
      → hit_of (lent (record { name = q; kind = t; above = above }) now es) ≡ Some h
  lone_is_lent above h there lives alone plain = first_hit (answer q t now es) (error_above above now es) h (lone_is_answer h there lives alone plain)
