-- A link that is no alias, found and used at once.
use Rattle.std.proofs.Common.{◌≡◌, ℕ, inl, inr, Result, Ok, Err, Option, Some, None, List, refl, sym, ap, subst, ◌∙◌}
use Rattle.std.specs.Prelude.{MatchOption, IfOk}
use Rattle.lru.specs.LruCache.{LruCache}
use Rattle.dname.specs.Labels.{Name, root}
use Rattle.rdata.specs.Records.{Record}
use Rattle.zone.specs.Links.{Link, Found, Alias, NoData, NxDomain}
use Rattle.zone.specs.Look as local
use Rattle.cache.specs.Keys.{Key}
use Rattle.cache.specs.Cached.{Hit, Question, asked_to, lent, hit_of, moved, IsHeld}
use Rattle.cache.specs.Cached as cache
use Rattle.resolution.specs.Jobs.{Home, Stores, Taken, local_link, kept_link, IsEnding}
use Rattle.resolution.specs.Rules.{Says, IsRemote, asked_of}
use Rattle.lookup.specs.Views.{after_look}
use Rattle.lookup.specs.Ends.{IsUsed, IsFoundEnd, IfGiven}
use Rattle.lookup.specs.Found.{IsHit}

pub is_ending : (k : Link) → ((r : Record) → k ≡ Alias r → ⊥) → IsEnding k
is_ending (Found set) none = tt
is_ending (Alias r) none = none r refl
is_ending (NoData soa) none = tt
is_ending (NxDomain soa) none = tt

-- ---- the stores, whose cache used an entry or none

module _ (now : ℕ) (n : Name) (t : ℕ) (old was : Stores) (before after : LruCache Key Hit) (view : was ≡ old) (entries : was.cache ≡ before.entries) (cap : was.cache_cap ≡ before.cap) where
  abbrev pub with_cache : LruCache Key Hit → Stores
  with_cache d = record was { cache = d.entries; cache_cap = d.cap }

  unused : after ≡ before → with_cache after ≡ old
  unused same = ap with_cache same ∙ (λ i. record was { cache = (sym entries) i; cache_cap = (sym cap) i }) ∙ view

  uses_it : (h : Hit) (top : Name) → cache.IsUsed (asked_to top n t) now before h after → IsUsed top now n t old h (with_cache after)
  uses_it h top used =
      let kept : before.entries ≡ old.cache = sym entries ∙ ap (λ (s : Stores). s.cache) view in
      record {
        found = subst (λ (es : List (Key × Hit)). hit_of (lent (asked_to top n t) now es) ≡ Some h) kept used.found;
        held = subst (λ (es : List (Key × Hit)). IsHeld (asked_to top n t) now es h) kept used.held;
        ends = used.ends;
        stores = ap with_cache used.moves
            ∙ (λ i. record was { cache = moved (lent (asked_to top n t) now ((sym entries) i)) ((sym entries) i); cache_cap = (sym cap) i })
            ∙ ap (λ (s : Stores). after_look s (asked_to top n t) now) view;
      }

  pub uses_end : (o : Option Hit) → MatchOption o (after ≡ before) (λ h. (top : List (List ℕ)) → cache.IsUsed (asked_to top n t) now before h after)
      → MatchOption o (with_cache after ≡ old) (λ h. (top : Name) → IsUsed top now n t old h (with_cache after))
  uses_end None same = unused same
  uses_end (Some h) used = λ top. uses_it h top (used top)

-- ---- the link that is found

hit_is : (top : Name) (now : ℕ) (n : Name) (t : ℕ) (old : Stores) (h : Hit) (l : Taken) (new : Stores) → IsUsed top now n t old h new → l ≡ kept_link n h → IsHit top now n t old l new
hit_is top now n t old h l new used link = record { hit = h; found = used.found; held = used.held; link = link; stores = used.stores }

hit_ends : (n : Name) (h : Hit) (l : Taken) → ((r : Record) → h.link ≡ Alias r → ⊥) → l ≡ kept_link n h → IsEnding l.link
hit_ends n h l none link = subst (λ (k : Taken). IsEnding k.link) (sym link) (is_ending h.link none)

-- The cache has it, where the local zones leave the question open.
pub end_is : (home : Home) (now : ℕ) (n : Name) (t : ℕ) (old : Stores) (top : Name) (l : Taken) (new : Stores)
    → asked_to top n t ≡ asked_of home n t → IsRemote home n t → IsHit top now n t old l new → IsEnding l.link → IsFoundEnd home now n t old l new
end_is home now n t old top l new asked remote h ends =
    let found = subst (λ (a : Question). hit_of (lent a now old.cache) ≡ Some h.hit) asked h.found in
    record {
      finds = record {
        is = inr (
          h.hit,
          record {
            remote = remote;
            found = found;
            held = subst (λ (a : Question). IsHeld a now old.cache h.hit) asked h.held;
            link = h.link;
            stores = subst (λ (a : Question). new ≡ after_look old a now) asked h.stores;
          },
        );
      };
      ends = ends;
      held = inr (remote, (h.hit, found, h.link));
    }

-- A local zone has it.
pub local_end_is : (home : Home) (now : ℕ) (n : Name) (t : ℕ) (old : Stores) (l : Taken) (k : Link) → Says home n t (local.Linked k) → l ≡ local_link n k → IsEnding l.link → IsFoundEnd home now n t old l old
local_end_is home now n t old l k says is ends = record { finds = record { is = inl (k, says, is, refl) }; ends = ends; held = inl (k, says, is) }

-- So it is with what the cache gave, if it gave something.
pub ends_in : {E : Type 0} (home : Home) (now : ℕ) (n : Name) (t : ℕ) (old : Stores) (top : Name) (new : Stores) → asked_to top n t ≡ asked_of home n t → IsRemote home n t
    → (o : Option (Result Taken E)) → MatchOption o (new ≡ old) (IfGiven (λ l. ((other : Name) → IsHit other now n t old l new) × IsEnding l.link))
    → MatchOption o (new ≡ old) (IfGiven (λ l. IsFoundEnd home now n t old l new))
ends_in home now n t old top new asked remote None same = same
ends_in home now n t old top new asked remote (Some (Ok l)) h = end_is home now n t old top l new asked remote (h.0 top) h.1
ends_in home now n t old top new asked remote (Some (Err e)) (l, h) = (l, end_is home now n t old top l new asked remote (h.0 top) h.1)

-- The link of a hit that was used is given, or could not be.
pub hit_given : {E : Type 0} (now : ℕ) (n : Name) (t : ℕ) (old : Stores) (h : Hit) (new : Stores) → ((top : Name) → IsUsed top now n t old h new) → (r : Result Taken E) → IfOk r (λ l. l ≡ kept_link n h)
    → IfGiven (λ l. ((top : Name) → IsHit top now n t old l new) × IsEnding l.link) r
hit_given now n t old h new used (Ok l) link = (λ top. hit_is top now n t old h l new (used top) link, hit_ends n h l (used root).ends link)
hit_given now n t old h new used (Err e) link =
    (kept_link n h, (λ top. hit_is top now n t old h (kept_link n h) new (used top) refl, hit_ends n h (kept_link n h) (used root).ends refl))
