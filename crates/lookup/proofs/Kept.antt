-- What is found: from what is kept, and from the zones at hand.
use Rattle.std.proofs.Common.{◌≡◌, ◌≢◌, ℕ, Bool, true, false, not, inl, inr, Option, Some, None, Result, Ok, Err, List, refl, sym, ap, subst, ◌∙◌}
use Rattle.std.specs.Prelude.{IsTrue, IfOk}
use Rattle.std.proofs.lemmas.Bool.{both_ways, not-true}
use Rattle.dname.specs.Labels.{Name, root, same_name, IsAtOrUnder, IsName}
use Rattle.dname.specs.Laws.{same_name-exact, same_name-equal}
use Rattle.rdata.specs.Records.{Record}
use Rattle.zone.specs.Zones.{Zone, IsBeneath}
use Rattle.zone.specs.Look as local
use Rattle.authority.specs.Catalogs.{IsLooked, looked}
use Rattle.referral.specs.Cuts.{Cut}
use Rattle.cache.specs.Cached.{Hit, Question, asked_to, lent, hit_of, IsHeld}
use Rattle.resolution.specs.Jobs.{Home, Stores, Taken, kept_link, IsCutOf}
use Rattle.resolution.proofs.Looked.{miss_stays}
use Rattle.resolution.specs.Rules.{Says, IsRemote, asked_by, asked_of, Begins}
use Rattle.lookup.specs.Views.{after_look}
use Rattle.lookup.specs.Found.{IsFound, IsHit, IsKept, IsDeeper, IsBegun, IsStart, IsBeyond}
use Rattle.lookup.specs.declared.lookup.Found.{Found}
use Rattle.lookup.specs.declared.lookup.Found.TheVariants as found
use Rattle.lookup.specs.declared.lookup.Kept.{Kept}
use Rattle.lookup.specs.declared.lookup.Kept.TheVariants as kept

-- ---- a name beneath another

unlike : (a b : Name) (same : Bool) → same_name a b ≡ same → a ≢ b → not same ≡ true
unlike a b true e h = absurd (h (same_name-exact a b e))
unlike a b false e h = refl

pub beneath_is : (a b : Name) (differ : Bool) → IsAtOrUnder a b → differ ≡ not (same_name a b) → (IsTrue differ → IsBeneath a b) × (IsBeneath a b → IsTrue differ)
beneath_is a b differ under is = (
  λ t. (under, λ e. both_ways (same_name a b) (not-true (same_name a b) (sym is ∙ t)) (same_name-equal a b e)),
  λ beneath. is ∙ unlike a b (same_name a b) refl beneath.1,
)

-- ---- where servers are sought

some_none : (c : Cut) → Some c ≡ None → ⊥
some_none c e = cc

pub begins_deeper : (home : Home) (n at : Name) (ns glue : List Record) (best : Option Cut) (c : Cut) → IsDeeper at best (Some c) → Begins home n (local.Cut at ns glue) best c
begins_deeper home n at ns glue None c none = absurd (some_none c none)
begins_deeper home n at ns glue (Some k) c h = inl h

pub begins_here : (home : Home) (n at : Name) (ns glue : List Record) (best : Option Cut) (c : Cut) → IsDeeper at best None → IsCutOf at ns glue c → Begins home n (local.Cut at ns glue) best c
begins_here home n at ns glue None c h cut = cut
begins_here home n at ns glue (Some k) c h cut = inr (h, cut)

pub begun_under : {A : Type 0} (home : Home) (n at : Name) (servers glue ns gs : List Record) (best : Option Cut) (k : Kept A) (c : Cut) → k ≡ kept.Best best → ns ≡ servers → gs ≡ glue
    → Begins home n (local.Cut at ns gs) best c → IsBegun home n (local.Cut at servers glue) k (found.Start c)
begun_under home n at servers glue ns gs best k c is same_ns same_glue begins =
    subst (λ k. IsBegun home n (local.Cut at servers glue) k (found.Start c)) (sym is)
    (subst (λ (rs : List Record). Begins home n (local.Cut at rs glue) best c) same_ns (subst (λ (rs : List Record). Begins home n (local.Cut at ns rs) best c) same_glue begins))

-- ---- what is found

pub says_is : (home : Home) (zones : List Zone) (n : Name) (t : ℕ) (said what : local.Local) → zones ≡ home.zones → said ≡ looked zones n t → IsLooked zones n t said → said ≡ what → Says home n t what
says_is home zones n t said what same value relation is = subst (λ (zs : List Zone). (looked zs n t ≡ what) × IsLooked zs n t what) same (sym value ∙ is, subst (IsLooked zones n t) is relation)

-- What the cache was asked is what the question may be answered with.
pub asked_at_cut : (home : Home) (n : Name) (t : ℕ) (at : Name) (ns glue : List Record) → Says home n t (local.Cut at ns glue) → asked_to at n t ≡ asked_of home n t
asked_at_cut home n t at ns glue says = ap (λ (what : local.Local). asked_by what n t) (sym says.0)

pub asked_nowhere : (home : Home) (n : Name) (t : ℕ) (top : Name) → top ≡ root → Says home n t local.NotHere → asked_to top n t ≡ asked_of home n t
asked_nowhere home n t top is says = ap (λ (m : Name). asked_to m n t) is ∙ ap (λ (what : local.Local). asked_by what n t) (sym says.0)

-- The question is remote, what is kept of it is this, and this is begun with it.
pub found_is : {A : Type 0} (home : Home) (now : ℕ) (n : Name) (t : ℕ) (old : Stores) (top : Name) (what : local.Local) (k : Kept A) (f : Found A) (new : Stores)
    → asked_to top n t ≡ asked_of home n t → Says home n t what → IsRemote home n t → IsKept top now n t old k new → IsBegun home n what k f → IsFound home now n t old f new
found_is home now n t old top what (kept.Hit l) (found.Known m) new asked says remote h same = record {
  is = inr (
    h.hit,
    record {
      remote = remote;
      found = subst (λ (a : Question). hit_of (lent a now old.cache) ≡ Some h.hit) asked h.found;
      held = subst (λ (a : Question). IsHeld a now old.cache h.hit) asked h.held;
      link = same ∙ h.link;
      stores = subst (λ (a : Question). new ≡ after_look old a now) asked h.stores;
    },
  );
}
found_is home now n t old top what (kept.Hit l) (found.Start c) new asked says remote h begun = absurd begun
found_is home now n t old top what (kept.Best best) (found.Known m) new asked says remote h begun = absurd begun
found_is home now n t old top what (kept.Best best) (found.Start c) new asked says remote h begins = record {
  name = h.name;
  what = what;
  says = says;
  miss = subst (λ (a : Question). hit_of (lent a now old.cache) ≡ None) asked h.miss;
  best = best;
  is_best = h.is_best;
  begins = begins;
  stores = h.stores;
}

-- Where no local zone is over the name.
pub beyond_is : {A : Type 0} (home : Home) (now : ℕ) (n : Name) (t : ℕ) (old : Stores) (f : Found A) (new : Stores) → Says home n t local.NotHere → IsRemote home n t → IsBeyond home now n t old f new → IsFound home now n t old f new
beyond_is home now n t old f new says remote h = found_is home now n t old root local.NotHere h.known f new (asked_nowhere home n t root refl says) says remote h.is_known h.begun

-- A link of the cache is the result, where no local zone is over the name.
pub hit_beyond : {A : Type 0} (home : Home) (now : ℕ) (n : Name) (t : ℕ) (old : Stores) (top : Name) (given : Option Hit) (hit : Hit) (l : Taken) (new : Stores) → top ≡ root → given ≡ Some hit
    → given ≡ hit_of (lent (asked_to top n t) now old.cache) → IsHeld (asked_to top n t) now old.cache hit → l ≡ kept_link n hit → new ≡ after_look old (asked_to top n t) now → IsBeyond {A = A} home now n t old (found.Known l) new
hit_beyond home now n t old top given hit l new nowhere is value held link stores = record {
  known = kept.Hit l;
  is_known = subst (λ (m : Name). IsHit m now n t old l new) nowhere (record {
    hit = hit;
    found = sym value ∙ is;
    held = held;
    link = link;
    stores = stores;
  });
  begun = refl;
}

-- Where the cache has none, the result is where the search starts.
pub start_beyond_is : {A E : Type 0} (home : Home) (now : ℕ) (n : Name) (t : ℕ) (old mid : Stores) (top : Name) (given : Option Hit) (r : Result (Found A) E) (new : Stores) → IsName n → top ≡ root → given ≡ None
    → given ≡ hit_of (lent (asked_to top n t) now old.cache) → mid ≡ after_look old (asked_to top n t) now → IfOk r (IsStart home now n mid new) → IfOk r (λ f. IsBeyond home now n t old f new)
start_beyond_is home now n t old mid top given (Err e) new named nowhere is value stores h = h
start_beyond_is home now n t old mid top given (Ok f) new named nowhere is value stores h =
    let miss : hit_of (lent (asked_to top n t) now old.cache) ≡ None = sym value ∙ is in
    let stays : mid ≡ old = stores ∙ miss_stays (asked_to top n t) now old miss in
    let start : IsStart home now n old new f = subst (λ (s : Stores). IsStart home now n s new f) stays h in
    record {
      known = kept.Best start.best;
      is_known = record {
        name = named;
        miss = subst (λ (m : Name). hit_of (lent (asked_to m n t) now old.cache) ≡ None) nowhere miss;
        is_best = start.is_best;
        stores = start.stores;
      };
      begun = start.begun;
    }
