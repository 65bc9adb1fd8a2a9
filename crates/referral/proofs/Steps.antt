-- What the steps of a store of cuts leave, and which cut is found.
use Rattle.std.proofs.Common.{◌≡◌, ◌≢◌, ℕ, suc, ◌≤◌, Bool, true, false, cond, ◌⊎◌, inl, inr, List, [], ◌∷◌, ◌++◌, length, Contains, Option, Some, None, refl, sym, ap, ◌∙◌, subst, arith, length-append}
use Rattle.std.specs.Map.{lookup}
use Rattle.lru.specs.LruCache.{LruCache, lru_cache, promoted}
use Rattle.lru.proofs.CallerLemmas.{Contains-lookup}
use Rattle.dname.specs.Labels.{same_name, root, parent_of, IsName, IsAtOrUnder}
use Rattle.lru_laws.specs.Orders.{KeepsOnly, LosesOnly, HasSame}
use Rattle.lru_laws.proofs.Kept.{promoted_is_used}
use Rattle.lru_laws.proofs.Stored as stores
use Rattle.referral.specs.Cuts.{Cut, Known, is_live, live_from, live_at, under, or_else, nearest, cut_of, moved, after_keep, Lives, IsDeepest, IsBest, IsKept, IsGone}
use Rattle.referral.proofs.Exact.{same_name_exact}

abbrev Entries : Type 0
Entries = List (List (List ℕ) × Known)

abbrev no_entries : Entries
no_entries = []

-- ---- which cut is found

looked_there : (n : List (List ℕ)) (es : Entries) (k : Known) → lookup (same_name n) es ≡ Some k → Contains es (n, k)
looked_there n es k e =
    let found = Contains-lookup (same_name n) es k e in
    subst (λ m. Contains es (m, k)) (sym (same_name_exact.equal n found.0 found.2)) found.1

lives_from : (now : ℕ) (n : List (List ℕ)) (es : Entries) (k : Known) → live_at now n es ≡ Some k → Lives now es n k
lives_from now n es k h = by (lookup (same_name n) es) refl h
  where
    at : (j : Known) → lookup (same_name n) es ≡ Some j → (b : Bool) → is_live now j ≡ b → cond b (Some j) None ≡ Some k → Lives now es n k
    at j e true l s = let same : j ≡ k = cc in (e ∙ ap Some same, ap (is_live now) (sym same) ∙ l)
    at j e false l s = cc

    by : (o : Option Known) → lookup (same_name n) es ≡ o → live_from now o ≡ Some k → Lives now es n k
    by None e s = cc
    by (Some j) e s = at j e (is_live now j) refl s

lives_to : (now : ℕ) (n : List (List ℕ)) (es : Entries) (k : Known) → Lives now es n k → live_at now n es ≡ Some k
lives_to now n es k h = ap (live_from now) h.0 ∙ ap (λ b. cond b (Some k) None) h.1

up_or_here : (l : List ℕ) (ls m : List (List ℕ)) → IsAtOrUnder (l ∷ ls) m → (m ≡ l ∷ ls) ⊎ IsAtOrUnder ls m
up_or_here l ls m h = by h.0 h.1
  where
    by : (front : List (List ℕ)) → l ∷ ls ≡ front ++ m → (m ≡ l ∷ ls) ⊎ IsAtOrUnder ls m
    by [] e = inl (sym e)
    by (x ∷ front) e = let tail : ls ≡ front ++ m = cc in inr (front, tail)

up_of_nil : (m : List (List ℕ)) → IsAtOrUnder [] m → m ≡ []
up_of_nil m h = by h.0 m h.1
  where
    by : (front m : List (List ℕ)) → [] ≡ front ++ m → m ≡ []
    by [] m e = sym e
    by (x ∷ front) m e = cc

over_length : (q m : List (List ℕ)) → IsAtOrUnder q m → length m ≤ length q
over_length q m h = let e = ap length h.1 in omega (arith, length-append h.0 m)

under_more : (l : List ℕ) (ls n : List (List ℕ)) → IsAtOrUnder ls n → IsAtOrUnder (l ∷ ls) n
under_more l ls n h = (l ∷ h.0, ap (λ x. l ∷ x) h.1)

IsNearest : List (List ℕ) → ℕ → Entries → Option (List (List ℕ) × Known) → Type 0
IsNearest q now es None = (m : List (List ℕ)) (j : Known) → m ≢ [] → Lives now es m j → IsAtOrUnder q m → ⊥
IsNearest q now es (Some found) = IsDeepest q now es found.0 found.1

nearest_here : (l : List ℕ) (ls : List (List ℕ)) (now : ℕ) (es : Entries) (k : Known) → live_at now (l ∷ ls) es ≡ Some k → IsDeepest (l ∷ ls) now es (l ∷ ls) k
nearest_here l ls now es k h =
    let lives = lives_from now (l ∷ ls) es k h in
    record {
      there = looked_there (l ∷ ls) es k lives.0;
      lives = lives;
      over = ([], refl);
      deepest = λ m j _ over. over_length (l ∷ ls) m over;
    }

some_or_none : {X : Type 0} {x : X} → Some x ≡ None → ⊥
some_or_none e = cc

nearest_above : (l : List ℕ) (ls : List (List ℕ)) (now : ℕ) (es : Entries) (o : Option (List (List ℕ) × Known)) → live_at now (l ∷ ls) es ≡ None
    → IsNearest ls now es o → IsNearest (l ∷ ls) now es o
unfolding IsNearest
nearest_above l ls now es None none h = λ m j some lives over. elim (up_or_here l ls m over) [
  | inl e ↦ some_or_none (sym (lives_to now m es j lives) ∙ (ap (λ n. live_at now n es) e ∙ none))
  | inr up ↦ h m j some lives up
]
nearest_above l ls now es (Some found) none h = record {
  there = h.there;
  lives = h.lives;
  over = under_more l ls found.0 h.over;
  deepest = λ m j lives over. elim (up_or_here l ls m over) [
    | inl e ↦ absurd (some_or_none (sym (lives_to now m es j lives) ∙ (ap (λ n. live_at now n es) e ∙ none)))
    | inr up ↦ h.deepest m j lives up
  ];
}

is_nearest : (q : List (List ℕ)) (now : ℕ) (es : Entries) → IsNearest q now es (nearest q now es)
unfolding IsNearest
is_nearest [] now es = λ m j some lives over. some (up_of_nil m over)
is_nearest (l ∷ ls) now es = step l ls now es (is_nearest ls now es) (live_at now (l ∷ ls) es) refl
  where
    step : (l : List ℕ) (ls : List (List ℕ)) (now : ℕ) (es : Entries) → IsNearest ls now es (nearest ls now es) → (o : Option Known) → live_at now (l ∷ ls) es ≡ o
        → IsNearest (l ∷ ls) now es (or_else (under (l ∷ ls) o) (nearest ls now es))
    step l ls now es above None e = nearest_above l ls now es (nearest ls now es) e above
    step l ls now es above (Some k) e = nearest_here l ls now es k e

-- what is found is the deepest
pub cut_is_best : (q : List (List ℕ)) (now : ℕ) (es : Entries) → IsBest q now es (cut_of (nearest q now es))
unfolding IsNearest
cut_is_best q now es = by (nearest q now es) (is_nearest q now es)
  where
    by : (o : Option (List (List ℕ) × Known)) → IsNearest q now es o → IsBest q now es (cut_of o)
    by None h = h
    by (Some found) h = (found.0, found.1, h, refl)

pub best_some : (q n : List (List ℕ)) (now : ℕ) (es : Entries) (k : Known) → under n (Some k) ≡ nearest q now es → IsBest q now es (Some k.cut)
best_some q n now es k found = subst (λ o. IsBest q now es (cut_of o)) (sym found) (cut_is_best q now es)

pub best_over : (q n : List (List ℕ)) (now : ℕ) (es : Entries) (k : Known) → under n (Some k) ≡ nearest q now es → (c : Cut) → c ≡ record { owner = n; names = (k.cut).names; addresses = (k.cut).addresses } → IsAtOrUnder q c.owner
unfolding IsNearest
best_over q n now es k found c is =
    let deepest : IsDeepest q now es n k = subst (IsNearest q now es) (sym found) (is_nearest q now es) in
    subst (λ (x : Cut). IsAtOrUnder q x.owner) (sym is) deepest.over

pub best_none : (q : List (List ℕ)) (now : ℕ) (es : Entries) → None ≡ nearest q now es → IsBest q now es None
best_none q now es found = subst (λ o. IsBest q now es (cut_of o)) (sym found) (cut_is_best q now es)

-- ---- the walk to the root

pub found_here : (q n : List (List ℕ)) (now : ℕ) (es : Entries) (k : Known) → IsName n → nearest n now es ≡ nearest q now es → Some k ≡ live_at now n es
    → under n (Some k) ≡ nearest q now es
found_here q [] now es k h e s = absurd (h.labels)
found_here q (l ∷ ls) now es k h e s = ap (λ o. or_else (under (l ∷ ls) o) (nearest ls now es)) s ∙ e

pub found_above : (q n p : List (List ℕ)) (now : ℕ) (es : Entries) → parent_of n ≡ Some p → nearest n now es ≡ nearest q now es → None ≡ live_at now n es
    → nearest p now es ≡ nearest q now es
found_above q [] p now es up e none = absurd (some_or_none (sym up))
found_above q (l ∷ []) p now es up e none = absurd (some_or_none (sym up))
found_above q (l ∷ m ∷ ls) p now es up e none =
    let same : m ∷ ls ≡ p = cc in
    ap (λ n. nearest n now es) (sym same) ∙ (ap (λ o. or_else (under (l ∷ m ∷ ls) o) (nearest (m ∷ ls) now es)) none ∙ e)

pub found_none : (q n : List (List ℕ)) (now : ℕ) (es : Entries) → n ≡ root → nearest n now es ≡ nearest q now es → None ≡ live_at now n es → None ≡ nearest q now es
found_none q n now es top e none =
    ap (λ o. or_else (under root o) None) (none ∙ ap (λ x. live_at now x es) top) ∙ (ap (λ x. nearest x now es) (sym top) ∙ e)

pub shorter : (n p : List (List ℕ)) → parent_of n ≡ Some p → length n ≡ suc (length p)
shorter [] p e = absurd (some_or_none (sym e))
shorter (l ∷ []) p e = absurd (some_or_none (sym e))
shorter (l ∷ m ∷ ls) p e = let same : m ∷ ls ≡ p = cc in ap (λ x. suc (length x)) same

-- ---- the entries after a look-up

pub moved_some : (c d : LruCache (List (List ℕ)) Known) (n : List (List ℕ)) (k : Known) (a : Option (List (List ℕ) × Known)) → under n (Some k) ≡ a
    → d ≡ lru_cache (promoted (same_name n) c.entries) c.cap → d ≡ lru_cache (moved a c.entries) c.cap
moved_some c d n k a found is =
    is ∙ (ap (λ es. lru_cache es c.cap) (promoted_is_used same_name same_name_exact n c.entries) ∙ ap (λ x. lru_cache (moved x c.entries) c.cap) found)

pub moved_same : (a : Option (List (List ℕ) × Known)) (es : Entries) → HasSame es (moved a es)
moved_same a es = stores.moved_same same_name same_name_exact a es

pub moved_members : (c d : LruCache (List (List ℕ)) Known) (a : Option (List (List ℕ) × Known)) → d ≡ lru_cache (moved a c.entries) c.cap → HasSame c.entries d.entries
moved_members c d a e = stores.moved_members same_name same_name_exact c d a e

-- ---- cuts that are kept

module _ (cap : ℕ) (k : Known) (es : Entries) where
  pub after_only : KeepsOnly es (IsKept k) (after_keep cap k es)
  after_only = stores.stored_only same_name cap (k.cut).owner k k.ttl es

  pub after_gone : LosesOnly es (IsGone cap k es) (after_keep cap k es)
  after_gone = stores.stored_gone same_name same_name_exact cap (k.cut).owner k k.ttl es

  pub after_there : k.ttl ≢ 0 → Contains (after_keep cap k es) ((k.cut).owner, k)
  after_there = stores.stored_there same_name cap (k.cut).owner k k.ttl es

module _ (c d : LruCache (List (List ℕ)) Known) (k : Known) (is : d ≡ lru_cache (after_keep c.cap k c.entries) c.cap) where
  pub keep_there : k.ttl ≢ 0 → Contains d.entries ((k.cut).owner, k)
  keep_there some = subst (λ x. Contains x.entries ((k.cut).owner, k)) (sym is) (after_there c.cap k c.entries some)

  pub keep_only : KeepsOnly c.entries (IsKept k) d.entries
  keep_only = subst (λ x. KeepsOnly c.entries (IsKept k) x.entries) (sym is) (after_only c.cap k c.entries)

  pub keep_gone : LosesOnly c.entries (IsGone c.cap k c.entries) d.entries
  keep_gone = subst (λ x. LosesOnly c.entries (IsGone c.cap k c.entries) x.entries) (sym is) (after_gone c.cap k c.entries)
