-- What the rules choose is one thing: cuts, addresses, the links that are found, and the servers that are passed over.
use Rattle.std.proofs.Common.{◌≡◌, ◌≢◌, ℕ, zero, suc, ◌+◌, ◌<◌, ◌⊎◌, inl, inr, true, false, Option, Some, None, List, [], ◌∷◌, ◌++◌, map, length, refl, sym, ap, ap₂, ◌∙◌, subst, arith, eq-or-lt_of_le, le_of_suc-le-suc, le_antisymm}
use Rattle.std.specs.Map.{lookup}
use Rattle.dname.specs.Labels.{Name, same_name}
use Rattle.rdata.specs.Records.{Record}
use Rattle.rdata.specs.declared.addr.Addr.{Addr}
use Rattle.zone.specs.Links as said
use Rattle.zone.specs.Links.{Link}
use Rattle.zone.specs.Look as local
use Rattle.zone.proofs.LawLists.{same_over}
use Rattle.authority.specs.Catalogs.{looked}
use Rattle.lru_laws.specs.Orders.{used}
use Rattle.retry.specs.Plans.{upcoming}
use Rattle.referral.specs.Cuts.{ServerAddress, Cut, Known, IsDeepest, IsBest, after_best}
use Rattle.cache.specs.Cached.{Hit, Question, lent, hit_of, moved}
use Rattle.cache.specs.Failures.{FailedAsk, same_failed}
use Rattle.frames.specs.Frames.{Failed, marked, after_add, fresh_addresses}
use Rattle.resolution.specs.Jobs.{Home, Stores, level_of, Taken, local_link, kept_link, is_dead, AreFresh, IsDead, row_of, bytes_of, IsCutOf, AreAddressesOf, Search, with_frame, given, ask_of, fails_now}
use Rattle.resolution.specs.Rules.{Says, IsRemote, asked_of, Hits, Finds, Begins, Misses, UsesServerAddress, PassesOver, IsFree}
use Rattle.laws.specs.Determined.{AreNamed}
use Rattle.laws.specs.Looks.{hits_by}

pub some_one : {X : Type 0} (x y : X) → Some x ≡ Some y → x ≡ y
some_one x y e = cc

-- Of two numbers one is the lesser, or they are one.
pub are_ordered : (m n : ℕ) → (m ≡ n) ⊎ ((m < n) ⊎ (n < m))
are_ordered zero zero = inl refl
are_ordered zero (suc n) = inr (inl (omega arith))
are_ordered (suc m) zero = inr (inr (omega arith))
are_ordered (suc m) (suc n) = elim (are_ordered m n) [
  | inl e ↦ inl (ap suc e)
  | inr d ↦ elim d [ inl lt ↦ inr (inl (omega (arith, lt))) | inr lt ↦ inr (inr (omega (arith, lt))) ]
]

-- ---- cuts

row_one : (s t : ServerAddress) → row_of s ≡ row_of t → s ≡ t
row_one s t e = λ i. record { name = (e i).0; address = record { 0 = (e i).1 } }

rows_one : (xs ys : List ServerAddress) → map row_of xs ≡ map row_of ys → xs ≡ ys
rows_one [] [] e = refl
rows_one [] (y ∷ ys) e = absurd (cc)
rows_one (x ∷ xs) [] e = absurd (cc)
rows_one (x ∷ xs) (y ∷ ys) e =
    let first : row_of x ≡ row_of y = cc in
    let more : map row_of xs ≡ map row_of ys = cc in
    ap₂ (λ (s : ServerAddress) (ss : List ServerAddress). s ∷ ss) (row_one x y first) (rows_one xs ys more)

pub cut_one : (at : Name) (ns glue : List Record) (c d : Cut) → IsCutOf at ns glue c → IsCutOf at ns glue d → c ≡ d
cut_one at ns glue c d a b =
    let addresses = rows_one c.addresses d.addresses (a.addresses ∙ sym b.addresses) in
    λ i. record { owner = (a.owner ∙ sym b.owner) i; names = (a.names ∙ sym b.names) i; addresses = addresses i }

-- The deepest live cut over a name is one.
module _ (n : Name) (now : ℕ) (es : List (Name × Known)) where
  deepest_one : (m o : Name) (k j : Known) → IsDeepest n now es m k → IsDeepest n now es o j → k ≡ j
  deepest_one m o k j a b =
      let long : length m ≡ length o = le_antisymm (b.deepest m k a.lives a.over) (a.deepest o j b.lives b.over) in
      let same : m ≡ o = same_over n m o a.over b.over long in
      some_one k j (sym (a.lives).0 ∙ (ap (λ (x : Name). lookup (same_name x) es) same ∙ (b.lives).0))

  best_one : AreNamed es → (a b : Option Cut) → IsBest n now es a → IsBest n now es b → a ≡ b
  best_one named None None x y = refl
  best_one named None (Some d) x (m, k, deepest, is) = absurd (x m k (named m k deepest.there) deepest.lives deepest.over)
  best_one named (Some c) None (m, k, deepest, is) y = absurd (y m k (named m k deepest.there) deepest.lives deepest.over)
  best_one named (Some c) (Some d) (m, k, deepest, is) (o, j, other, so) = ap Some (sym is ∙ (ap (λ (x : Known). x.cut) (deepest_one m o k j deepest other) ∙ so))

begins_one : (home : Home) (n : Name) (what : local.Local) (best : Option Cut) (c d : Cut) → Begins home n what best c → Begins home n what best d → c ≡ d
begins_one home n (local.Linked l) best c d a b = absurd a
begins_one home n (local.Cut at ns glue) None c d a b = cut_one at ns glue c d a b
begins_one home n (local.Cut at ns glue) (Some k) c d (inl (deep, a)) (inl (deeper, b)) = a ∙ sym b
begins_one home n (local.Cut at ns glue) (Some k) c d (inl (deep, a)) (inr (shallow, b)) = absurd (shallow deep)
begins_one home n (local.Cut at ns glue) (Some k) c d (inr (shallow, a)) (inl (deep, b)) = absurd (shallow deep)
begins_one home n (local.Cut at ns glue) (Some k) c d (inr (shallow, a)) (inr (other, b)) = cut_one at ns glue c d a b
begins_one home n local.NotHere None c d a b = a ∙ sym b
begins_one home n local.NotHere (Some k) c d a b = a ∙ sym b

-- ---- addresses of servers' names

addresses_one : (xs ys : List Addr) → map bytes_of xs ≡ map bytes_of ys → xs ≡ ys
addresses_one [] [] e = refl
addresses_one [] (y ∷ ys) e = absurd (cc)
addresses_one (x ∷ xs) [] e = absurd (cc)
addresses_one (x ∷ xs) (y ∷ ys) e =
    let first : bytes_of x ≡ bytes_of y = cc in
    let more : map bytes_of xs ≡ map bytes_of ys = cc in
    let same : x ≡ y = λ i. record { 0 = first i } in
    ap₂ (λ (a : Addr) (as_is : List Addr). a ∷ as_is) same (addresses_one xs ys more)

pub uses_one : (stores : Stores) (n : Name) (l : Link) (before : Search) (failed : Failed) (s t : Search) (fs gs : Failed)
    → UsesServerAddress stores n l before failed s fs → UsesServerAddress stores n l before failed t gs → (s ≡ t) × (fs ≡ gs)
uses_one stores n l before failed s t fs gs a b = by a.is b.is
  where
    Uses : Search → Failed → Type 0
    Uses after marks =
        ((set : List Record) × (found : List Addr) × (l ≡ said.Found set) × AreAddressesOf set found
        × (after ≡ with_frame before (after_add (level_of stores) before.frame (fresh_addresses before.frame found))) × (marks ≡ failed))
        ⊎ (((set : List Record) → l ≢ said.Found set) × (after ≡ before) × (marks ≡ marked failed n 0))

    by : Uses s fs → Uses t gs → (s ≡ t) × (fs ≡ gs)
    by (inl (set, found, is, are, after, marks)) (inl (other, others, so, these, also, marked_so)) =
        let one : set ≡ other = let e : said.Found set ≡ said.Found other = sym is ∙ so in cc in
        let same : found ≡ others = addresses_one found others (are ∙ sym (subst (λ (x : List Record). AreAddressesOf x others) (sym one) these)) in
        (after ∙ (ap (λ (x : List Addr). with_frame before (after_add (level_of stores) before.frame (fresh_addresses before.frame x))) same ∙ sym also), marks ∙ sym marked_so)
    by (inl (set, found, is, are, after, marks)) (inr (none, also, marked_so)) = absurd (none set is)
    by (inr (none, after, marks)) (inl (set, found, is, are, also, marked_so)) = absurd (none set is)
    by (inr (none, after, marks)) (inr (other, also, marked_so)) = (after ∙ sym also, marks ∙ sym marked_so)

-- ---- links that are found

-- What is there for a name without a query to a server: a link of the local zones, one of the cache, or nothing.
pub data Sight : Type 0 where
  Here : Link → Sight
  Kept : Hit → Sight
  Missing : Sight

abbrev kept_or_missing : Option Hit → Sight
kept_or_missing None = Missing
kept_or_missing (Some h) = Kept h

abbrev sight_by : local.Local → Option Hit → Sight
sight_by (local.Linked k) o = Here k
sight_by (local.Cut at ns glue) o = kept_or_missing o
sight_by local.NotHere o = kept_or_missing o

module _ (home : Home) (now : ℕ) (n : Name) (t : ℕ) (old : Stores) where
  abbrev pub sight : Sight
  sight = sight_by (looked home.zones n t) (hit_of (lent (asked_of home n t) now old.cache))

  abbrev pub IsSeen : Sight → Taken → Stores → List Question → Type 0
  IsSeen (Here k) l new hits = (l ≡ local_link n k) × (new ≡ old) × (hits ≡ [])
  IsSeen (Kept h) l new hits = (l ≡ kept_link n h) × (new ≡ record old { cache = moved (lent (asked_of home n t) now old.cache) old.cache }) × (hits ≡ asked_of home n t ∷ [])
  IsSeen Missing l new hits = ⊥

  remote_sight : (o : Option Hit) → IsRemote home n t → sight_by (looked home.zones n t) o ≡ kept_or_missing o
  remote_sight o (inl (c, ns, glue, says)) = ap (λ (x : local.Local). sight_by x o) says.0
  remote_sight o (inr says) = ap (λ (x : local.Local). sight_by x o) says.0

  pub found_seen : (l : Taken) (new : Stores) → (f : Finds home now n t old l new) → IsSeen sight l new (hits_by home n t f.is)
  found_seen l new f = by f.is
    where
      by : (is : ((k : Link) × Says home n t (local.Linked k) × (l ≡ local_link n k) × (new ≡ old)) ⊎ ((hit : Hit) × Hits home now n t old l hit new)) → IsSeen sight l new (hits_by home n t is)
      by (inl (k, says, is, same)) =
          subst (λ (x : Sight). IsSeen x l new []) (sym (ap (λ (x : local.Local). sight_by x (hit_of (lent (asked_of home n t) now old.cache))) says.0)) (is, same, refl)
      by (inr (hit, h)) =
          subst (λ (x : Sight). IsSeen x l new (asked_of home n t ∷ [])) (sym (remote_sight (hit_of (lent (asked_of home n t) now old.cache)) h.remote ∙ ap kept_or_missing h.found))
          (h.link, h.stores, refl)

  pub seen_one : (x : Sight) (l m : Taken) (new other : Stores) (hits others : List Question) → IsSeen x l new hits → IsSeen x m other others → (l ≡ m) × (new ≡ other) × (hits ≡ others)
  seen_one (Here k) l m new other hits others a b = (a.0 ∙ sym b.0, a.1 ∙ sym b.1, a.2 ∙ sym b.2)
  seen_one (Kept h) l m new other hits others a b = (a.0 ∙ sym b.0, a.1 ∙ sym b.1, a.2 ∙ sym b.2)
  seen_one Missing l m new other hits others a b = absurd a

  abbrev pub IsMissed : Sight → Cut → Stores → Type 0
  IsMissed (Here k) c new = ⊥
  IsMissed (Kept h) c new = ⊥
  IsMissed Missing c new =
      ((best : Option Cut) × IsBest n now old.delegations best × Begins home n (looked home.zones n t) best c) × (new ≡ record old { delegations = after_best n now old.delegations })

  pub missed_so : (c : Cut) (new : Stores) → Misses home now n t old c new → IsMissed sight c new
  missed_so c new m =
      subst (λ (x : Sight). IsMissed x c new) (sym (by m.what (m.says).0 m.begins))
      ((m.best, m.is_best, subst (λ (x : local.Local). Begins home n x m.best c) (sym (m.says).0) m.begins), m.stores)
    where
      by : (what : local.Local) → looked home.zones n t ≡ what → Begins home n what m.best c → sight ≡ Missing
      by (local.Linked l) e b = absurd b
      by (local.Cut at ns glue) e b = ap₂ sight_by e m.miss
      by local.NotHere e b = ap₂ sight_by e m.miss

  pub missed_one : AreNamed old.delegations → (x : Sight) (c d : Cut) (new other : Stores) → IsMissed x c new → IsMissed x d other → (c ≡ d) × (new ≡ other)
  missed_one named (Here k) c d new other a b = absurd a
  missed_one named (Kept h) c d new other a b = absurd a
  missed_one named Missing c d new other ((best, is, begins), e) ((more, so, starts), f) =
      let same : more ≡ best = best_one n now old.delegations named more best so is in
      (begins_one home n (looked home.zones n t) best c d begins (subst (λ (x : Option Cut). Begins home n (looked home.zones n t) x d) same starts), e ∙ sym f)

  pub seen_not_missed : (x : Sight) (l : Taken) (new other : Stores) (hits : List Question) (c : Cut) → IsSeen x l new hits → IsMissed x c other → ⊥
  seen_not_missed (Here k) l new other hits c a b = b
  seen_not_missed (Kept h) l new other hits c a b = b
  seen_not_missed Missing l new other hits c a b = a

-- ---- servers that are passed over

module _ (now : ℕ) (s : Search) (fs : List (FailedAsk × ℕ)) where
  passes_same : (n : ℕ) (t u : Search) (gs hs : List (FailedAsk × ℕ)) → PassesOver now n s fs t gs → PassesOver now n s fs u hs → (t ≡ u) × (gs ≡ hs)
  passes_same zero t u gs hs (a, b) (c, d) = (a ∙ sym c, b ∙ sym d)
  passes_same (suc n) t u gs hs (mid, held, server, before, next, fails, one, is) (other, kept, to, earlier, following, so, same, are) =
      let (e, f) = passes_same n mid other held kept before earlier in
      let g : server ≡ to = some_one server to (sym next ∙ (ap (λ (x : Search). upcoming (x.frame).plan) e ∙ following)) in
      (one ∙ (ap given e ∙ sym same), is ∙ ((λ i. used same_failed (ask_of (e i) (g i)) (f i)) ∙ sym are))

  -- Where more are passed over than so many, the next one fails.
  passes_on : (n m : ℕ) (t : Search) (gs : List (FailedAsk × ℕ)) → n < m → PassesOver now m s fs t gs
      → (mid : Search) × (held : List (FailedAsk × ℕ)) × (server : Addr) × PassesOver now n s fs mid held × (upcoming (mid.frame).plan ≡ Some server) × (fails_now now held mid server ≡ true)
  passes_on n zero t gs lt h = absurd (omega (arith, lt))
  passes_on n (suc m) t gs lt (mid, held, server, before, next, fails, one, is) = by (λ less. passes_on n m mid held less before) (eq-or-lt_of_le (le_of_suc-le-suc lt))
    where
      Stops : Type 0
      Stops = (mid : Search) × (held : List (FailedAsk × ℕ)) × (server : Addr) × PassesOver now n s fs mid held × (upcoming (mid.frame).plan ≡ Some server) × (fails_now now held mid server ≡ true)

      by : (n < m → Stops) → (n ≡ m) ⊎ (n < m) → Stops
      by more (inl e) = (mid, held, server, subst (λ (x : ℕ). PassesOver now x s fs mid held) (sym e) before, next, fails)
      by more (inr less) = more less

  not_further : (n m : ℕ) (t u : Search) (gs hs : List (FailedAsk × ℕ)) → n < m → PassesOver now n s fs t gs → IsFree now t gs → PassesOver now m s fs u hs → ⊥
  not_further n m t u gs hs lt a free b =
      let (mid, held, server, before, next, fails) = passes_on n m u hs lt b in
      let (e, f) = passes_same n t mid gs held a before in
      let none : fails_now now held mid server ≡ false = subst (λ (x : Search). fails_now now held x server ≡ false) e
      (subst (λ (x : List (FailedAsk × ℕ)). fails_now now x t server ≡ false) f (free server (ap (λ (x : Search). upcoming (x.frame).plan) e ∙ next))) in
      let both : true ≡ false = sym fails ∙ none in
      cc

  -- They are passed over up to the first that is free.
  pub passes_one : (n m : ℕ) (t u : Search) (gs hs : List (FailedAsk × ℕ)) → PassesOver now n s fs t gs → IsFree now t gs → PassesOver now m s fs u hs → IsFree now u hs → (t ≡ u) × (gs ≡ hs)
  passes_one n m t u gs hs a free b other = by (are_ordered n m)
    where
      by : (n ≡ m) ⊎ ((n < m) ⊎ (m < n)) → (t ≡ u) × (gs ≡ hs)
      by (inl e) = passes_same n t u gs hs a (subst (λ (x : ℕ). PassesOver now x s fs u hs) (sym e) b)
      by (inr (inl lt)) = absurd (not_further n m t u gs hs lt a free b)
      by (inr (inr lt)) = absurd (not_further m n u t hs gs lt b other a)

-- ---- chains

-- The first link of a chain that has expired is one.
pub first_dead_one : (now : ℕ) (front ahead : List Taken) (d e : Taken) (back behind : List Taken) → front ++ d ∷ back ≡ ahead ++ e ∷ behind → AreFresh now front → AreFresh now ahead → IsDead now d → IsDead now e
    → (front ≡ ahead) × (d ≡ e)
first_dead_one now [] [] d e back behind same a b dead gone = (refl, cc)
first_dead_one now [] (x ∷ xs) d e back behind same a b dead gone = let one : d ≡ x = cc in let both : true ≡ false = sym dead ∙ (ap (is_dead now) one ∙ b.0) in absurd (cc)
first_dead_one now (x ∷ xs) [] d e back behind same a b dead gone = let one : x ≡ e = cc in let both : true ≡ false = sym gone ∙ (ap (is_dead now) (sym one) ∙ a.0) in absurd (cc)
first_dead_one now (x ∷ xs) (y ∷ ys) d e back behind same a b dead gone =
    let one : x ≡ y = cc in
    let more : xs ++ d ∷ back ≡ ys ++ e ∷ behind = cc in
    let rest = first_dead_one now xs ys d e back behind more a.1 b.1 dead gone in
    (ap₂ (λ (l : Taken) (ls : List Taken). l ∷ ls) one rest.0, rest.1)

pub dead_not_fresh : (now : ℕ) (front : List Taken) (d : Taken) (back : List Taken) → AreFresh now (front ++ d ∷ back) → IsDead now d → ⊥
dead_not_fresh now [] d back fresh dead = let both : true ≡ false = sym dead ∙ fresh.0 in cc
dead_not_fresh now (x ∷ front) d back fresh dead = dead_not_fresh now front d back fresh.1 dead
