-- Which links a chain is made of, and since when they are known; that the rules keep it so.
use Rattle.std.proofs.Common.{◌≡◌, ℕ, zero, suc, inl, inr, List, [], ◌∷◌, ◌++◌, refl, sym, ap, ◌∙◌, subst}
use Rattle.dname.specs.Labels.{Name, root}
use Rattle.rdata.specs.Records.{Record}
use Rattle.zone.specs.Zones.{a_type, cname_type}
use Rattle.zone.specs.Links.{Link, Found, Alias, NoData, NxDomain}
use Rattle.zone.specs.Look as local
use Rattle.authority.specs.Catalogs.{IsLooked}
use Rattle.classify.specs.Lifetimes.{received, lifetime_of}
use Rattle.classify.proofs.Uses.{no_alias_class}
use Rattle.referral.specs.Cuts.{Cut}
use Rattle.cache.specs.Keys.{Key, key_for}
use Rattle.cache.specs.Cached.{Hit, Question, as_set, EntryAnswers}
use Rattle.resolution.specs.Jobs.{Home, Stores, Source, Local, Cached, Accepted, Taken, Job, Task, Seek, Take, Go, Again, Point}
use Rattle.resolution.specs.Rules.{Says, IsRemote, asked_of, Finds, Begins, Misses, Rule, takes, asks, follows, restarts, skips, hears, descends, gives_up, Rules}
use Rattle.runs.specs.States.{Turn, via_of}
use Rattle.runs.specs.Runs.{Earlier}
use Rattle.laws.specs.Timely.{AcceptsAnswer}
use Rattle.laws.proofs.TimelyStores.{AreKept, Tells, hit_tells, looked_from}

-- Some step of the run is such, of which something follows.
pub earlier_tells : {P : Type 0} (Q : Turn → List Turn → Type 0) (run : List Turn) → ((turn : Turn) (past : List Turn) → Q turn past → P) → Earlier Q run → P
earlier_tells Q [] f e = absurd e
earlier_tells Q (turn ∷ past) f (inl q) = f turn past q
earlier_tells Q (turn ∷ past) f (inr e) = earlier_tells Q past f e

-- ---- where CNAME is asked for, there is no alias

local_plain : (home : Home) (n : Name) (r : Record) → Says home n cname_type (local.Linked (Alias r)) → ⊥
local_plain home n r says = by says.1
  where
    by : IsLooked home.zones n cname_type (local.Linked (Alias r)) → ⊥
    by (inl (z, charge, is)) = let (s, source, (none, (owner, at))) = is.says in none (record r { owner = s }) at
    by (inr (none, e)) = cc

no_set : (l : Link) (r : Record) → Alias r ≡ as_set l → ⊥
no_set (Found rs) r e = cc
no_set (Alias q) r e = cc
no_set (NoData soa) r e = cc
no_set (NxDomain soa) r e = cc

answers_plain : (a : Question) (k : Key) (l : Link) (r : Record) → a.kind ≡ cname_type → EntryAnswers a k l (Alias r) → ⊥
answers_plain a k l r c (inl h) = no_set l r h.1
answers_plain a k l r c (inr (inl h)) = no_set l r h.1
answers_plain a k l r c (inr (inr (inl h))) = h.1 c
answers_plain a k l r c (inr (inr (inr (p, there, key, is)))) = no_set l r is

said_plain : (port by : ℕ) (n : Name) (said : Link) (since : ℕ) (r : Record) (turn : Turn) (past : List Turn) → received said ≡ Alias r → AcceptsAnswer port by n cname_type said since turn past → ⊥
said_plain port by n (Found rs) since r turn past e h = cc
said_plain port by n (NoData soa) since r turn past e h = cc
said_plain port by n (NxDomain soa) since r turn past e h = cc
said_plain port by n (Alias q) since r turn past e h = no_alias_class root n (via_of (h.ask).path) h.message q h.is

-- ---- links of which it is known since when they are known

module _ (port : ℕ) (home : Home) (run : List Turn) where
  abbrev pub IsLearnt : Name → ℕ → Hit → Type 0
  IsLearnt n u e = (by : ℕ) × (said : Link) × Earlier (AcceptsAnswer port by n u said e.since) run × (e.link ≡ received said) × (e.ttl ≡ lifetime_of (received said))

  abbrev pub AreTimed : Stores → Type 0
  AreTimed stores = AreKept IsLearnt stores.cache

  pub timed_found : (now : ℕ) (n : Name) (t : ℕ) (old new : Stores) (l : Taken) → AreTimed old → Finds home now n t old l new → AreTimed new
  timed_found now n t old new l timed finds = elim finds.is [
    | inl (k, says, link, same) ↦ subst AreTimed (sym same) timed
    | inr (hit, hits) ↦ subst AreTimed (sym hits.stores) (λ k e c. timed k e (looked_from (asked_of home n t) now old.cache (k, e) c))
  ]

  pub timed_missed : (now : ℕ) (n : Name) (t : ℕ) (old new : Stores) (c : Cut) → AreTimed old → Misses home now n t old c new → AreTimed new
  timed_missed now n t old new c timed m = subst AreTimed (sym m.stores) timed

  pub missed_remote : (now : ℕ) (n : Name) (t : ℕ) (old new : Stores) (c : Cut) → Misses home now n t old c new → IsRemote home n t
  missed_remote now n t old new c m = by m.what m.says m.begins
    where
      by : (what : local.Local) → Says home n t what → Begins home n what m.best c → IsRemote home n t
      by (local.Linked l) says b = absurd b
      by (local.Cut at ns glue) says b = inl (at, ns, glue, says)
      by local.NotHere says b = inr says

module _ (port : ℕ) (home : Home) (run : List Turn) (k t : ℕ) (Mine : Type 0) where
  -- A link of a chain for the type t, by where it comes from. `Mine`: the query with this number is served.
  abbrev pub IsKnownAs : Name → Source → Link → Type 0
  IsKnownAs n Local l = Says home n t (local.Linked l)
  IsKnownAs n (Cached ttl since) l =
      IsRemote home n t × ((by : ℕ) × (m : Name) × (u : ℕ) × (said : Link) × Earlier (AcceptsAnswer port by m u said since) run × EntryAnswers (asked_of home n t) (key_for m u (received said)) (received said) l
      × (ttl ≡ lifetime_of (received said)))
  IsKnownAs n (Accepted ttl since) l = IsRemote home n t × Mine × ((said : Link) × Earlier (AcceptsAnswer port k n t said since) run × (l ≡ received said) × (ttl ≡ lifetime_of (received said)))

  abbrev pub IsKnown : Taken → Type 0
  IsKnown l = IsKnownAs l.name l.source l.link

  abbrev pub AreKnown : List Taken → Type 0
  AreKnown [] = Unit {0}
  AreKnown (l ∷ ls) = IsKnown l × AreKnown ls

  pub known_more : (ls : List Taken) (l : Taken) → AreKnown ls → IsKnown l → AreKnown (ls ++ l ∷ [])
  known_more [] l h is = (is, tt)
  known_more (x ∷ ls) l h is = (h.0, known_more ls l h.1 is)

  pub known_front : (front back : List Taken) → AreKnown (front ++ back) → AreKnown front
  known_front [] back h = tt
  known_front (x ∷ front) back h = (h.0, known_front front back h.1)

  known_local : (n : Name) (l : Taken) (link : Link) → l ≡ record { name = n; link = link; source = Local } → Says home n t (local.Linked link) → IsKnown l
  known_local n l link e says = subst IsKnown (sym e) says

  pub found_known : (now : ℕ) (n : Name) (u : ℕ) (old new : Stores) (l : Taken) → u ≡ t → AreTimed port home run old → Finds home now n u old l new → IsKnown l
  found_known now n u old new l same timed finds = elim finds.is [
    | inl (link, says, is, stores) ↦ subst IsKnown (sym is) (subst (λ (v : ℕ). Says home n v (local.Linked link)) same says)
    | inr (hit, hits) ↦ subst IsKnown (sym hits.link) (by_hit hit (subst (IsRemote home n) same hits.remote) (subst (λ (v : ℕ). Tells (IsLearnt port home run) (asked_of home n v) now hit) same
        (hit_tells (IsLearnt port home run) (asked_of home n u) now old.cache hit timed hits.found)))
  ]
    where
      by_hit : (hit : Hit) → IsRemote home n t → Tells (IsLearnt port home run) (asked_of home n t) now hit → IsKnownAs n (Cached hit.ttl hit.since) hit.link
      by_hit hit remote tells =
          let (by, said, learnt, link, ttl) = tells.kept in (
            remote,
            (
              by,
              tells.at,
              tells.kind,
              said,
              subst (λ (m : ℕ). Earlier (AcceptsAnswer port by tells.at tells.kind said m) run) (sym tells.since) learnt,
              subst (λ (x : Link). EntryAnswers (asked_of home n t) (key_for tells.at tells.kind x) x hit.link) link tells.answers,
              tells.ttl ∙ ttl,
            ),
          )

  -- Where CNAME is asked for, no link is an alias.
  pub known_plain : (n : Name) (o : Source) (l : Link) (r : Record) → t ≡ cname_type → l ≡ Alias r → IsKnownAs n o l → ⊥
  known_plain n Local l r c e h = local_plain home n r (subst (λ (u : ℕ). Says home n u (local.Linked (Alias r))) c (subst (λ (x : Link). Says home n t (local.Linked x)) e h))
  known_plain n (Cached ttl since) l r c e (remote, (by, m, u, said, learnt, answers, life)) =
      answers_plain (asked_of home n t) (key_for m u (received said)) (received said) r c (subst (λ (x : Link). EntryAnswers (asked_of home n t) (key_for m u (received said)) (received said) x) e answers)
  known_plain n (Accepted ttl since) l r c e (remote, mine, (said, learnt, is, life)) =
      earlier_tells (AcceptsAnswer port k n cname_type said since) run (λ turn past h. said_plain port k n said since r turn past (sym is ∙ e) h)
      (subst (λ (u : ℕ). Earlier (AcceptsAnswer port k n u said since) run) c learnt)

  -- ---- over the rules

  abbrev pub KnownBy : Task → Job → Type 0
  KnownBy Seek j = Unit {0}
  KnownBy (Take l) j = IsKnown l
  KnownBy Go j = IsRemote home j.name j.kind
  KnownBy (Again a) j = IsRemote home j.name j.kind

  pub record IsTimed (deadline sent : ℕ) (p : Point) : Type 0 where
    pub stores : AreTimed port home run p.stores
    pub chain : AreKnown (p.job).chain
    pub task : KnownBy p.task p.job
    pub plain : t ≡ cname_type → (p.job).chain ≡ []
    pub kind : (p.job).kind ≡ t
    pub deadline_is : (p.job).deadline ≡ deadline
    pub sent_is : (p.job).asks ≡ sent

  pub timed_at : (deadline sent : ℕ) (p : Point) (task : Task) (j : Job) → p.task ≡ task → p.job ≡ j → AreTimed port home run p.stores → AreKnown j.chain → KnownBy task j → (t ≡ cname_type → j.chain ≡ [])
      → j.kind ≡ t → j.deadline ≡ deadline → j.asks ≡ sent → IsTimed deadline sent p
  timed_at deadline sent p task j te je stores chain by plain kind d m = record {
    stores = stores;
    chain = subst (λ (x : Job). AreKnown x.chain) (sym je) chain;
    task = subst (λ (y : Task). KnownBy y p.job) (sym te) (subst (KnownBy task) (sym je) by);
    plain = λ c. ap (λ (x : Job). x.chain) je ∙ plain c;
    kind = ap (λ (x : Job). x.kind) je ∙ kind;
    deadline_is = ap (λ (x : Job). x.deadline) je ∙ d;
    sent_is = ap (λ (x : Job). x.asks) je ∙ m;
  }

  empty_front : (chain front back : List Taken) (l d : Taken) → chain ≡ [] → chain ++ l ∷ [] ≡ front ++ d ∷ back → front ≡ []
  empty_front chain [] back l d none e = refl
  empty_front chain (x ∷ front) back l d none e = absurd (past_end front (tail (sym (ap (λ (c : List Taken). c ++ l ∷ []) none) ∙ e)))
    where
      tail : l ∷ [] ≡ x ∷ (front ++ d ∷ back) → [] ≡ front ++ d ∷ back
      tail e = cc

      past_end : (xs : List Taken) → [] ≡ xs ++ d ∷ back → ⊥
      past_end [] e = cc
      past_end (y ∷ ys) e = cc

  at_go : (d m : ℕ) (a : Point) → IsTimed d m a → a.task ≡ Go → IsRemote home (a.job).name (a.job).kind
  at_go d m a h te = subst (λ (y : Task). KnownBy y a.job) te h.task

  at_take : (d m : ℕ) (a : Point) (l : Taken) → IsTimed d m a → a.task ≡ Take l → IsKnown l
  at_take d m a l h te = subst (λ (y : Task). KnownBy y a.job) te h.task

  pub rule_timed : (d m now : ℕ) (a b : Point) → IsTimed d m a → Rule home now a b → IsTimed d m b
  rule_timed d m now a b h (takes l task finds to job) =
      timed_at d m b (Take l) a.job to job (timed_found port home run now (a.job).name (a.job).kind a.stores b.stores l h.stores finds) h.chain
      (found_known now (a.job).name (a.job).kind a.stores b.stores l h.kind h.stores finds) h.plain h.kind h.deadline_is h.sent_is
  rule_timed d m now a b h (asks c task misses to job) =
      timed_at d m b Go _ to job (timed_missed port home run now (a.job).name (a.job).kind a.stores b.stores c h.stores misses) h.chain
      (missed_remote port home run now (a.job).name (a.job).kind a.stores b.stores c misses) h.plain h.kind h.deadline_is h.sent_is
  rule_timed d m now a b h (follows l r task is few to job stores) =
      let known = at_take d m a l h task in
      timed_at d m b Seek _ to job (subst (AreTimed port home run) (sym stores) h.stores) (known_more (a.job).chain l h.chain known) tt
      (λ c. absurd (known_plain l.name l.source l.link r c is known)) h.kind h.deadline_is h.sent_is
  rule_timed d m now a b h (restarts l x front back task ending is fresh dead to job stores) =
      timed_at d m b Seek _ to job (subst (AreTimed port home run) (sym stores) h.stores)
      (known_front front (x ∷ back) (subst AreKnown is (known_more (a.job).chain l h.chain (at_take d m a l h task)))) tt
      (λ c. empty_front (a.job).chain front back l x (h.plain c) is) h.kind h.deadline_is h.sent_is
  rule_timed d m now a b h (skips n s u rest failures task searches passes free to job stores) =
      timed_at d m b Go _ to job (subst (AreTimed port home run) (sym stores) h.stores) h.chain (at_go d m a h task) h.plain h.kind h.deadline_is h.sent_is
  rule_timed d m now a b h (hears before after rest n l marks task turn finds hears_of to job) =
      timed_at d m b Go _ to job (timed_found port home run now n a_type a.stores b.stores l h.stores finds) h.chain (at_go d m a h task) h.plain h.kind h.deadline_is h.sent_is
  rule_timed d m now a b h (descends s rest n c task turn misses to job) =
      timed_at d m b Go _ to job (timed_missed port home run now n a_type a.stores b.stores c h.stores misses) h.chain (at_go d m a h task) h.plain h.kind h.deadline_is h.sent_is
  rule_timed d m now a b h (gives_up s around rest task up to job stores) =
      timed_at d m b Go _ to job (subst (AreTimed port home run) (sym stores) h.stores) h.chain (at_go d m a h task) h.plain h.kind h.deadline_is h.sent_is

  pub rules_timed : (d m now n : ℕ) (a b : Point) → IsTimed d m a → Rules home now n a b → IsTimed d m b
  rules_timed d m now zero a b h is = subst (IsTimed d m) (sym is) h
  rules_timed d m now (suc n) a b h (mid, before, last) = rule_timed d m now mid b (rules_timed d m now n a mid h before) last

-- ---- later

module _ (port : ℕ) (home : Home) (turn : Turn) (past : List Turn) where
  pub timed_later : (stores : Stores) → AreTimed port home past stores → AreTimed port home (turn ∷ past) stores
  timed_later stores h k e c = let (n, u, key, (by, said, learnt, link, ttl)) = h k e c in (n, u, key, (by, said, inr learnt, link, ttl))

  module _ (k t : ℕ) (Old New : Type 0) (f : Old → New) where
    known_as_later : (n : Name) (o : Source) (l : Link) → IsKnownAs port home past k t Old n o l → IsKnownAs port home (turn ∷ past) k t New n o l
    known_as_later n Local l h = h
    known_as_later n (Cached ttl since) l (remote, (by, m, u, said, learnt, answers, life)) = (remote, (by, m, u, said, inr learnt, answers, life))
    known_as_later n (Accepted ttl since) l (remote, mine, (said, learnt, is, life)) = (remote, f mine, (said, inr learnt, is, life))

    pub known_later : (ls : List Taken) → AreKnown port home past k t Old ls → AreKnown port home (turn ∷ past) k t New ls
    known_later [] h = tt
    known_later (l ∷ ls) h = (known_as_later l.name l.source l.link h.0, known_later ls h.1)

-- The query served no more counts.
pub known_for_good : (port : ℕ) (home : Home) (run : List Turn) (k t : ℕ) (Old : Type 0) (ls : List Taken) → AreKnown port home run k t Old ls → AreKnown port home run k t (Unit {0}) ls
known_for_good port home run k t Old [] h = tt
known_for_good port home run k t Old (l ∷ ls) h = (by l.name l.source l.link h.0, known_for_good port home run k t Old ls h.1)
  where
    by : (n : Name) (o : Source) (l : Link) → IsKnownAs port home run k t Old n o l → IsKnownAs port home run k t (Unit {0}) n o l
    by n Local l h = h
    by n (Cached ttl since) l h = h
    by n (Accepted ttl since) l (remote, mine, more) = (remote, tt, more)
