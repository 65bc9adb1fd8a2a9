-- What is true of a query's work stays true: through what comes in, each rule, and what goes out.
use Rattle.std.proofs.Common.{◌≡◌, ℕ, zero, suc, ◌+◌, ◌≤◌, List, [], ◌∷◌, ◌++◌, length, inl, inr, refl, sym, ◌∙◌, ap, subst, arith}
use Rattle.std.specs.Prelude.{Contains}
use Rattle.dname.specs.Labels.{Name, root}
use Rattle.rdata.specs.Records.{Record}
use Rattle.rdata.specs.declared.addr.Addr.{Addr}
use Rattle.zone.specs.Zones.{a_type}
use Rattle.zone.specs.Links.{Link, Alias}
use Rattle.zone.specs.Look as local
use Rattle.zone.proofs.LawLists.{none_in}
use Rattle.message_grammar.specs.Messages.{Message}
use Rattle.wire.specs.declared.via.Via.{Via}
use Rattle.front.specs.Chains.{alias_target}
use Rattle.classify.specs.Classes as class
use Rattle.classify.specs.Classes.{class_of}
use Rattle.classify.specs.Lifetimes.{received}
use Rattle.classify.proofs.Readings.{answer_read}
use Rattle.referral.specs.Cuts.{Cut, Known}
use Rattle.cache.specs.Keys.{Key}
use Rattle.cache.specs.Cached.{Hit, IsHeld}
use Rattle.cache.proofs.Above.{above_is_between}
use Rattle.cache.proofs.Members.{looked_members}
use Rattle.frames.specs.Frames.{Frame, Failed, opened, after_add, fresh_addresses}
use Rattle.frames.proofs.Places.{name_member}
use Rattle.world_truth.specs.Worlds.{World, IsWorld}
use Rattle.world_truth.specs.Serving.{MayServe}
use Rattle.world_truth.specs.Frames.{MayAsk}
use Rattle.world_truth.proofs.Honest.{honest_answer}
use Rattle.resolution.specs.Jobs.{Home, Stores, level_of, with_told, Taken, IsEnding, bytes_of, Search, with_frame, given, Job, Input, Start, Told, TimedOut, TcpFailed, Next, AskUdp, AskTcp, Done, Fail, Task, Seek, Take, Go, Again, Point, hit_from}
use Rattle.resolution.specs.Rules.{Says, IsRemote, asked_by, asked_of, Hits, Finds, Misses, UsesServerAddress, turned, Rule, takes, asks, follows, restarts, skips, hears, descends, gives_up, Rules, ByClass, Enters, Leaves, sends, sends_again, refuses, spent, looked_out, nowhere, too_long, done, Advances, IsTakenEntry, IsTakenCut, BringsOnly}
use Rattle.resolution.proofs.Passing.{passes_keep}
use Rattle.laws.specs.Headline.{IsHomeIn}
use Rattle.laws.specs.Truthful.{IsTrueOnce, IsTrueEntry, IsTrueCut, IsTrueFrame, AreTrueStores, TrueAliasesLead, IsWanted, AreTrueSearches, IsTrueJob, AsksTruly}
use Rattle.laws.proofs.RightLists.{longer}
use Rattle.laws.proofs.RightEntries.{class_once, received_good, local_good, Count, kept_true, new_true, hit_good}
use Rattle.laws.proofs.Servers.{opened_true, misses_true, referral_cut, referral_begins, cut_kept_true, new_cut, cuts_used_true, added_true, asks_true}

-- ---- what is true

-- The innermost search's server may be asked.
abbrev pub MayAskNext : World → Addr → List Search → Type 0
MayAskNext W server [] = Unit {0}
MayAskNext W server (s ∷ rest) = MayAsk W (bytes_of server) (s.frame).zone s.name

abbrev pub IsTrueTask : World → ℕ → Job → Task → Type 0
IsTrueTask W t j Seek = j.searches ≡ []
IsTrueTask W t j (Take l) = (j.searches ≡ []) × (l.name ≡ j.name) × IsTrueOnce W j.name t l.link
IsTrueTask W t j Go = Unit {0}
IsTrueTask W t j (Again server) = MayAskNext W server j.searches

pub record IsTruePoint (W : World) (q : Name) (t : ℕ) (p : Point) : Type 0 where
  pub job : IsTrueJob W q t p.job
  pub stores : AreTrueStores W p.stores
  pub task : IsTrueTask W t p.job p.task

-- What comes in is honest.
abbrev pub IsTold : World → Addr → Message → List Search → Type 0
IsTold W server m [] = Unit {0}
IsTold W server m (s ∷ rest) = MayAsk W (bytes_of server) (s.frame).zone s.name × MayServe W (bytes_of server) s.name s.kind m

abbrev pub IsTrueInput : World → Job → Input → Type 0
IsTrueInput W j Start = j.searches ≡ []
IsTrueInput W j (Told via server m) = IsTold W server m j.searches
IsTrueInput W j (TimedOut server) = Unit {0}
IsTrueInput W j (TcpFailed server) = Unit {0}

pub record EndsTruly (W : World) (q : Name) (t : ℕ) (chain : List Taken) (l : Taken) : Type 0 where
  pub to : Name
  pub leads : TrueAliasesLead W t q chain to
  pub few : length chain ≤ 8
  pub ending : IsEnding l.link
  pub good : IsTrueOnce W to t l.link

abbrev pub IsTrueNext : World → Name → ℕ → Next → Job → Type 0
IsTrueNext W q t (AskUdp server n k) job = AsksTruly W server n k job × IsTrueJob W q t job
IsTrueNext W q t (AskTcp server n k) job = AsksTruly W server n k job × IsTrueJob W q t job
IsTrueNext W q t (Done chain l) job = EndsTruly W q t chain l
IsTrueNext W q t (Fail c) job = Unit {0}

-- ---- chains

lead_more : (W : World) (t : ℕ) (from to : Name) (ls : List Taken) (l : Taken) (r : Record) → TrueAliasesLead W t from ls to → l.name ≡ to → l.link ≡ Alias r → IsTrueOnce W to t (Alias r)
    → TrueAliasesLead W t from (ls ++ l ∷ []) (alias_target r)
lead_more W t from to [] l r leads name link good = (name ∙ leads, (r, link, subst (λ (n : Name). IsTrueOnce W n t (Alias r)) leads good, refl))
lead_more W t from to (x ∷ ls) l r (first, (s, alias, is, more)) name link good = (first, (s, alias, is, lead_more W t (alias_target s) to ls l r more name link good))

heads : {X : Type 0} {x y : X} {xs ys : List X} → x ∷ xs ≡ y ∷ ys → x ≡ y
heads e = cc

tails : {X : Type 0} {x y : X} {xs ys : List X} → x ∷ xs ≡ y ∷ ys → xs ≡ ys
tails e = cc

none_more : {X P : Type 0} (xs ys : List X) (x : X) → [] ≡ xs ++ x ∷ ys → P
none_more [] ys x e = cc
none_more (z ∷ xs) ys x e = cc

front_leads : (W : World) (t : ℕ) (from to : Name) (chain front back : List Taken) (l d : Taken) → TrueAliasesLead W t from chain to → l.name ≡ to → chain ++ l ∷ [] ≡ front ++ d ∷ back
    → TrueAliasesLead W t from front d.name
front_leads W t from to [] [] back l d leads name split = ap (λ (x : Taken). x.name) (sym (heads split)) ∙ (name ∙ leads)
front_leads W t from to (c ∷ cs) [] back l d (first, more) name split = ap (λ (x : Taken). x.name) (sym (heads split)) ∙ first
front_leads W t from to [] (f ∷ fs) back l d leads name split = none_more fs back d (tails split)
front_leads W t from to (c ∷ cs) (f ∷ fs) back l d (first, (r, alias, is, more)) name split =
    let same : c ≡ f = heads split in
    (ap (λ (x : Taken). x.name) (sym same) ∙ first, (r, ap (λ (x : Taken). x.link) (sym same) ∙ alias, is, front_leads W t (alias_target r) to cs fs back l d more name (tails split)))

front_few : {X : Type 0} (chain front back : List X) (l d : X) → chain ++ l ∷ [] ≡ front ++ d ∷ back → length chain ≤ 8 → length front ≤ 8
front_few chain front back l d split few =
    let whole = ap length split in
    let one = longer chain l in
    let two = both_long front (d ∷ back) in
    omega (arith, whole, one, two, few)
  where
    both_long : {X : Type 0} (xs ys : List X) → length (xs ++ ys) ≡ length xs + length ys
    both_long [] ys = omega arith
    both_long (x ∷ xs) ys = let more = both_long xs ys in omega (arith, more)

-- ---- points

-- A point by its parts.
point_true : (W : World) (q : Name) (t : ℕ) (p : Point) (task : Task) (job : Job) → p.task ≡ task → p.job ≡ job → IsTrueJob W q t job → AreTrueStores W p.stores → IsTrueTask W t job task
    → IsTruePoint W q t p
point_true W q t p task job at is j stores h = record {
  job = subst (IsTrueJob W q t) (sym is) j;
  stores = stores;
  task = subst (λ (x : Job × Task). IsTrueTask W t x.0 x.1) (λ i. (sym is i, sym at i)) h;
}

-- Each name above that is tried may deny the question.
may_count : (n : Name) (t : ℕ) (what : local.Local) → Count (asked_by what n t) what
may_count n t (local.Linked l) p there = absurd (none_in p there)
may_count n t (local.Cut c ns glue) p there = let (low, over) = (above_is_between c n p).0 there in (over, low.0)
may_count n t local.NotHere p there = let (low, over) = (above_is_between root n p).0 there in (tt, low.0)

-- A search whose plan goes on is as true.
given_true : (W : World) (n : Name) (t : ℕ) (s : Search) (rest : List Search) → AreTrueSearches W n t (s ∷ rest) → AreTrueSearches W n t (given s ∷ rest)
given_true W n t s [] x = x
given_true W n t s (around ∷ rest) x = x

module _ (W : World) (w : IsWorld W) (home : Home) (ours : IsHomeIn W home) (now : ℕ) where
  finds_true : (n : Name) (t : ℕ) (old : Stores) (l : Taken) (new : Stores) → AreTrueStores W old → Finds home now n t old l new → (l.name ≡ n) × IsTrueOnce W n t l.link × AreTrueStores W new
  finds_true n t old l new all h = elim h.is as (λ x. (l.name ≡ n) × IsTrueOnce W n t l.link × AreTrueStores W new) [
    | inl x ↦ (ap (λ (y : Taken). y.name) x.2, subst (λ (y : Taken). IsTrueOnce W n t y.link) (sym x.2) (local_good W home.zones n t x.0 w ours.held x.1.1), subst (AreTrueStores W) (sym x.3) all)
    | inr x ↦ hit x.0 x.1
  ]
    where
      by_said : (e : Hit) (what : local.Local) → Says home n t what → IsHeld (asked_of home n t) now old.cache e → IsTrueOnce W n t e.link
      by_said e what says held =
          hit_good W home.zones (asked_of home n t) what now old.cache e w ours.held says.1 (subst (λ (x : local.Local). Count (asked_by x n t) what) (sym says.0) (may_count n t what)) all.cache held

      good : (e : Hit) → IsHeld (asked_of home n t) now old.cache e → IsRemote home n t → IsTrueOnce W n t e.link
      good e held (inl (c, ns, glue, says)) = by_said e (local.Cut c ns glue) says held
      good e held (inr says) = by_said e local.NotHere says held

      hit : (e : Hit) → Hits home now n t old l e new → (l.name ≡ n) × IsTrueOnce W n t l.link × AreTrueStores W new
      hit e h = (
        ap (λ (y : Taken). y.name) h.link,
        subst (λ (y : Taken). IsTrueOnce W n t y.link) (sym h.link) (good e h.held h.remote),
        subst (AreTrueStores W) (sym h.stores) (record { cache = λ k x m. all.cache k x ((looked_members (asked_of home n t) now old.cache).0 (k, x) m); cuts = all.cuts }),
      )

  missed_true : (n : Name) (t : ℕ) (old : Stores) (c : Cut) (new : Stores) → AreTrueStores W old → Misses home now n t old c new → AreTrueStores W new
  missed_true n t old c new all h = subst (AreTrueStores W) (sym h.stores) (record { cache = all.cache; cuts = cuts_used_true W n now old.delegations all.cuts })

  -- A search that hears of one of its servers' names.
  heard_true : (stores : Stores) (n p : Name) (t : ℕ) (l : Link) (before : Search) (rest : List Search) (failed : Failed) (after : Search) (marks : Failed)
      → UsesServerAddress stores n l before failed after marks → Contains (before.frame).names n → IsTrueOnce W n a_type l
      → AreTrueSearches W p t (before ∷ rest) → AreTrueSearches W p t (after ∷ rest)
  heard_true stores n p t l before rest failed after marks h member good (frame, wanted, more) = elim h.is as (λ x. AreTrueSearches W p t (after ∷ rest)) [
    | inl x ↦ subst (λ (s : Search). AreTrueSearches W p t (s ∷ rest)) (sym x.4)
        (added_true W w before.name n before.frame frame member x.0 (subst (IsTrueOnce W n a_type) x.2 good) x.1 x.3 (level_of stores), still rest (after_add (level_of stores) before.frame (fresh_addresses before.frame x.1)) wanted, more)
    | inr x ↦ subst (λ (s : Search). AreTrueSearches W p t (s ∷ rest)) (sym x.1) (frame, wanted, more)
  ]
    where
      still : (rest : List Search) (f : Frame) → IsWanted p t before rest → IsWanted p t (with_frame before f) rest
      still [] f h = h
      still (around ∷ rest) f h = h

  -- ---- rules

  turned_true : (p : Name) (t : ℕ) (failed : Failed) (s : Search) (rest : List Search) → AreTrueSearches W p t (s ∷ rest) → AreTrueSearches W p t (turned failed s ∷ rest)
  turned_true p t failed s [] h = h
  turned_true p t failed s (around ∷ rest) h = h

  at_kind : (n : Name) (k t : ℕ) (l : Link) → k ≡ t → IsTrueOnce W n k l → IsTrueOnce W n t l
  at_kind n k t l e h = subst (λ (u : ℕ). IsTrueOnce W n u l) e h

  pub rule_true : (q : Name) (t : ℕ) (a b : Point) → IsTruePoint W q t a → Rule home now a b → IsTruePoint W q t b
  rule_true q t a b h (takes l at finds to job) =
      let (name, good, stores) = finds_true (a.job).name (a.job).kind a.stores l b.stores h.stores finds in
      let free : (a.job).searches ≡ [] = subst (IsTrueTask W t a.job) at h.task in
      point_true W q t b (Take l) a.job to job h.job stores (free, name, at_kind (a.job).name (a.job).kind t l.link (h.job).kind good)
  rule_true q t a b h (asks c at misses to job) =
      let begins = misses_true W home now (a.job).name (a.job).kind a.stores c b.stores w ours (h.stores).cuts misses in
      let stores = missed_true (a.job).name (a.job).kind a.stores c b.stores h.stores misses in
      point_true W q t b Go _ to job
      (record {
        kind = (h.job).kind;
        leads = (h.job).leads;
        few = (h.job).few;
        searches = (opened_true W (a.job).name (level_of b.stores) 0 c begins, (refl, (h.job).kind), tt);
      })
      stores tt
  rule_true q t a b h (follows l r at alias few to job stores) =
      let (free, name, good) = subst (IsTrueTask W t a.job) at h.task in
      let is : IsTrueOnce W (a.job).name t (Alias r) = subst (IsTrueOnce W (a.job).name t) alias good in
      let long = longer (a.job).chain l in
      point_true W q t b Seek _ to job
      (record {
        kind = (h.job).kind;
        leads = lead_more W t q (a.job).name (a.job).chain l r (h.job).leads name alias is;
        few = omega (arith, long, few);
        searches = subst (AreTrueSearches W (alias_target r) t) (sym free) tt;
      })
      (subst (AreTrueStores W) (sym stores) h.stores) free
  rule_true q t a b h (restarts l d front back at ending split alive dead to job stores) =
      let (free, name, good) = subst (IsTrueTask W t a.job) at h.task in
      point_true W q t b Seek _ to job
      (record {
        kind = (h.job).kind;
        leads = front_leads W t q (a.job).name (a.job).chain front back l d (h.job).leads name split;
        few = front_few (a.job).chain front back l d split (h.job).few;
        searches = tt;
      })
      (subst (AreTrueStores W) (sym stores) h.stores) refl
  rule_true q t a b h (skips n s u rest failures at searches passes free to job stores) =
      let here : AreTrueSearches W (a.job).name t (s ∷ rest) = subst (AreTrueSearches W (a.job).name t) searches (h.job).searches in
      let there = passes_keep (λ x. AreTrueSearches W (a.job).name t (x ∷ rest)) now (suc n) s (a.stores).failures u failures (λ x e. given_true W (a.job).name t x rest e) passes here in
      point_true W q t b Go _ to job (record { kind = (h.job).kind; leads = (h.job).leads; few = (h.job).few; searches = there })
      (subst (AreTrueStores W) (sym stores) (record { cache = (h.stores).cache; cuts = (h.stores).cuts })) tt
  rule_true q t a b h (hears before after rest n l marks at turn finds heard to job) =
      let (name, good, stores) = finds_true n a_type a.stores l b.stores h.stores finds in
      let around : AreTrueSearches W (a.job).name t (before ∷ rest) = subst (AreTrueSearches W (a.job).name t) turn.searches (h.job).searches in
      point_true W q t b Go _ to job
      (record {
        kind = (h.job).kind;
        leads = (h.job).leads;
        few = (h.job).few;
        searches = heard_true b.stores n (a.job).name t l.link (turned (a.job).failed before) rest (a.job).failed after marks heard (name_member (a.job).failed before.frame n turn.turn) good
            (turned_true (a.job).name t (a.job).failed before rest around);
      })
      stores tt
  rule_true q t a b h (descends s rest n c at turn misses to job) =
      let begins = misses_true W home now n a_type a.stores c b.stores w ours (h.stores).cuts misses in
      let stores = missed_true n a_type a.stores c b.stores h.stores misses in
      let around : AreTrueSearches W (a.job).name t (s ∷ rest) = subst (AreTrueSearches W (a.job).name t) turn.searches (h.job).searches in
      point_true W q t b Go _ to job
      (record {
        kind = (h.job).kind;
        leads = (h.job).leads;
        few = (h.job).few;
        searches = (opened_true W n (level_of b.stores) ((s.frame).nesting + 1) c begins, (name_member (a.job).failed s.frame n turn.turn, refl), turned_true (a.job).name t (a.job).failed s rest around);
      })
      stores tt
  rule_true q t a b h (gives_up s around rest at up to job stores) =
      let outer : AreTrueSearches W (a.job).name t (s ∷ around ∷ rest) = subst (AreTrueSearches W (a.job).name t) up.searches (h.job).searches in
      point_true W q t b Go _ to job (record { kind = (h.job).kind; leads = (h.job).leads; few = (h.job).few; searches = outer.2 }) (subst (AreTrueStores W) (sym stores) h.stores) tt

  pub rules_true : (q : Name) (t n : ℕ) (a b : Point) → IsTruePoint W q t a → Rules home now n a b → IsTruePoint W q t b
  rules_true q t zero a b h is = subst (IsTruePoint W q t) (sym is) h
  rules_true q t (suc n) a b h (mid, rules, rule) = rule_true q t mid b (rules_true q t n a mid h rules) rule

  -- ---- what comes in

  -- The link of an honest answer.
  honest_good : (server : Addr) (via : Via) (m : Message) (s : Search) (l : Link) → MayAsk W (bytes_of server) (s.frame).zone s.name → MayServe W (bytes_of server) s.name s.kind m
      → class_of (s.frame).zone s.name s.kind via m ≡ class.Answer l → IsTrueOnce W s.name s.kind (received l)
  honest_good server via m s l may serve is =
      received_good W s.name s.kind l (record {
        is = honest_answer W (bytes_of server) (s.frame).zone s.name s.kind m l w may serve (answer_read (s.frame).zone s.name s.kind m via l is);
        once = class_once (s.frame).zone s.name s.kind via m l is;
      })

  class_true : (q : Name) (t : ℕ) (server : Addr) (via : Via) (m : Message) (s : Search) (rest : List Search) (c : class.Class) (j : Job) (stores : Stores) (p : Point)
      → class_of (s.frame).zone s.name s.kind via m ≡ c → j.searches ≡ s ∷ rest → IsTrueJob W q t j → AreTrueStores W stores → IsTold W server m (s ∷ rest)
      → ByClass now server s rest c j stores p → IsTruePoint W q t p
  class_true q t server via m s [] (class.Answer l) j stores p is searches h all (may, serve) (task, job, learnt) =
      let here : AreTrueSearches W j.name t (s ∷ []) = subst (AreTrueSearches W j.name t) searches h.searches in
      let (frame, (name, kind), more) = here in
      let good = honest_good server via m s l may serve is in
      point_true W q t p _ _ task job (record { kind = h.kind; leads = h.leads; few = h.few; searches = tt })
      (subst (AreTrueStores W) (sym learnt.stores) (record { cache = kept_true W stores.cache_cap s.name s.kind (hit_from l now) stores.cache all.cache good; cuts = all.cuts }))
      (refl, name, subst (λ (x : Name × ℕ). IsTrueOnce W x.0 x.1 (received l)) (λ i. (name i, kind i)) good)
  class_true q t server via m s (around ∷ rest) (class.Answer l) j stores p is searches h all (may, serve) (after, marks, task, learnt, heard, job) =
      let here : AreTrueSearches W j.name t (s ∷ around ∷ rest) = subst (AreTrueSearches W j.name t) searches h.searches in
      let (frame, (member, kind), more) = here in
      let good = honest_good server via m s l may serve is in
      point_true W q t p _ _ task job
      (record {
        kind = h.kind;
        leads = h.leads;
        few = h.few;
        searches = heard_true p.stores s.name j.name t (received l) around rest j.failed after marks heard member (at_kind s.name s.kind a_type (received l) kind good) more;
      })
      (subst (AreTrueStores W) (sym learnt.stores) (record { cache = kept_true W stores.cache_cap s.name s.kind (hit_from l now) stores.cache all.cache good; cuts = all.cuts })) tt
  class_true q t server via m s rest (class.Referral at ns glue ttl) j stores p is searches h all (may, serve) refers =
      let here : AreTrueSearches W j.name t (s ∷ rest) = subst (AreTrueSearches W j.name t) searches h.searches in
      let cut = referral_cut W w (s.frame).zone s.name s.kind via m at ns glue ttl (bytes_of server) may serve is refers.cut refers.is_cut in
      let begins = referral_begins W w (s.frame).zone s.name s.kind via m at ns glue ttl (bytes_of server) may serve is refers.cut refers.is_cut in
      point_true W q t p _ _ refers.task refers.job
      (record {
        kind = h.kind;
        leads = h.leads;
        few = h.few;
        searches = anew s rest (opened (level_of stores) (s.frame).nesting refers.cut) (opened_true W s.name (level_of stores) (s.frame).nesting refers.cut begins) here;
      })
      (subst (AreTrueStores W) (sym refers.stored) (record { cache = all.cache; cuts = cut_kept_true W stores.delegations_cap ttl now refers.cut stores.delegations all.cuts cut })) tt
    where
      anew : (s : Search) (rest : List Search) (f : Frame) → IsTrueFrame W s.name f → AreTrueSearches W j.name t (s ∷ rest) → AreTrueSearches W j.name t (with_frame s f ∷ rest)
      anew s [] f new (frame, wanted, more) = (new, wanted, more)
      anew s (around ∷ rest) f new (frame, wanted, more) = (new, wanted, more)
  class_true q t server via m s rest class.Truncated j stores p is searches h all (may, serve) same =
      point_true W q t p _ _ (ap (λ (x : Point). x.task) same) (ap (λ (x : Point). x.job) same) h (subst (AreTrueStores W) (sym (ap (λ (x : Point). x.stores) same)) all)
      (subst (MayAskNext W server) (sym searches) may)
  class_true q t server via m s rest (class.Failed f) j stores p is searches h all (may, serve) same =
      point_true W q t p _ _ (ap (λ (x : Point). x.task) same) (ap (λ (x : Point). x.job) same) h (subst (AreTrueStores W) (sym (ap (λ (x : Point). x.stores) same)) all) tt

  at_once : (q : Name) (t : ℕ) (p : Point) (task : Task) (j : Job) (stores : Stores) → p ≡ record { task = task; job = j; stores = stores } → IsTrueJob W q t j → AreTrueStores W stores → IsTrueTask W t j task → IsTruePoint W q t p
  at_once q t p task j stores is h all fact = subst (IsTruePoint W q t) (sym is) (record { job = h; stores = all; task = fact })

  pub enters_true : (q : Name) (t : ℕ) (input : Input) (j : Job) (stores : Stores) (p : Point) → IsTrueInput W j input → IsTrueJob W q t j → AreTrueStores W stores → Enters now input j stores p → IsTruePoint W q t p
  enters_true q t Start j stores p input h all is = at_once q t p Seek j stores is h all input
  enters_true q t (Told via server m) j stores p input h all (inl (free, is)) = at_once q t p Go j _ is h (record { cache = all.cache; cuts = all.cuts }) tt
  enters_true q t (Told via server m) j stores p input h all (inr (s, rest, searches, by)) =
      class_true q t server via m s rest _ j (with_told now s server m stores) p refl searches h (record { cache = all.cache; cuts = all.cuts }) (subst (IsTold W server m) searches input) by
  enters_true q t (TimedOut server) j stores p input h all is = at_once q t p Go j _ is h (record { cache = all.cache; cuts = all.cuts }) tt
  enters_true q t (TcpFailed server) j stores p input h all is = at_once q t p Go j _ is h (record { cache = all.cache; cuts = all.cuts }) tt

  -- ---- what goes out

  pub leaves_true : (q : Name) (t : ℕ) (p : Point) (next : Next) (job : Job) (stores : Stores) → IsTruePoint W q t p → Leaves home now p next job stores → IsTrueNext W q t next job × AreTrueStores W stores
  leaves_true q t p next job stores h (sends server s rest due may is job_is stores_is) =
      let here : AreTrueSearches W (p.job).name t (s ∷ rest) = subst (AreTrueSearches W (p.job).name t) due.searches (h.job).searches in (
        subst (λ (x : Next × Job). IsTrueNext W q t x.0 x.1) (λ i. (sym is i, sym job_is i)) (
          record { search = _; rest = rest; searches = refl; name = refl; kind = refl; may = asks_true W s.name s.frame server here.0 due.known },
          record { kind = (h.job).kind; leads = (h.job).leads; few = (h.job).few; searches = given_true W (p.job).name t s rest here },
        ),
        subst (AreTrueStores W) (sym stores_is) h.stores,
      )
  leaves_true q t p next job stores h (sends_again server s rest due may is job_is stores_is) =
      let may_ask : MayAskNext W server (p.job).searches = subst (IsTrueTask W t p.job) due.task h.task in (
        subst (λ (x : Next × Job). IsTrueNext W q t x.0 x.1) (λ i. (sym is i, sym job_is i)) (
          record { search = s; rest = rest; searches = due.searches; name = refl; kind = refl; may = subst (MayAskNext W server) due.searches may_ask },
          record { kind = (h.job).kind; leads = (h.job).leads; few = (h.job).few; searches = (h.job).searches },
        ),
        subst (AreTrueStores W) (sym stores_is) h.stores,
      )
  leaves_true q t p next job stores h (refuses c server s rest due refused is stores_is) = (subst (λ (x : Next). IsTrueNext W q t x job) (sym is) tt, subst (AreTrueStores W) (sym stores_is) h.stores)
  leaves_true q t p next job stores h (spent s at up is stores_is) = (subst (λ (x : Next). IsTrueNext W q t x job) (sym is) tt, subst (AreTrueStores W) (sym stores_is) h.stores)
  leaves_true q t p next job stores h (looked_out s rest n at out is stores_is) = (subst (λ (x : Next). IsTrueNext W q t x job) (sym is) tt, subst (AreTrueStores W) (sym stores_is) h.stores)
  leaves_true q t p next job stores h (nowhere at free is stores_is) = (subst (λ (x : Next). IsTrueNext W q t x job) (sym is) tt, subst (AreTrueStores W) (sym stores_is) h.stores)
  leaves_true q t p next job stores h (too_long l r at alias many is stores_is) = (subst (λ (x : Next). IsTrueNext W q t x job) (sym is) tt, subst (AreTrueStores W) (sym stores_is) h.stores)
  leaves_true q t p next job stores h (done l at ending fresh is stores_is) =
      let (free, name, good) = subst (IsTrueTask W t p.job) at h.task in (
        subst (λ (x : Next). IsTrueNext W q t x job) (sym is) (record { to = (p.job).name; leads = (h.job).leads; few = (h.job).few; ending = ending; good = good }),
        subst (AreTrueStores W) (sym stores_is) h.stores,
      )

  pub advances_true : (q : Name) (t : ℕ) (input : Input) (old : Job) (stores : Stores) (next : Next) (new : Job) (after : Stores) → IsTrueInput W old input → IsTrueJob W q t old → AreTrueStores W stores
      → Advances home now input old stores next new after → IsTrueNext W q t next new × AreTrueStores W after
  advances_true q t input old stores next new after told h all adv =
      leaves_true q t adv.last next new after (rules_true q t adv.count adv.first adv.last (enters_true q t input old stores adv.first told h all adv.enters) adv.rules) adv.leaves

  -- Where memory was wanting on the way.
  pub stops_true : (input : Input) (old : Job) (stores after : Stores) → IsTrueInput W old input → AreTrueStores W stores → BringsOnly input now old stores after → AreTrueStores W after
  stops_true input old stores after told all stops = record {
    cache = λ k e m. elim (stops.cache (k, e) m) as (λ x. IsTrueEntry W k e.link) [ inl there ↦ all.cache k e there | inr new ↦ entry input told k e new ];
    cuts = λ n k m. elim (stops.delegations (n, k) m) as (λ x. ((k.cut).owner ≡ n) × IsTrueCut W k.cut) [ inl there ↦ all.cuts n k there | inr new ↦ cut input told n k new ];
  }
    where
      entry : (input : Input) → IsTrueInput W old input → (k : Key) (e : Hit) → IsTakenEntry old input now (k, e) → IsTrueEntry W k e.link
      entry Start told k e (s, l, none, kept) = absurd none
      entry (Told via server m) told k e (s, l, ((rest, searches), is), kept) =
          let (may, serve) = subst (IsTold W server m) searches told in
          new_true W s.name s.kind (hit_from l now) k e (honest_good server via m s l may serve is) kept
      entry (TimedOut server) told k e (s, l, none, kept) = absurd none
      entry (TcpFailed server) told k e (s, l, none, kept) = absurd none

      cut : (input : Input) → IsTrueInput W old input → (n : Name) (k : Known) → IsTakenCut old input now (n, k) → ((k.cut).owner ≡ n) × IsTrueCut W k.cut
      cut Start told n k (s, at, ns, glue, ttl, c, none, is_cut, kept) = absurd none
      cut (Told via server m) told n k (s, at, ns, glue, ttl, c, ((rest, searches), is), is_cut, kept) =
          let (may, serve) = subst (IsTold W server m) searches told in
          new_cut W ttl now c n k (referral_cut W w (s.frame).zone s.name s.kind via m at ns glue ttl (bytes_of server) may serve is c is_cut) kept
      cut (TimedOut server) told n k (s, at, ns, glue, ttl, c, none, is_cut, kept) = absurd none
      cut (TcpFailed server) told n k (s, at, ns, glue, ttl, c, none, is_cut, kept) = absurd none
