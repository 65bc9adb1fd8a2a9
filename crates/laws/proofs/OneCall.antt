-- One input to one job over the same stores has one result.
use Rattle.std.proofs.Common.{◌≡◌, ◌≢◌, ℕ, zero, suc, ◌<◌, ◌⊎◌, inl, inr, List, [], ◌∷◌, ◌++◌, refl, sym, ap, ap₂, ◌∙◌, subst, arith, eq-or-lt_of_le, le_of_suc-le-suc}
use Rattle.dname.specs.Labels.{Name}
use Rattle.rdata.specs.Records.{Record}
use Rattle.rdata.specs.declared.addr.Addr.{Addr}
use Rattle.zone.specs.Zones.{IsBeneath}
use Rattle.zone.specs.Links.{Link}
use Rattle.zone.specs.Look as local
use Rattle.message_grammar.specs.Messages.{Message}
use Rattle.wire.specs.declared.via.Via.{Via}
use Rattle.classify.specs.Classes as class
use Rattle.classify.specs.Classes.{class_of}
use Rattle.classify.proofs.Readings.{referral_read}
use Rattle.referral.specs.Cuts.{Cut, Known}
use Rattle.referral.specs.Cuts as referral
use Rattle.cache.specs.Cached as cache
use Rattle.cache.specs.Cached.{Hit, Question}
use Rattle.frames.specs.Frames.{Failed, opened}
use Rattle.resolution.specs.Jobs.{Home, Stores, level_of, with_told, with_frame, Taken, local_link, received_link, Search, Job, Input, Start, Told, TimedOut, TcpFailed, Next, Go, Point, point, hit_from, cut_from}
use Rattle.resolution.specs.Rules.{Says, Hits, Finds, Misses, UsesServerAddress, Rule, takes, asks, follows, restarts, skips, hears, descends, gives_up, Rules, IsAnswered, IsReferred, ByClass, Enters, Leaves}
use Rattle.laws.specs.Determined.{AreNamed, OneCall}
use Rattle.laws.specs.Looks.{rule_hits, rules_hits, accepted_by, enters_accepted}
use Rattle.laws.proofs.OneChoice.{cut_one, uses_one, are_ordered}
use Rattle.laws.proofs.OneRule.{point_is, rule_one, leaves_one, no_rule_left}
use Rattle.laws.proofs.Skipped.{same_after}
use Rattle.laws.proofs.TimelyStores.{best_from, cut_kept_from}

-- ---- delegations stand under names

named_as : (old new : Stores) → new.delegations ≡ old.delegations → AreNamed old.delegations → AreNamed new.delegations
named_as old new e h = subst AreNamed (sym e) h

module _ (home : Home) (now : ℕ) where
  found_named : (n : Name) (t : ℕ) (old : Stores) (l : Taken) (new : Stores) → Finds home now n t old l new → AreNamed old.delegations → AreNamed new.delegations
  found_named n t old l new f h = by f.is
    where
      by : ((k : Link) × Says home n t (local.Linked k) × (l ≡ local_link n k) × (new ≡ old)) ⊎ ((hit : Hit) × Hits home now n t old l hit new) → AreNamed new.delegations
      by (inl (k, says, is, same)) = named_as old new (ap (λ (x : Stores). x.delegations) same) h
      by (inr (hit, is)) = named_as old new (ap (λ (x : Stores). x.delegations) is.stores) h

  missed_named : (n : Name) (t : ℕ) (old : Stores) (c : Cut) (new : Stores) → Misses home now n t old c new → AreNamed old.delegations → AreNamed new.delegations
  missed_named n t old c new m h = subst (λ (x : Stores). AreNamed x.delegations) (sym m.stores) (λ d k there. h d k (best_from n now old.delegations (d, k) there))

  rule_named : (a b : Point) → Rule home now a b → AreNamed (a.stores).delegations → AreNamed (b.stores).delegations
  rule_named a b (takes l t f u j) h = found_named _ _ a.stores l b.stores f h
  rule_named a b (asks c t m u j) h = missed_named _ _ a.stores c b.stores m h
  rule_named a b (follows l r t is few u j e) h = named_as a.stores b.stores (ap (λ (x : Stores). x.delegations) e) h
  rule_named a b (restarts l d front back t is whole fresh dead u j e) h = named_as a.stores b.stores (ap (λ (x : Stores). x.delegations) e) h
  rule_named a b (skips n s v rest failures t searches passes free u j e) h = named_as a.stores b.stores (ap (λ (x : Stores). x.delegations) e) h
  rule_named a b (hears before around rest n l marks t turn f is u j) h = found_named _ _ a.stores l b.stores f h
  rule_named a b (descends s rest n c t turn m u j) h = missed_named _ _ a.stores c b.stores m h
  rule_named a b (gives_up s around rest t up u j e) h = named_as a.stores b.stores (ap (λ (x : Stores). x.delegations) e) h

  rules_named : (n : ℕ) (a b : Point) → Rules home now n a b → AreNamed (a.stores).delegations → AreNamed (b.stores).delegations
  rules_named zero a b e h = subst (λ (p : Point). AreNamed (p.stores).delegations) (sym e) h
  rules_named (suc n) a b (mid, before, rule) h = rule_named mid b rule (rules_named n a mid before h)

-- A name strictly beneath another one has a label.
beneath_named : (a b : Name) → IsBeneath a b → a ≢ []
beneath_named a b (([], e), apart) none = apart e
beneath_named a b ((l ∷ front, e), apart) none = let both : [] ≡ l ∷ (front ++ b) = sym none ∙ e in cc

pub referral_named : (f q : Name) (t : ℕ) (via : Via) (m : Message) (at : Name) (ns glue : List Record) (ttl : ℕ) → class_of f q t via m ≡ class.Referral at ns glue ttl → at ≢ []
referral_named f q t via m at ns glue ttl e = beneath_named at f ((referral_read f q t m via at ns glue ttl e).0).beneath

module _ (now : ℕ) (server : Addr) (s : Search) (rest : List Search) (j : Job) (stores : Stores) (p : Point) (h : AreNamed stores.delegations) where
  class_named : (via : Via) (m : Message) (c : class.Class) → class_of (s.frame).zone s.name s.kind via m ≡ c → ByClass now server s rest c j stores p → AreNamed (p.stores).delegations
  class_named via m (class.Answer l) e is = answer_named rest is
    where
      answer_named : (around : List Search) → IsAnswered now s around l j stores p → AreNamed (p.stores).delegations
      answer_named [] (task, job, kept) = named_as stores p.stores (ap (λ (x : Stores). x.delegations) kept.stores) h
      answer_named (around ∷ more) (after, marks, task, kept, uses, job) = named_as stores p.stores (ap (λ (x : Stores). x.delegations) kept.stores) h
  class_named via m (class.Referral at ns glue ttl) e is =
      subst (λ (x : Stores). AreNamed x.delegations) (sym is.stored)
      (λ n k there. elim (cut_kept_from stores.delegations_cap (cut_from is.cut ttl now) stores.delegations (n, k) there) [
        | inl was ↦ h n k was
        | inr new ↦ subst (λ (x : Name). x ≢ []) (sym (ap (λ (x : Name × Known). x.0) new.0 ∙ (is.is_cut).owner)) (referral_named (s.frame).zone s.name s.kind via m at ns glue ttl e)
      ])
  class_named via m class.Truncated e is = subst (λ (x : Point). AreNamed (x.stores).delegations) (sym is) h
  class_named via m (class.Failed f) e is = subst (λ (x : Point). AreNamed (x.stores).delegations) (sym is) h

enters_named : (now : ℕ) (input : Input) (j : Job) (stores : Stores) (p : Point) → AreNamed stores.delegations → Enters now input j stores p → AreNamed (p.stores).delegations
enters_named now Start j stores p h is = subst (λ (x : Point). AreNamed (x.stores).delegations) (sym is) h
enters_named now (Told via server m) j stores p h (inl (none, is)) = subst (λ (x : Point). AreNamed (x.stores).delegations) (sym is) h
enters_named now (Told via server m) j stores p h (inr (s, rest, top, is)) =
    class_named now server s rest j (with_told now s server m stores) p h via m (class_of (s.frame).zone s.name s.kind via m) refl is
enters_named now (TimedOut server) j stores p h is = subst (λ (x : Point). AreNamed (x.stores).delegations) (sym is) h
enters_named now (TcpFailed server) j stores p h is = subst (λ (x : Point). AreNamed (x.stores).delegations) (sym is) h

-- ---- what an input does

module _ (now : ℕ) (server : Addr) (s : Search) (j : Job) (stores : Stores) (p q : Point) where
  answer_one : (rest : List Search) (l : Link) → IsAnswered now s rest l j stores p → IsAnswered now s rest l j stores q → p ≡ q
  answer_one [] l (task, job, kept) (task_so, job_so, kept_so) = point_is p _ _ _ task job kept.stores ∙ sym (point_is q _ _ _ task_so job_so kept_so.stores)
  answer_one (around ∷ rest) l (after, marks, task, kept, uses, job) (later, signs, task_so, kept_so, uses_so, job_so) =
      let same : q.stores ≡ p.stores = kept_so.stores ∙ sym kept.stores in
      let alike = subst (λ (x : Stores). UsesServerAddress x s.name (received_link s.name l now).link around j.failed later signs) same uses_so in
      let (e, f) = uses_one p.stores s.name (received_link s.name l now).link around j.failed after later marks signs uses alike in
      point_is p _ _ _ task job kept.stores
      ∙ ((λ i. point Go (record j { searches = e i ∷ rest; failed = f i }) (record stores { cache = cache.after_keep stores.cache_cap s.name s.kind (hit_from l now) stores.cache })) ∙ sym (point_is q _ _ _ task_so job_so kept_so.stores))

  referred_one : (rest : List Search) (at : Name) (ns glue : List Record) (ttl : ℕ) → IsReferred now s rest at ns glue ttl j stores p → IsReferred now s rest at ns glue ttl j stores q → p ≡ q
  referred_one rest at ns glue ttl a b =
      let e = cut_one at ns glue a.cut b.cut a.is_cut b.is_cut in
      point_is p _ _ _ a.task a.job a.stored
      ∙ ((λ i. point Go (record j { searches = with_frame s (opened (level_of stores) (s.frame).nesting (e i)) ∷ rest })
      (record stores { delegations = referral.after_keep stores.delegations_cap (cut_from (e i) ttl now) stores.delegations })) ∙ sym (point_is q _ _ _ b.task b.job b.stored))

  class_one : (rest : List Search) (c : class.Class) → ByClass now server s rest c j stores p → ByClass now server s rest c j stores q → p ≡ q
  class_one rest (class.Answer l) a b = answer_one rest l a b
  class_one rest (class.Referral at ns glue ttl) a b = referred_one rest at ns glue ttl a b
  class_one rest class.Truncated a b = a ∙ sym b
  class_one rest (class.Failed f) a b = a ∙ sym b

abbrev SameStart : ℕ → Input → Job → Stores → Point → Point → Type 0
SameStart now input j stores p q =
    (a : Enters now input j stores p) (b : Enters now input j stores q) → (p ≡ q) × (enters_accepted now input j stores q b ≡ enters_accepted now input j stores p a)

enters_one : (now : ℕ) (input : Input) (j : Job) (stores : Stores) (p q : Point) → SameStart now input j stores p q
enters_one now Start j stores p q a b = (a ∙ sym b, refl)
enters_one now (TimedOut server) j stores p q a b = (a ∙ sym b, refl)
enters_one now (TcpFailed server) j stores p q a b = (a ∙ sym b, refl)
enters_one now (Told via server m) j stores p q (inl (none, a)) (inl (nothing, b)) = (a ∙ sym b, refl)
enters_one now (Told via server m) j stores p q (inl (none, a)) (inr (s, rest, top, b)) = absurd (cc)
enters_one now (Told via server m) j stores p q (inr (s, rest, top, a)) (inl (none, b)) = absurd (cc)
enters_one now (Told via server m) j stores p q (inr (s, rest, top, a)) (inr (t, more, first, b)) =
    let e : s ≡ t = cc in
    let f : rest ≡ more = cc in
    let told : Search → List Search → Type 0 = λ x xs. ByClass now server x xs (class_of (x.frame).zone x.name x.kind via m) j (with_told now x server m stores) q in
    let alike : told s rest = subst (λ (x : Search). told x rest) (sym e) (subst (λ (xs : List Search). told t xs) (sym f) b) in (
      class_one now server s j (with_told now s server m stores) p q rest (class_of (s.frame).zone s.name s.kind via m) a alike,
      ap (λ (x : Search). accepted_by now x (class_of (x.frame).zone x.name x.kind via m)) (sym e),
    )

-- ---- rules, one after another

module _ (home : Home) (now : ℕ) where
  rule_along : (a o b c : Point) → a ≡ o → AreNamed (a.stores).delegations → (r : Rule home now a b) (s : Rule home now o c) → (b ≡ c) × (rule_hits home now a b r ≡ rule_hits home now o c s)
  rule_along a o b c e named r =
      subst (λ (x : Point). (s : Rule home now x c) → (b ≡ c) × (rule_hits home now a b r ≡ rule_hits home now x c s)) e (λ s. rule_one home now a b c named r s)

  abbrev AreSame : (n m : ℕ) (a o b c : Point) → Rules home now n a b → Rules home now m o c → Type 0
  AreSame n m a o b c r s = (b ≡ c) × (rules_hits home now m o c s ≡ rules_hits home now n a b r)

  rules_same : (n : ℕ) (a b c : Point) → AreNamed (a.stores).delegations → (r : Rules home now n a b) (s : Rules home now n a c) → AreSame n n a a b c r s
  rules_same zero a b c named r s = (r ∙ sym s, refl)
  rules_same (suc n) a b c named (mid, before, rule) (other, earlier, last) =
      let (e, hits) = rules_same n a mid other named before earlier in
      let (f, more) = rule_along mid other b c e (rules_named home now n a mid before named) rule last in
      (f, ap₂ (λ (x y : List Question). x ++ y) hits (sym more))

  -- Where more rules apply than so many, one applies after these.
  rules_on : (n m : ℕ) (a b : Point) → n < m → Rules home now m a b → (mid : Point) × (next : Point) × Rules home now n a mid × Rule home now mid next
  rules_on n zero a b lt r = absurd (omega (arith, lt))
  rules_on n (suc m) a b lt (mid, before, rule) = by (λ less. rules_on n m a mid less before) (eq-or-lt_of_le (le_of_suc-le-suc lt))
    where
      On : Type 0
      On = (mid : Point) × (next : Point) × Rules home now n a mid × Rule home now mid next

      by : (n < m → On) → (n ≡ m) ⊎ (n < m) → On
      by more (inl e) = (mid, b, subst (λ (x : ℕ). Rules home now x a mid) (sym e) before, rule)
      by more (inr less) = more less

  not_on : (n m : ℕ) (a b c : Point) (next : Next) (job : Job) (stores : Stores) → n < m → AreNamed (a.stores).delegations → Rules home now n a b → Leaves home now b next job stores → Rules home now m a c → ⊥
  not_on n m a b c next job stores lt named r leaves s =
      let (mid, on, before, rule) = rules_on n m a c lt s in
      let (e, hits) = rules_same n a b mid named r before in
      no_rule_left home now b on next job stores (subst (λ (x : Point). Rule home now x on) (sym e) rule) leaves

  module _ (a b c : Point) (next other : Next) (job also : Job) (stores left : Stores) (named : AreNamed (a.stores).delegations) where
    ends_one : (n m : ℕ) → (r : Rules home now n a b) (s : Rules home now m a c) → Leaves home now b next job stores → Leaves home now c other also left → AreSame n m a a b c r s
    ends_one n m r s leaves ends = by (are_ordered n m)
      where
        by : (n ≡ m) ⊎ ((n < m) ⊎ (m < n)) → AreSame n m a a b c r s
        by (inl e) = subst (λ (x : ℕ). (y : Rules home now x a c) → AreSame n x a a b c r y) e (λ y. rules_same n a b c named r y) s
        by (inr (inl lt)) = absurd (not_on n m a b c next job stores lt named r leaves s)
        by (inr (inr lt)) = absurd (not_on m n a c b other also left lt named s ends r)

    ends_along : (o : Point) → a ≡ o → (n m : ℕ) → (r : Rules home now n a b) (s : Rules home now m o c) → Leaves home now b next job stores → Leaves home now c other also left → AreSame n m a o b c r s
    ends_along o e n m r s leaves ends = subst (λ (x : Point). (y : Rules home now m x c) → AreSame n m a x b c r y) e (λ y. ends_one n m r y leaves ends) s

pub one_call : OneCall
one_call home now input old stores next other new also after left named a b =
    let (e, accepted) = enters_one now input old stores a.first b.first a.enters b.enters in
    let named_first = enters_named now input old stores a.first named a.enters in
    let (f, hits) = ends_along home now a.first a.last b.last next other new also after left named_first b.first e a.count b.count a.rules b.rules a.leaves b.leaves in
    let (g, jobs) = leaves_one home now a.last next other new also after left a.leaves (subst (λ (x : Point). Leaves home now x other also left) (sym f) b.leaves) in (
      sym g,
      same_after home now b.last other also left b.leaves ∙ (ap (λ (x : Point). x.stores) (sym f) ∙ sym (same_after home now a.last next new after a.leaves)),
      λ is. sym (jobs is),
      λ i. record { accepted = accepted i; hits = hits i },
    )
