-- What one call may bring into the stores, what was accepted, and take from them, what a keep of that pushes out.
use Rattle.std.proofs.Common.{◌≡◌, ℕ, zero, suc, Bool, true, false, cond, inl, inr, ◌⊎◌, Option, Some, None, List, [], ◌∷◌, refl, sym, ap, subst}
use Rattle.std.specs.Prelude.{Contains}
use Rattle.dname.specs.Labels.{Name}
use Rattle.rdata.specs.declared.addr.Addr.{Addr}
use Rattle.zone.specs.Links.{Link}
use Rattle.message_grammar.specs.Messages.{Message}
use Rattle.wire.specs.declared.via.Via.{Via}
use Rattle.classify.specs.Classes as class
use Rattle.classify.specs.Classes.{class_of}
use Rattle.lru_laws.specs.Orders.{KeepsOnly, LosesOnly, HasSame}
use Rattle.referral.specs.Cuts.{Cut}
use Rattle.referral.specs.Cuts as held
use Rattle.referral.proofs.Members as cuts
use Rattle.cache.specs.Keys.{Key}
use Rattle.cache.specs.Cached.{Hit, Question, lent}
use Rattle.cache.specs.Cached as kept
use Rattle.cache.proofs.Members as cache
use Rattle.cache.specs.Failures.{FailedAsk, after_failed}
use Rattle.cache.proofs.Failed.{failed_members, failed_lost}
use Rattle.resolution.specs.Jobs.{Home, Stores, with_answer, with_told, is_server_failure, Taken, Search, ask_of, Job, Input, Start, Told, TimedOut, TcpFailed, Next, Point, hit_from, cut_from}
use Rattle.resolution.specs.Rules.{asked_of, Finds, Hits, Misses, PassesOver, Rule, takes, asks, follows, restarts, skips, hears, descends, gives_up, Rules, KeepsAnswer, ByClass, Enters, Leaves, sends, sends_again, refuses, spent, looked_out, nowhere, too_long, done, Advances, IsTakenEntry, IsTakenCut, IsLostEntry, IsLostCut, IsTakenFailure, IsLostFailure, BringsOnly}
use Rattle.resolution.specs.Stops.{EntersInPart, looked_up_by, after_look_up, IsPart, untouched, looked, passed, Stops, in_input, in_rule}
use Rattle.resolution.proofs.Passing.{passes_members}

still_only : {X : Type 0} (old mid new : List X) (P : X → Type 0) → KeepsOnly old P mid → HasSame mid new → KeepsOnly old P new
still_only old mid new P keeps same x m = keeps x (same.0 x m)

still_loses : {X : Type 0} (old mid new : List X) (P : X → Type 0) → LosesOnly old P mid → HasSame mid new → LosesOnly old P new
still_loses old mid new P loses same x there = elim (loses x there) as (λ y. Contains new x ⊎ P x) [ inl stays ↦ inl (same.1 x stays) | inr goes ↦ inr goes ]

module _ (input : Input) (now : ℕ) (j : Job) (stores : Stores) where
  same_bring : (mid new : Stores) → new ≡ mid → BringsOnly input now j stores mid → BringsOnly input now j stores new
  same_bring mid new is h = subst (BringsOnly input now j stores) (sym is) h

  finds_bring : (home : Home) (n : Name) (t : ℕ) (mid : Stores) (l : Taken) (new : Stores) → Finds home now n t mid l new → BringsOnly input now j stores mid → BringsOnly input now j stores new
  finds_bring home n t mid l new finds h = elim finds.is as (λ x. BringsOnly input now j stores new) [ inl x ↦ same_bring mid new x.3 h | inr x ↦ hit x.0 x.1 ]
    where
      hit : (e : Hit) → Hits home now n t mid l e new → BringsOnly input now j stores new
      hit e x = subst (BringsOnly input now j stores) (sym x.stores) (record {
        cache = still_only stores.cache mid.cache _ _ h.cache (cache.looked_members (asked_of home n t) now mid.cache);
        cache_lost = still_loses stores.cache mid.cache _ _ h.cache_lost (cache.looked_members (asked_of home n t) now mid.cache);
        delegations = h.delegations;
        delegations_lost = h.delegations_lost;
        penalties = h.penalties;
        cache_cap = h.cache_cap;
        delegations_cap = h.delegations_cap;
        penalties_cap = h.penalties_cap;
        failures = h.failures;
        failures_lost = h.failures_lost;
        failures_cap = h.failures_cap;
      })

  misses_bring : (home : Home) (n : Name) (t : ℕ) (mid : Stores) (c : Cut) (new : Stores) → Misses home now n t mid c new → BringsOnly input now j stores mid → BringsOnly input now j stores new
  misses_bring home n t mid c new misses h = subst (BringsOnly input now j stores) (sym misses.stores) (record {
    cache = h.cache;
    cache_lost = h.cache_lost;
    delegations = still_only stores.delegations mid.delegations _ _ h.delegations (cuts.looked_members n now mid.delegations);
    delegations_lost = still_loses stores.delegations mid.delegations _ _ h.delegations_lost (cuts.looked_members n now mid.delegations);
    penalties = h.penalties;
    cache_cap = h.cache_cap;
    delegations_cap = h.delegations_cap;
    penalties_cap = h.penalties_cap;
    failures = h.failures;
    failures_lost = h.failures_lost;
    failures_cap = h.failures_cap;
  })

  passes_bring : (n : ℕ) (s t : Search) (gs : List (FailedAsk × ℕ)) (mid new : Stores) → PassesOver now n s mid.failures t gs → new ≡ record mid { failures = gs } → BringsOnly input now j stores mid → BringsOnly input now j stores new
  passes_bring n s t gs mid new passes is h = subst (BringsOnly input now j stores) (sym is) (record {
    cache = h.cache;
    cache_lost = h.cache_lost;
    delegations = h.delegations;
    delegations_lost = h.delegations_lost;
    penalties = h.penalties;
    failures = still_only stores.failures mid.failures gs _ h.failures (passes_members now n s mid.failures t gs passes);
    failures_lost = still_loses stores.failures mid.failures gs _ h.failures_lost (passes_members now n s mid.failures t gs passes);
    cache_cap = h.cache_cap;
    delegations_cap = h.delegations_cap;
    penalties_cap = h.penalties_cap;
    failures_cap = h.failures_cap;
  })

  rule_bring : (home : Home) (a b : Point) → Rule home now a b → BringsOnly input now j stores a.stores → BringsOnly input now j stores b.stores
  rule_bring home a b (takes l at finds to job) h = finds_bring home _ _ a.stores l b.stores finds h
  rule_bring home a b (asks c at misses to job) h = misses_bring home _ _ a.stores c b.stores misses h
  rule_bring home a b (follows l r at alias few to job is) h = same_bring a.stores b.stores is h
  rule_bring home a b (restarts l d front back at ending split alive dead to job is) h = same_bring a.stores b.stores is h
  rule_bring home a b (skips n s t rest failures at searches passes free to job is) h = passes_bring (suc n) s t failures a.stores b.stores passes is h
  rule_bring home a b (hears before after rest n l marks at turn finds heard to job) h = finds_bring home _ _ a.stores l b.stores finds h
  rule_bring home a b (descends s rest n c at turn misses to job) h = misses_bring home _ _ a.stores c b.stores misses h
  rule_bring home a b (gives_up s around rest at up to job is) h = same_bring a.stores b.stores is h

  rules_bring : (home : Home) (n : ℕ) (a b : Point) → Rules home now n a b → BringsOnly input now j stores a.stores → BringsOnly input now j stores b.stores
  rules_bring home zero a b is h = same_bring a.stores b.stores (ap (λ (p : Point). p.stores) is) h
  rules_bring home (suc n) a b (mid, rules, rule) h = rule_bring home mid b rule (rules_bring home n a mid rules h)

-- What comes in.
module _ (now : ℕ) (j : Job) (stores : Stores) where
  pub answer_bring : (server : Addr) (via : Via) (m : Message) → BringsOnly (Told via server m) now j stores (with_answer stores server)
  answer_bring server via m = record {
    cache = λ e there. inl there;
    cache_lost = λ e there. inl there;
    delegations = λ e there. inl there;
    delegations_lost = λ e there. inl there;
    penalties = inr refl;
    failures = λ e there. inl there;
    failures_lost = λ e there. inl there;
    cache_cap = refl;
    delegations_cap = refl;
    penalties_cap = refl;
    failures_cap = refl;
  }

  module _ (server : Addr) (via : Via) (m : Message) (s : Search) (rest : List Search) (searches : j.searches ≡ s ∷ rest) where
    pub told_only : KeepsOnly stores.failures (IsTakenFailure j (Told via server m) now) (with_told now s server m stores).failures
    told_only = by (is_server_failure m) refl
      where
        by : (b : Bool) → is_server_failure m ≡ b → KeepsOnly stores.failures (IsTakenFailure j (Told via server m) now) (cond b (after_failed stores.failures_cap (ask_of s server) now stores.failures) stores.failures)
        by true fails e there = elim (failed_members stores.failures_cap (ask_of s server) now stores.failures e there) [ inl old ↦ inl old | inr is ↦ inr (s, server, ((rest, searches), refl, fails), is) ]
        by false fails e there = inl there

    pub told_lost : LosesOnly stores.failures (IsLostFailure j (Told via server m) stores) (with_told now s server m stores).failures
    told_lost = by (is_server_failure m) refl
      where
        by : (b : Bool) → is_server_failure m ≡ b → LosesOnly stores.failures (IsLostFailure j (Told via server m) stores) (cond b (after_failed stores.failures_cap (ask_of s server) now stores.failures) stores.failures)
        by true fails e there = elim (failed_lost stores.failures_cap (ask_of s server) now stores.failures e there) [ inl stays ↦ inl stays | inr gone ↦ inr (s, server, ((rest, searches), refl, fails), gone) ]
        by false fails e there = inl there

    pub told_bring : BringsOnly (Told via server m) now j stores (with_told now s server m stores)
    told_bring = record {
      cache = λ e there. inl there;
      cache_lost = λ e there. inl there;
      delegations = λ e there. inl there;
      delegations_lost = λ e there. inl there;
      penalties = inr refl;
      failures = told_only;
      failures_lost = told_lost;
      cache_cap = refl;
      delegations_cap = refl;
      penalties_cap = refl;
      failures_cap = refl;
    }

  pub learnt_bring : (server : Addr) (via : Via) (m : Message) (s : Search) (rest : List Search) (l : Link) (new : Stores) → j.searches ≡ s ∷ rest
      → class_of (s.frame).zone s.name s.kind via m ≡ class.Answer l → KeepsAnswer now s l (with_told now s server m stores) new → BringsOnly (Told via server m) now j stores new
  learnt_bring server via m s rest l new searches is learnt = subst (BringsOnly (Told via server m) now j stores) (sym learnt.stores) (record {
    cache = λ e there. elim (cache.kept_members stores.cache_cap s.name s.kind (hit_from l now) stores.cache e there) as (λ x. Contains stores.cache e ⊎ IsTakenEntry j (Told via server m) now e) [
      | inl old ↦ inl old
      | inr kept ↦ inr (s, l, ((rest, searches), is), kept)
    ];
    cache_lost = λ e there. elim (cache.lost_members stores.cache_cap s.name s.kind (hit_from l now) stores.cache e there) as (λ x. Contains (kept.after_keep stores.cache_cap s.name s.kind (hit_from l now) stores.cache) e ⊎ IsLostEntry j (Told via server m) now stores e) [
      | inl stays ↦ inl stays
      | inr gone ↦ inr (s, l, ((rest, searches), is), gone)
    ];
    delegations = λ e there. inl there;
    delegations_lost = λ e there. inl there;
    penalties = inr refl;
    failures = told_only server via m s rest searches;
    failures_lost = told_lost server via m s rest searches;
    cache_cap = refl;
    delegations_cap = refl;
    penalties_cap = refl;
    failures_cap = refl;
  })

  class_bring : (server : Addr) (via : Via) (m : Message) (s : Search) (rest : List Search) (c : class.Class) (p : Point) → j.searches ≡ s ∷ rest
      → class_of (s.frame).zone s.name s.kind via m ≡ c → ByClass now server s rest c j (with_told now s server m stores) p → BringsOnly (Told via server m) now j stores p.stores
  class_bring server via m s [] (class.Answer l) p searches is (task, job, learnt) = learnt_bring server via m s [] l p.stores searches is learnt
  class_bring server via m s (around ∷ rest) (class.Answer l) p searches is (after, marks, task, learnt, heard, job) = learnt_bring server via m s (around ∷ rest) l p.stores searches is learnt
  class_bring server via m s rest (class.Referral at ns glue ttl) p searches is refers = subst (BringsOnly (Told via server m) now j stores) (sym refers.stored) (record {
    cache = λ e there. inl there;
    cache_lost = λ e there. inl there;
    delegations = λ e there. elim (cuts.kept_members stores.delegations_cap (cut_from refers.cut ttl now) stores.delegations e there) as (λ x. Contains stores.delegations e ⊎ IsTakenCut j (Told via server m) now e) [
      | inl old ↦ inl old
      | inr kept ↦ inr (s, at, ns, glue, ttl, refers.cut, ((rest, searches), is), refers.is_cut, kept)
    ];
    delegations_lost = λ e there. elim (cuts.lost_members stores.delegations_cap (cut_from refers.cut ttl now) stores.delegations e there)
        as (λ x. Contains (held.after_keep stores.delegations_cap (cut_from refers.cut ttl now) stores.delegations) e ⊎ IsLostCut j (Told via server m) now stores e) [
          | inl stays ↦ inl stays
          | inr gone ↦ inr (s, at, ns, glue, ttl, refers.cut, ((rest, searches), is), refers.is_cut, gone)
        ];
    penalties = inr refl;
    failures = told_only server via m s rest searches;
    failures_lost = told_lost server via m s rest searches;
    cache_cap = refl;
    delegations_cap = refl;
    penalties_cap = refl;
    failures_cap = refl;
  })
  class_bring server via m s rest class.Truncated p searches is same = subst (BringsOnly (Told via server m) now j stores) (sym (ap (λ (x : Point). x.stores) same)) (told_bring server via m s rest searches)
  class_bring server via m s rest (class.Failed f) p searches is same = subst (BringsOnly (Told via server m) now j stores) (sym (ap (λ (x : Point). x.stores) same)) (told_bring server via m s rest searches)

  pub enters_bring : (input : Input) (p : Point) → Enters now input j stores p → BringsOnly input now j stores p.stores
  enters_bring Start p is = subst (BringsOnly Start now j stores) (sym (ap (λ (x : Point). x.stores) is)) (record {
    cache = λ e there. inl there;
    cache_lost = λ e there. inl there;
    delegations = λ e there. inl there;
    delegations_lost = λ e there. inl there;
    penalties = inl refl;
    failures = λ e there. inl there;
    failures_lost = λ e there. inl there;
    cache_cap = refl;
    delegations_cap = refl;
    penalties_cap = refl;
    failures_cap = refl;
  })
  enters_bring (Told via server m) p (inl (free, is)) = subst (BringsOnly (Told via server m) now j stores) (sym (ap (λ (x : Point). x.stores) is)) (answer_bring server via m)
  enters_bring (Told via server m) p (inr (s, rest, searches, by)) = class_bring server via m s rest (class_of (s.frame).zone s.name s.kind via m) p searches refl by
  enters_bring (TimedOut server) p is = subst (BringsOnly (TimedOut server) now j stores) (sym (ap (λ (x : Point). x.stores) is)) (record {
    cache = λ e there. inl there;
    cache_lost = λ e there. inl there;
    delegations = λ e there. inl there;
    delegations_lost = λ e there. inl there;
    penalties = inr refl;
    failures = λ e there. inl there;
    failures_lost = λ e there. inl there;
    cache_cap = refl;
    delegations_cap = refl;
    penalties_cap = refl;
    failures_cap = refl;
  })
  enters_bring (TcpFailed server) p is = subst (BringsOnly (TcpFailed server) now j stores) (sym (ap (λ (x : Point). x.stores) is)) (record {
    cache = λ e there. inl there;
    cache_lost = λ e there. inl there;
    delegations = λ e there. inl there;
    delegations_lost = λ e there. inl there;
    penalties = inr refl;
    failures = λ e there. inl there;
    failures_lost = λ e there. inl there;
    cache_cap = refl;
    delegations_cap = refl;
    penalties_cap = refl;
    failures_cap = refl;
  })

-- ---- where memory ran out

looked_bring : (input : Input) (now : ℕ) (j : Job) (stores : Stores) (a : Question) (mid : Stores) → BringsOnly input now j stores mid → BringsOnly input now j stores (after_look_up a now mid)
looked_bring input now j stores a mid h = by (lent a now mid.cache) refl
  where
    by : (found : Option (Key × Hit)) → lent a now mid.cache ≡ found → BringsOnly input now j stores (looked_up_by found a.name now mid)
    by (Some e) is = record {
      cache = still_only stores.cache mid.cache _ _ h.cache (same e is);
      cache_lost = still_loses stores.cache mid.cache _ _ h.cache_lost (same e is);
      delegations = h.delegations;
      delegations_lost = h.delegations_lost;
      penalties = h.penalties;
      failures = h.failures;
      failures_lost = h.failures_lost;
      cache_cap = h.cache_cap;
      delegations_cap = h.delegations_cap;
      penalties_cap = h.penalties_cap;
      failures_cap = h.failures_cap;
    }
      where
        same : (e : Key × Hit) → lent a now mid.cache ≡ Some e → HasSame mid.cache (kept.moved (Some e) mid.cache)
        same e is = subst (λ (x : Option (Key × Hit)). HasSame mid.cache (kept.moved x mid.cache)) is (cache.looked_members a now mid.cache)
    by None is = record {
      cache = h.cache;
      cache_lost = h.cache_lost;
      delegations = still_only stores.delegations mid.delegations _ _ h.delegations (cuts.looked_members a.name now mid.delegations);
      delegations_lost = still_loses stores.delegations mid.delegations _ _ h.delegations_lost (cuts.looked_members a.name now mid.delegations);
      penalties = h.penalties;
      failures = h.failures;
      failures_lost = h.failures_lost;
      cache_cap = h.cache_cap;
      delegations_cap = h.delegations_cap;
      penalties_cap = h.penalties_cap;
      failures_cap = h.failures_cap;
    }

part_bring : (input : Input) (now : ℕ) (j : Job) (stores : Stores) (home : Home) (p : Point) (after : Stores) → IsPart home now p after → BringsOnly input now j stores p.stores → BringsOnly input now j stores after
part_bring input now j stores home p after (untouched is) h = same_bring input now j stores p.stores after is h
part_bring input now j stores home p after (looked n t at remote is) h = subst (BringsOnly input now j stores) (sym is) (looked_bring input now j stores (asked_of home n t) p.stores h)
part_bring input now j stores home p after (passed n s t rest failures at searches passes is) h = passes_bring input now j stores n s t failures p.stores after passes is h

started_bring : (now : ℕ) (input : Input) (j : Job) (stores : Stores) → BringsOnly input now j stores stores
started_bring now input j stores = record {
  cache = λ e there. inl there;
  cache_lost = λ e there. inl there;
  delegations = λ e there. inl there;
  delegations_lost = λ e there. inl there;
  penalties = inl refl;
  failures = λ e there. inl there;
  failures_lost = λ e there. inl there;
  cache_cap = refl;
  delegations_cap = refl;
  penalties_cap = refl;
  failures_cap = refl;
}

input_bring : (now : ℕ) (input : Input) (j : Job) (stores after : Stores) → EntersInPart now input j stores after → BringsOnly input now j stores after
input_bring now Start j stores after is = subst (BringsOnly Start now j stores) (sym is) (started_bring now Start j stores)
input_bring now (Told via server m) j stores after (inl is) = subst (BringsOnly (Told via server m) now j stores) (sym is) (answer_bring now j stores server via m)
input_bring now (Told via server m) j stores after (inr (s, rest, searches, inl is)) = subst (BringsOnly (Told via server m) now j stores) (sym is) (told_bring now j stores server via m s rest searches)
input_bring now (Told via server m) j stores after (inr (s, rest, searches, inr (l, is, keeps))) = learnt_bring now j stores server via m s rest l after searches is keeps
input_bring now (TimedOut server) j stores after is = subst (BringsOnly (TimedOut server) now j stores) (sym is) (started_bring now (TimedOut server) j stores)
input_bring now (TcpFailed server) j stores after is = subst (BringsOnly (TcpFailed server) now j stores) (sym is) (started_bring now (TcpFailed server) j stores)

pub stops_bring : (home : Home) (now : ℕ) (input : Input) (old : Job) (stores after : Stores) → Stops home now input old stores after → BringsOnly input now old stores after
stops_bring home now input old stores after (in_input part) = input_bring now input old stores after part
stops_bring home now input old stores after (in_rule first last count enters rules part) =
    part_bring input now old stores home last after part (rules_bring input now old stores home count first last rules (enters_bring now old stores input first enters))

-- ---- a whole call

left_as : (home : Home) (now : ℕ) (p : Point) (next : Next) (job : Job) (after : Stores) → Leaves home now p next job after → after ≡ p.stores
left_as home now p next job after (sends server s rest due may next_is job_is is) = is
left_as home now p next job after (sends_again server s rest due may next_is job_is is) = is
left_as home now p next job after (refuses c server s rest due refused next_is is) = is
left_as home now p next job after (spent s at up next_is is) = is
left_as home now p next job after (looked_out s rest n at out next_is is) = is
left_as home now p next job after (nowhere at free next_is is) = is
left_as home now p next job after (too_long l r at alias many next_is is) = is
left_as home now p next job after (done l at ending fresh next_is is) = is

pub advances_stop : (home : Home) (now : ℕ) (input : Input) (old : Job) (stores : Stores) (next : Next) (new : Job) (after : Stores) → Advances home now input old stores next new after
    → Stops home now input old stores after
advances_stop home now input old stores next new after h = in_rule h.first h.last h.count h.enters h.rules (untouched (left_as home now h.last next new after h.leaves))
