-- What a call does to the failures that are kept: none begins or ends to live, so that whom a search asks next stays.
use Rattle.std.proofs.Common.{◌≡◌, ℕ, zero, suc, refl, ap, ◌∙◌, subst}
use Rattle.cache.specs.Failures.{FailedAsk, is_failed}
use Rattle.resolution.specs.Jobs.{Home, Stores, Search, ask_of, fails_now, left_of, next_server, Job, Next, Point}
use Rattle.resolution.specs.Rules.{Rule, takes, asks, follows, restarts, skips, hears, descends, gives_up, Rules, Leaves, sends, sends_again, refuses, spent, looked_out, nowhere, too_long, done}
use Rattle.resolution.proofs.Passing.{passes_fails, found_failures, missed_failures, same_first}

module _ (home : Home) (now : ℕ) where
  -- The first rule of some.
  pub rules_front : (n : ℕ) (a b : Point) → Rules home now (suc n) a b → (mid : Point) × Rule home now a mid × Rules home now n mid b
  rules_front zero a b (mid, e, rule) = (b, subst (λ (p : Point). Rule home now p b) e rule, refl)
  rules_front (suc n) a b (mid, before, rule) = let (x, first, more) = rules_front n a mid before in (x, first, (mid, more, rule))

  pub same_after : (p : Point) (next : Next) (new : Job) (after : Stores) → Leaves home now p next new after → after ≡ p.stores
  same_after p next new after (sends x y others is may n j e) = e
  same_after p next new after (sends_again x y others is may n j e) = e
  same_after p next new after (refuses c x y others is refused n e) = e
  same_after p next new after (spent x t up n e) = e
  same_after p next new after (looked_out x others m t out n e) = e
  same_after p next new after (nowhere t none n e) = e
  same_after p next new after (too_long l r t is long n e) = e
  same_after p next new after (done l t is fresh n e) = e

  abbrev Alike : Stores → Stores → Type 0
  Alike old new = (later : ℕ) (k : FailedAsk) → is_failed later k new.failures ≡ is_failed later k old.failures

  alike : (old new : Stores) → new.failures ≡ old.failures → Alike old new
  alike old new e later k = ap (is_failed later k) e

  rule_fails : (a b : Point) → Rule home now a b → Alike a.stores b.stores
  rule_fails a b (takes l t f u j) = alike a.stores b.stores (found_failures home now _ _ a.stores l b.stores f)
  rule_fails a b (asks c t m u j) = alike a.stores b.stores (missed_failures home now _ _ a.stores c b.stores m)
  rule_fails a b (follows l r t is few u j e) = alike a.stores b.stores (ap (λ (s : Stores). s.failures) e)
  rule_fails a b (restarts l d front back t is whole fresh dead u j e) = alike a.stores b.stores (ap (λ (s : Stores). s.failures) e)
  rule_fails a b (skips n s u rest failures t searches passes free v j e) =
      λ later k. ap (λ (x : Stores). is_failed later k x.failures) e ∙ passes_fails now (suc n) s (a.stores).failures u failures passes later k
  rule_fails a b (hears before around rest n l marks t turn f h u j) = alike a.stores b.stores (found_failures home now _ _ a.stores l b.stores f)
  rule_fails a b (descends s rest n c t turn m u j) = alike a.stores b.stores (missed_failures home now _ _ a.stores c b.stores m)
  rule_fails a b (gives_up s around rest t up u j e) = alike a.stores b.stores (ap (λ (s : Stores). s.failures) e)

  rules_fail : (n : ℕ) (a b : Point) → Rules home now n a b → Alike a.stores b.stores
  rules_fail zero a b e = alike a.stores b.stores (ap (λ (p : Point). (p.stores).failures) e)
  rules_fail (suc n) a b (mid, more, rule) = λ later k. rule_fails mid b rule later k ∙ rules_fail n a mid more later k

  -- By the stores as a call leaves them a search asks next whom it asks by those at a point on the way.
  module _ (p last : Point) (count : ℕ) (next : Next) (new : Job) (after : Stores) (rules : Rules home now count p last) (leaves : Leaves home now last next new after) where
    pub fails_at : (later : ℕ) (k : FailedAsk) → is_failed later k after.failures ≡ is_failed later k (p.stores).failures
    fails_at later k = ap (λ (x : Stores). is_failed later k x.failures) (same_after last next new after leaves) ∙ rules_fail count p last rules later k

    pub next_at : (s : Search) → next_server now after.failures s ≡ next_server now (p.stores).failures s
    next_at s = same_first (fails_now now after.failures s) (fails_now now (p.stores).failures s) (left_of (s.frame).plan) (λ a. fails_at now (ask_of s a))
