-- One ask more goes out for a query, before its deadline and where fewer than 40 did.
use Rattle.std.proofs.Common.{◌≡◌, ℕ, zero, suc, ◌+◌, ◌<◌, inl, inr, List, [], ◌∷◌, refl, ap, ◌∙◌, subst}
use Rattle.rdata.specs.declared.addr.Addr.{Addr}
use Rattle.zone.specs.Links.{Link}
use Rattle.classify.specs.Classes as class
use Rattle.classify.specs.Classes.{class_of}
use Rattle.resolution.specs.Jobs.{Home, Stores, with_told, Search, Job, Input, Start, Told, TimedOut, TcpFailed, Next, MaySend, Point}
use Rattle.resolution.specs.Rules.{Rule, takes, asks, follows, restarts, skips, hears, descends, gives_up, Rules, IsAnswered, ByClass, Enters, Leaves, sends, sends_again, refuses, spent, looked_out, nowhere, too_long, done, Advances}
use Rattle.runs.specs.Steps.{IsAsk}

-- The same number of asks, and the same deadline.
pub record SameTime (j k : Job) : Type 0 where
  pub asks : k.asks ≡ j.asks
  pub deadline : k.deadline ≡ j.deadline

same_job : (j k l : Job) → k ≡ l → l.asks ≡ j.asks → l.deadline ≡ j.deadline → SameTime j k
same_job j k l e a d = record { asks = ap (λ (x : Job). x.asks) e ∙ a; deadline = ap (λ (x : Job). x.deadline) e ∙ d }

pub both : (i j k : Job) → SameTime i j → SameTime j k → SameTime i k
both i j k a b = record { asks = b.asks ∙ a.asks; deadline = b.deadline ∙ a.deadline }

module _ (home : Home) (now : ℕ) where
  rule_keeps : (a b : Point) → Rule home now a b → SameTime a.job b.job
  rule_keeps a b (takes l t f u j) = same_job a.job b.job _ j refl refl
  rule_keeps a b (asks c t m u j) = same_job a.job b.job _ j refl refl
  rule_keeps a b (follows l r t is few u j e) = same_job a.job b.job _ j refl refl
  rule_keeps a b (restarts l d front back t is whole fresh dead u j e) = same_job a.job b.job _ j refl refl
  rule_keeps a b (skips n s u rest failures t searches passes free v j e) = same_job a.job b.job _ j refl refl
  rule_keeps a b (hears before around rest n l marks t turn f h u j) = same_job a.job b.job _ j refl refl
  rule_keeps a b (descends s rest n c t turn m u j) = same_job a.job b.job _ j refl refl
  rule_keeps a b (gives_up s around rest t up u j e) = same_job a.job b.job _ j refl refl

  pub rules_keep : (n : ℕ) (a b : Point) → Rules home now n a b → SameTime a.job b.job
  rules_keep zero a b e = same_job a.job b.job _ (ap (λ (p : Point). p.job) e) refl refl
  rules_keep (suc n) a b (mid, more, rule) = both a.job mid.job b.job (rules_keep n a mid more) (rule_keeps mid b rule)

answered_keeps : (now : ℕ) (s : Search) (rest : List Search) (l : Link) (j : Job) (stores : Stores) (p : Point) → IsAnswered now s rest l j stores p → SameTime j p.job
answered_keeps now s [] l j stores p (task, job, learnt) = same_job j p.job _ job refl refl
answered_keeps now s (around ∷ rest) l j stores p (after, marks, task, learnt, heard, job) = same_job j p.job _ job refl refl

class_keeps : (now : ℕ) (server : Addr) (s : Search) (rest : List Search) (c : class.Class) (j : Job) (stores : Stores) (p : Point) → ByClass now server s rest c j stores p → SameTime j p.job
class_keeps now server s rest (class.Answer l) j stores p h = answered_keeps now s rest l j stores p h
class_keeps now server s rest (class.Referral at ns glue ttl) j stores p h = same_job j p.job _ h.job refl refl
class_keeps now server s rest class.Truncated j stores p h = same_job j p.job _ (ap (λ (x : Point). x.job) h) refl refl
class_keeps now server s rest (class.Failed f) j stores p h = same_job j p.job _ (ap (λ (x : Point). x.job) h) refl refl

pub enters_keep : (now : ℕ) (input : Input) (j : Job) (stores : Stores) (p : Point) → Enters now input j stores p → SameTime j p.job
enters_keep now Start j stores p h = same_job j p.job _ (ap (λ (x : Point). x.job) h) refl refl
enters_keep now (Told via server m) j stores p (inl (none, h)) = same_job j p.job _ (ap (λ (x : Point). x.job) h) refl refl
enters_keep now (Told via server m) j stores p (inr (s, rest, is, h)) =
    class_keeps now server s rest (class_of (s.frame).zone s.name s.kind via m) j (with_told now s server m stores) p h
enters_keep now (TimedOut server) j stores p h = same_job j p.job _ (ap (λ (x : Point). x.job) h) refl refl
enters_keep now (TcpFailed server) j stores p h = same_job j p.job _ (ap (λ (x : Point). x.job) h) refl refl

-- What a call that asks says of the job.
pub record OneMore (now : ℕ) (old new : Job) : Type 0 where
  pub few : old.asks < 40
  pub early : now < old.deadline
  pub asks : new.asks ≡ old.asks + 1
  pub deadline : new.deadline ≡ old.deadline

one_more : (now : ℕ) (old mid new : Job) → SameTime old mid → MaySend now mid → new.asks ≡ mid.asks + 1 → new.deadline ≡ mid.deadline → OneMore now old new
one_more now old mid new same may a d = record {
  few = subst (λ (n : ℕ). n < 40) same.asks may.few;
  early = subst (λ (n : ℕ). now < n) same.deadline may.early;
  asks = a ∙ ap (λ (n : ℕ). n + 1) same.asks;
  deadline = d ∙ same.deadline;
}

asks_leave : (home : Home) (now : ℕ) (old : Job) (p : Point) (next : Next) (new : Job) (after : Stores) → SameTime old p.job → Leaves home now p next new after → IsAsk next → OneMore now old new
asks_leave home now old p next new after same (sends x y others is may n j e) asking = one_more now old p.job new same may (ap (λ (k : Job). k.asks) j) (ap (λ (k : Job). k.deadline) j)
asks_leave home now old p next new after same (sends_again x y others is may n j e) asking = one_more now old p.job new same may (ap (λ (k : Job). k.asks) j) (ap (λ (k : Job). k.deadline) j)
asks_leave home now old p next new after same (refuses c x y others is refused n e) asking = absurd (subst IsAsk n asking)
asks_leave home now old p next new after same (spent x t up n e) asking = absurd (subst IsAsk n asking)
asks_leave home now old p next new after same (looked_out x others m t out n e) asking = absurd (subst IsAsk n asking)
asks_leave home now old p next new after same (nowhere t none n e) asking = absurd (subst IsAsk n asking)
asks_leave home now old p next new after same (too_long l r t is long n e) asking = absurd (subst IsAsk n asking)
asks_leave home now old p next new after same (done l t is fresh n e) asking = absurd (subst IsAsk n asking)

pub call_asks : (home : Home) (now : ℕ) (input : Input) (old : Job) (stores : Stores) (next : Next) (new : Job) (after : Stores) → Advances home now input old stores next new after → IsAsk next → OneMore now old new
call_asks home now input old stores next new after call asking =
    asks_leave home now old call.last next new after
    (both old (call.first).job (call.last).job (enters_keep now input old stores call.first call.enters) (rules_keep home now call.count call.first call.last call.rules))
    call.leaves asking
