-- Turns of servers' names are counted, and no query has more than 64.
use Rattle.std.proofs.Common.{◌≡◌, ℕ, zero, suc, ◌+◌, ◌≤◌, ◌<◌, inl, inr, Bool, true, false, cond, Option, Some, None, List, [], ◌∷◌, Contains, refl, sym, ap, ◌∙◌, subst, arith}
use Rattle.lru.proofs.Splits.{Contains-nil}
use Rattle.lru_laws.proofs.Kept.{by_test}
use Rattle.rdata.specs.declared.addr.Addr.{Addr}
use Rattle.zone.specs.Links.{Link}
use Rattle.causes.specs.declared.cause.Cause.TheVariants as cause
use Rattle.classify.specs.Classes as class
use Rattle.classify.specs.Classes.{class_of}
use Rattle.resolution.specs.Jobs.{Home, Stores, with_told, Search, Job, Input, Start, Told, TimedOut, TcpFailed, Next, Fail, Point}
use Rattle.resolution.specs.Rules.{Rule, takes, asks, follows, restarts, skips, hears, descends, gives_up, Rules, IsAnswered, ByClass, Enters, MayNotSend, spent_cause, Leaves, sends, sends_again, refuses, spent, looked_out, nowhere, too_long, done}
use Rattle.runs.specs.States.{Served, Nobody, Own, OpenQuery, Turn, Open, Site, State, moved}
use Rattle.runs.specs.Steps.{IsAsk, Step}
use Rattle.runs.specs.Runs.{Run, is_for}
use Rattle.laws.specs.Opens.{Call, step_call}
use Rattle.laws.specs.LookUps.{rule_look_ups, rules_look_ups, call_look_ups, step_look_ups, look_ups_of, look_ups_by, FewLookUps, LookUpsAreSpent, HasLookedUp}
use Rattle.laws.proofs.OrderlyLists.{is_for_it, is_for_other, is_for_true}
use Rattle.laws.proofs.Orders.{IsStep, one_step, run_orderly}
use Rattle.laws.proofs.Served.{IsNewJob, IsJobOf, BeginsWith, is_ask, IsCallOf, step_calls}

-- ---- one call

abbrev counter : Job → ℕ
counter j = j.look_ups

plus_none : (m n : ℕ) → m ≡ n → m ≡ n + 0
plus_none m n e = omega (arith, e)

module _ (home : Home) (now : ℕ) where
  rule_counts : (a b : Point) → (r : Rule home now a b) → (b.job).look_ups ≡ (a.job).look_ups + rule_look_ups home now a b r
  rule_counts a b (takes l t f u j) = plus_none _ _ (ap counter j)
  rule_counts a b (asks c t m u j) = plus_none _ _ (ap counter j)
  rule_counts a b (follows l r t is few u j e) = plus_none _ _ (ap counter j)
  rule_counts a b (restarts l d front back t is whole fresh dead u j e) = plus_none _ _ (ap counter j)
  rule_counts a b (skips n s u rest failures t searches passes free v j e) = plus_none _ _ (ap counter j)
  rule_counts a b (hears before around rest n l marks t turn f h u j) = ap counter j
  rule_counts a b (descends s rest n c t turn m u j) = ap counter j
  rule_counts a b (gives_up s around rest t up u j e) = plus_none _ _ (ap counter j)

  one_has_room : (a b : Point) → Rule home now a b → (a.job).look_ups ≤ 64 → (b.job).look_ups ≤ 64
  one_has_room a b (takes l t f u j) le = subst (λ (n : ℕ). n ≤ 64) (sym (ap counter j)) le
  one_has_room a b (asks c t m u j) le = subst (λ (n : ℕ). n ≤ 64) (sym (ap counter j)) le
  one_has_room a b (follows l r t is few u j e) le = subst (λ (n : ℕ). n ≤ 64) (sym (ap counter j)) le
  one_has_room a b (restarts l d front back t is whole fresh dead u j e) le = subst (λ (n : ℕ). n ≤ 64) (sym (ap counter j)) le
  one_has_room a b (skips n s u rest failures t searches passes free v j e) le = subst (λ (n : ℕ). n ≤ 64) (sym (ap counter j)) le
  one_has_room a b (hears before around rest n l marks t turn f h u j) le =
      let room : (a.job).look_ups < 64 = turn.few in let one : (b.job).look_ups ≡ (a.job).look_ups + 1 = ap counter j in omega (arith, room, one)
  one_has_room a b (descends s rest n c t turn m u j) le =
      let room : (a.job).look_ups < 64 = turn.few in let one : (b.job).look_ups ≡ (a.job).look_ups + 1 = ap counter j in omega (arith, room, one)
  one_has_room a b (gives_up s around rest t up u j e) le = subst (λ (n : ℕ). n ≤ 64) (sym (ap counter j)) le

  rules_count : (n : ℕ) (a b : Point) → (rs : Rules home now n a b) → (b.job).look_ups ≡ (a.job).look_ups + rules_look_ups home now n a b rs
  rules_count zero a b e = plus_none _ _ (ap (λ (p : Point). (p.job).look_ups) e)
  rules_count (suc n) a b (mid, more, rule) = let before = rules_count n a mid more in let last = rule_counts mid b rule in omega (arith, before, last)

  rules_have_room : (n : ℕ) (a b : Point) → Rules home now n a b → (a.job).look_ups ≤ 64 → (b.job).look_ups ≤ 64
  rules_have_room zero a b e le = subst (λ (m : ℕ). m ≤ 64) (sym (ap (λ (p : Point). (p.job).look_ups) e)) le
  rules_have_room (suc n) a b (mid, more, rule) le = one_has_room mid b rule (rules_have_room n a mid more le)

answered_keeps : (now : ℕ) (s : Search) (rest : List Search) (l : Link) (j : Job) (stores : Stores) (p : Point) → IsAnswered now s rest l j stores p → (p.job).look_ups ≡ j.look_ups
answered_keeps now s [] l j stores p (task, job, learnt) = ap counter job
answered_keeps now s (around ∷ rest) l j stores p (after, marks, task, learnt, heard, job) = ap counter job

class_keeps : (now : ℕ) (server : Addr) (s : Search) (rest : List Search) (c : class.Class) (j : Job) (stores : Stores) (p : Point) → ByClass now server s rest c j stores p → (p.job).look_ups ≡ j.look_ups
class_keeps now server s rest (class.Answer l) j stores p h = answered_keeps now s rest l j stores p h
class_keeps now server s rest (class.Referral at ns glue ttl) j stores p h = ap counter h.job
class_keeps now server s rest class.Truncated j stores p h = ap (λ (x : Point). (x.job).look_ups) h
class_keeps now server s rest (class.Failed f) j stores p h = ap (λ (x : Point). (x.job).look_ups) h

enters_keep : (now : ℕ) (input : Input) (j : Job) (stores : Stores) (p : Point) → Enters now input j stores p → (p.job).look_ups ≡ j.look_ups
enters_keep now Start j stores p h = ap (λ (x : Point). (x.job).look_ups) h
enters_keep now (Told via server m) j stores p (inl (none, h)) = ap (λ (x : Point). (x.job).look_ups) h
enters_keep now (Told via server m) j stores p (inr (s, rest, is, h)) =
    class_keeps now server s rest (class_of (s.frame).zone s.name s.kind via m) j (with_told now s server m stores) p h
enters_keep now (TimedOut server) j stores p h = ap (λ (x : Point). (x.job).look_ups) h
enters_keep now (TcpFailed server) j stores p h = ap (λ (x : Point). (x.job).look_ups) h

-- An ask leaves the count.
asks_keep : (home : Home) (now : ℕ) (p : Point) (next : Next) (new : Job) (after : Stores) → Leaves home now p next new after → IsAsk next → new.look_ups ≡ (p.job).look_ups
asks_keep home now p next new after (sends x y others is may n j e) asking = ap counter j
asks_keep home now p next new after (sends_again x y others is may n j e) asking = ap counter j
asks_keep home now p next new after (refuses c x y others is refused n e) asking = absurd (subst IsAsk n asking)
asks_keep home now p next new after (spent x t up n e) asking = absurd (subst IsAsk n asking)
asks_keep home now p next new after (looked_out x others m t out n e) asking = absurd (subst IsAsk n asking)
asks_keep home now p next new after (nowhere t none n e) asking = absurd (subst IsAsk n asking)
asks_keep home now p next new after (too_long l r t is long n e) asking = absurd (subst IsAsk n asking)
asks_keep home now p next new after (done l t is fresh n e) asking = absurd (subst IsAsk n asking)

-- Where a query fails since they are used up, 64 were taken.
fails_full : (home : Home) (now : ℕ) (p : Point) (next : Next) (new : Job) (after : Stores) → Leaves home now p next new after → next ≡ Fail cause.TooManyLookUps → 64 ≤ (p.job).look_ups
fails_full home now p next new after (sends x y others is may n j e) fails = absurd (let f = sym n ∙ fails in cc)
fails_full home now p next new after (sends_again x y others is may n j e) fails = absurd (let f = sym n ∙ fails in cc)
fails_full home now p next new after (refuses c x y others is refused n e) fails = absurd (by refused)
  where
    same : Fail c ≡ Fail cause.TooManyLookUps
    same = sym n ∙ fails

    by : MayNotSend now p.job c → ⊥
    by (inl (is, late)) = let f = same in cc
    by (inr (is, early, many)) = let f = same in cc
fails_full home now p next new after (spent x t up n e) fails = absurd (by (p.job).skipped (sym n ∙ fails))
  where
    by : (b : Bool) → Fail (spent_cause b) ≡ Fail cause.TooManyLookUps → ⊥
    by true f = cc
    by false f = cc
fails_full home now p next new after (looked_out x others m t out n e) fails = out.many
fails_full home now p next new after (nowhere t none n e) fails = absurd (let f = sym n ∙ fails in cc)
fails_full home now p next new after (too_long l r t is long n e) fails = absurd (let f = sym n ∙ fails in cc)
fails_full home now p next new after (done l t is fresh n e) fails = absurd (let f = sym n ∙ fails in cc)

module _ (s : State) (call : Call s) where
  call_counts : ((call.advances).last.job).look_ups ≡ (call.old).look_ups + call_look_ups s (Some call)
  call_counts =
      let first = enters_keep s.clock call.input call.old s.stores (call.advances).first (call.advances).enters in
      let on = rules_count (s.site).home s.clock (call.advances).count (call.advances).first (call.advances).last (call.advances).rules in
      omega (arith, first, on)

  call_has_room : (call.old).look_ups ≤ 64 → (call.old).look_ups + call_look_ups s (Some call) ≤ 64
  call_has_room le =
      let first = enters_keep s.clock call.input call.old s.stores (call.advances).first (call.advances).enters in
      let last = rules_have_room (s.site).home s.clock (call.advances).count (call.advances).first (call.advances).last (call.advances).rules (subst (λ (n : ℕ). n ≤ 64) (sym first) le) in
      let counts = call_counts in
      omega (arith, last, counts)

  call_leaves : IsAsk call.next → (call.new).look_ups ≡ (call.old).look_ups + call_look_ups s (Some call)
  call_leaves asking = asks_keep (s.site).home s.clock (call.advances).last call.next call.new call.after (call.advances).leaves asking ∙ call_counts

  call_is_full : (call.old).look_ups ≤ 64 → call.next ≡ Fail cause.TooManyLookUps → (call.old).look_ups + call_look_ups s (Some call) ≡ 64
  call_is_full le fails =
      let full = fails_full (s.site).home s.clock (call.advances).last call.next call.new call.after (call.advances).leaves fails in
      let room = call_has_room le in
      let counts = call_counts in
      omega (arith, full, room, counts)

-- ---- what holds of a run

pub record AreCounted (site : Site) (run : List Turn) (s : State) (legal : Run site run s) : Type 0 where
  pub each : (q : Open) → Contains s.queries q → (q.job).look_ups ≡ look_ups_of q.number site run s legal
  pub none : (k : ℕ) → s.opened ≤ k → look_ups_of k site run s legal ≡ 0
  pub few : (k : ℕ) → look_ups_of k site run s legal ≤ 64

new_counter : (j : Job) → IsNewJob j → j.look_ups ≡ 0
new_counter j (n, t, now, is) = ap counter is

module _ (site : Site) (past : List Turn) (t : Turn) (old new : State) (legal : Run site past old) (step : Step old t.event t.served t.out new) (before : AreCounted site past old legal) where
  abbrev was : ℕ → ℕ
  was k = look_ups_of k site past old legal

  abbrev will : ℕ → ℕ
  will k = look_ups_of k site (t ∷ past) new (old, legal, step)

  is : IsStep site.port t old new
  is = one_step site past t old new legal step (run_orderly site past old legal).below

  will_it : (k : ℕ) → t.served ≡ OpenQuery k → will k ≡ step_look_ups old t new step + was k
  will_it k e = ap (λ (b : Bool). cond b (step_look_ups old t new step) 0 + was k) (is_for_it k t.served e)

  will_other : (k : ℕ) → (t.served ≡ OpenQuery k → ⊥) → will k ≡ was k
  will_other k other = let e : cond (is_for k t.served) (step_look_ups old t new step) 0 ≡ 0 = ap (λ (b : Bool). cond b (step_look_ups old t new step) 0) (is_for_other k t.served other) in omega (arith, e)

  -- The work that a call begins with has taken as many as the run says.
  job_counted : (k : ℕ) (j : Job) → IsJobOf (moved old t.event) k j → j.look_ups ≡ was k
  job_counted k j (inl (p, there, number, same)) = ap counter same ∙ (before.each p there ∙ ap was number)
  job_counted k j (inr (number, fresh)) = new_counter j fresh ∙ sym (ap was number ∙ before.none old.opened (omega arith))

  begins_counted : (v : Served) (k : ℕ) (j : Job) → v ≡ OpenQuery k → BeginsWith (moved old t.event) v j → j.look_ups ≡ was k
  begins_counted v k j e h = job_counted k j (subst (λ (w : Served). BeginsWith (moved old t.event) w j) e h)

  few_it : (k : ℕ) → t.served ≡ OpenQuery k → step_look_ups old t new step + was k ≤ 64
  few_it k e = by (step_call old t new step) (step_calls old t new step)
    where
      by : (o : Option (Call (moved old t.event))) → IsCallOf (moved old t.event) t.served new o → call_look_ups (moved old t.event) o + was k ≤ 64
      by None h = let few = before.few k in omega (arith, few)
      by (Some call) h =
          let same = begins_counted t.served k call.old e h.0 in
          let le : (call.old).look_ups ≤ 64 = subst (λ (n : ℕ). n ≤ 64) (sym same) (before.few k) in
          let room = call_has_room (moved old t.event) call le in
          omega (arith, same, room)

  each_it : (q : Open) → Contains new.queries q → t.served ≡ OpenQuery q.number → (q.job).look_ups ≡ step_look_ups old t new step + was q.number
  each_it q c e = by (step_call old t new step) (step_calls old t new step)
    where
      by : (o : Option (Call (moved old t.event))) → IsCallOf (moved old t.event) t.served new o → (q.job).look_ups ≡ call_look_ups (moved old t.event) o + was q.number
      by None h = absurd (h q c e)
      by (Some call) h =
          let after = h.1 q c e in
          let same = begins_counted t.served q.number call.old e h.0 in
          let left = ap counter after.job_is ∙ call_leaves (moved old t.event) call (is_ask (moved old t.event).clock call.new call.next q after.asks) in
          omega (arith, same, left)

  number_below : (k : ℕ) → t.served ≡ OpenQuery k → new.opened ≤ k → ⊥
  number_below k e le = elim (is.known k e) [
    | inl d ↦ let lt = (run_orderly site past old legal).below d.0 d.1 in let same = d.2 in let more = is.more in absurd (omega (arith, lt, same, more, le))
    | inr d ↦ let a = d.0 in let b = d.1 in absurd (omega (arith, a, b, le))
  ]

  pub new_counted : AreCounted site (t ∷ past) new (old, legal, step)
  new_counted = record {
    each = λ q c. elim (is.from_old q c) [
      | inl d ↦ before.each q d.0 ∙ sym (will_other q.number (λ e. d.1 e))
      | inr d ↦ each_it q c d.0 ∙ sym (will_it q.number d.0)
    ];
    none = λ k le. will_other k (λ e. number_below k e le) ∙ before.none k (let more = is.more in omega (arith, more, le));
    few = λ k. by_test (is_for k t.served)
        (λ e. subst (λ (n : ℕ). n ≤ 64) (sym (will_it k (is_for_true k t.served e))) (few_it k (is_for_true k t.served e)))
        (λ e. subst (λ (n : ℕ). n ≤ 64) (sym (will_other k (λ f. let g = sym e ∙ is_for_it k t.served f in cc))) (before.few k));
  }

  pub spent_here : (call : Call (moved old t.event)) → step_call old t new step ≡ Some call → call.next ≡ Fail cause.TooManyLookUps → look_ups_by t.served site past old t new legal step ≡ 64
  spent_here call made fails = by t.served refl
    where
      counts : step_look_ups old t new step ≡ call_look_ups (moved old t.event) (Some call)
      counts = ap (call_look_ups (moved old t.event)) made

      begins : BeginsWith (moved old t.event) t.served call.old
      begins = (subst (IsCallOf (moved old t.event) t.served new) made (step_calls old t new step)).0

      by : (v : Served) → t.served ≡ v → look_ups_by v site past old t new legal step ≡ 64
      by Nobody e = absurd (subst (λ (w : Served). BeginsWith (moved old t.event) w call.old) e begins)
      by Own e =
          let none = new_counter call.old (subst (λ (w : Served). BeginsWith (moved old t.event) w call.old) e begins) in
          let full = call_is_full (moved old t.event) call (omega (arith, none)) fails in
          let same = counts in
          omega (arith, none, full, same)
      by (OpenQuery k) e =
          let base = begins_counted t.served k call.old e begins in
          let le : (call.old).look_ups ≤ 64 = subst (λ (n : ℕ). n ≤ 64) (sym base) (before.few k) in
          let full = call_is_full (moved old t.event) call le fails in
          let same = counts in
          omega (arith, base, full, same)

pub run_counted : (site : Site) (run : List Turn) (s : State) → (legal : Run site run s) → AreCounted site run s legal
run_counted site [] s new = record {
  each = λ q c. absurd (Contains-nil q (subst (λ (l : List Open). Contains l q) new.queries c));
  none = λ k le. refl;
  few = λ k. omega arith;
}
run_counted site (t ∷ past) s (old, legal, step) = new_counted site past t old s legal step (run_counted site past old legal)

pub few_look_ups : FewLookUps
few_look_ups site run s legal k = (run_counted site run s legal).few k

pub look_ups_are_spent : LookUpsAreSpent
look_ups_are_spent site past old t new legal step call made fails = spent_here site past t old new legal step (run_counted site past old legal) call made fails

-- What a call needs for this cause.
abbrev pub Spends : (s : State) (L : Type 0) → Option (Call s) → Type 0
Spends s L None = Unit {0}
Spends s L (Some call) = call.next ≡ Fail cause.TooManyLookUps → L

spends : (s : State) (L : Type 0) (o : Option (Call s)) → ((call : Call s) → o ≡ Some call → call.next ≡ Fail cause.TooManyLookUps → L) → Spends s L o
spends s L None f = tt
spends s L (Some call) f = f call refl

-- It has that, in each step.
pub step_spends : (port : ℕ) (home : Home) (site : Site) (past : List Turn) (old : State) (t : Turn) (new : State) → site.port ≡ port → site.home ≡ home
    → (legal : Run site past old) (step : Step old t.event t.served t.out new) → Spends (moved old t.event) (HasLookedUp port home t past) (step_call old t new step)
step_spends port home site past old t new here there legal step = spends (moved old t.event) (HasLookedUp port home t past) (step_call old t new step) (λ call made fails. record {
  site = site;
  same_port = here;
  same_home = there;
  old = old;
  new = new;
  legal = legal;
  step = step;
  many = look_ups_are_spent site past old t new legal step call made fails;
})
