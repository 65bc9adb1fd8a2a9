-- No step takes more than 488 rules: an open query has eight aliases at most, and four searches, one within another.
use Rattle.std.proofs.Common.{◌≡◌, ℕ, zero, suc, ◌+◌, ◌≤◌, ◌<◌, inl, inr, Option, Some, None, List, [], ◌∷◌, ◌++◌, length, Contains, refl, sym, ap, ◌∙◌, subst, arith}
use Rattle.lru.proofs.Splits.{Contains-nil}
use Rattle.dname.specs.Labels.{Name}
use Rattle.rdata.specs.declared.addr.Addr.{Addr}
use Rattle.zone.specs.Links.{Link}
use Rattle.classify.specs.Classes as class
use Rattle.classify.specs.Classes.{class_of}
use Rattle.frames.specs.Frames.{Frame, Failed, opened, after_add}
use Rattle.frames.proofs.Places.{name_shallow}
use Rattle.resolution.specs.Jobs.{Home, Stores, level_of, with_frame, given, with_told, Taken, Search, Job, Input, Start, Told, TimedOut, TcpFailed, Next, Point}
use Rattle.resolution.specs.Rules.{UsesServerAddress, turned, Rule, takes, asks, follows, restarts, skips, hears, descends, gives_up, Rules, IsAnswered, ByClass, Enters, Leaves, sends, sends_again, refuses, spent, looked_out, nowhere, too_long, done}
use Rattle.resolution.proofs.Falls.{rules_end}
use Rattle.resolution.proofs.Passing.{passes_keep}
use Rattle.runs.specs.States.{Served, Nobody, Own, OpenQuery, Turn, Open, Site, State, moved}
use Rattle.runs.specs.Steps.{IsAsk}
use Rattle.runs.specs.Runs.{Run}
use Rattle.laws.specs.Opens.{Call, step_call}
use Rattle.laws.specs.LookUps.{StepsAreShort}
use Rattle.laws.proofs.Orders.{IsStep, one_step, run_orderly}
use Rattle.laws.proofs.Served.{IsNewJob, BeginsWith, is_ask, IsCallOf, step_calls}

-- ---- searches, one within another

abbrev pub AreNested : List Search → Type 0
AreNested [] = Unit {0}
AreNested (s ∷ rest) = ((s.frame).nesting ≡ length rest) × ((s.frame).nesting ≤ 3) × AreNested rest

pub record IsShort (j : Job) : Type 0 where
  pub few : length j.chain ≤ 8
  pub nested : AreNested j.searches

pub four_at_most : (ss : List Search) → AreNested ss → length ss ≤ 4
four_at_most [] h = omega arith
four_at_most (s ∷ rest) (is, le, more) = omega (arith, is, le)

short_as : (j k : Job) → k ≡ j → IsShort j → IsShort k
short_as j k e h = subst IsShort (sym e) h

-- The innermost search may be another one at its nesting.
nested_as : (s t : Search) (rest : List Search) → (t.frame).nesting ≡ (s.frame).nesting → AreNested (s ∷ rest) → AreNested (t ∷ rest)
nested_as s t rest e (is, le, more) = (e ∙ is, subst (λ (n : ℕ). n ≤ 3) (sym e) le, more)

added_nesting : (level : Addr → ℕ) (f : Frame) (fresh : List Addr) → (after_add level f fresh).nesting ≡ f.nesting
added_nesting level f [] = refl
added_nesting level f (a ∷ xs) = refl

heard_nesting : (stores : Stores) (n : Name) (l : Link) (before : Search) (failed : Failed) (after : Search) (marks : Failed) → UsesServerAddress stores n l before failed after marks
    → (after.frame).nesting ≡ (before.frame).nesting
heard_nesting stores n l before failed after marks h = elim h.is as (λ x. (after.frame).nesting ≡ (before.frame).nesting) [
  | inl w ↦ ap (λ (s : Search). (s.frame).nesting) w.4 ∙ added_nesting _ before.frame _
  | inr w ↦ ap (λ (s : Search). (s.frame).nesting) w.1
]

longer : {X : Type 0} (xs : List X) (x : X) → length (xs ++ x ∷ []) ≡ length xs + 1
longer [] x = refl
longer (y ∷ xs) x = let more = longer xs x in omega (arith, more)

front_shorter : {X : Type 0} (front back : List X) (d : X) → length front < length (front ++ d ∷ back)
front_shorter [] back d = omega arith
front_shorter (x ∷ front) back d = let more = front_shorter front back d in omega (arith, more)

-- ---- one call

module _ (home : Home) (now : ℕ) where
  rule_short : (a b : Point) → Rule home now a b → IsShort a.job → IsShort b.job
  rule_short a b (takes l t f u j) h = short_as a.job b.job j h
  rule_short a b (asks c t m u j) h = short_as _ b.job j (record { few = h.few; nested = (refl, omega arith, tt) })
  rule_short a b (follows l r t is few u j e) h = short_as _ b.job j (record { few = let long = longer (a.job).chain l in let room : length (a.job).chain < 8 = few in omega (arith, long, room); nested = h.nested })
  rule_short a b (restarts l d front back t is whole fresh dead u j e) h = short_as _ b.job j (record {
    few =
        let long = longer (a.job).chain l in
        let less = front_shorter front back d in
        let same : length ((a.job).chain ++ l ∷ []) ≡ length (front ++ d ∷ back) = ap (λ (x : List Taken). length x) whole in
        let few = h.few in
        omega (arith, long, less, same, few);
    nested = tt;
  })
  rule_short a b (skips n s u rest failures t searches passes free v j e) h =
      let same = passes_keep (λ x. (x.frame).nesting ≡ (s.frame).nesting) now (suc n) s (a.stores).failures u failures (λ x e. e) passes refl in
      short_as _ b.job j (record { few = h.few; nested = nested_as s u rest same (subst AreNested searches h.nested) })
  rule_short a b (hears before after rest n l marks t turn f heard u j) h =
      let same = heard_nesting b.stores n l.link (turned (a.job).failed before) (a.job).failed after marks heard in
      short_as _ b.job j (record { few = h.few; nested = nested_as before after rest same (subst AreNested turn.searches h.nested) })
  rule_short a b (descends s rest n c t turn m u j) h =
      let (is, le, more) = subst AreNested turn.searches h.nested in
      let shallow : (s.frame).nesting < 3 = name_shallow (a.job).failed s.frame n turn.turn in
      short_as _ b.job j (record { few = h.few; nested = (omega (arith, is), omega (arith, shallow), (is, le, more)) })
  rule_short a b (gives_up s around rest t up u j e) h =
      let (is, le, more) = subst AreNested up.searches h.nested in
      short_as _ b.job j (record { few = h.few; nested = more })

  rules_short : (n : ℕ) (a b : Point) → Rules home now n a b → IsShort a.job → IsShort b.job
  rules_short zero a b e h = short_as a.job b.job (ap (λ (p : Point). p.job) e) h
  rules_short (suc n) a b (mid, more, rule) h = rule_short mid b rule (rules_short n a mid more h)

answered_short : (now : ℕ) (s : Search) (rest : List Search) (l : Link) (j : Job) (stores : Stores) (p : Point) → j.searches ≡ s ∷ rest → IsAnswered now s rest l j stores p → IsShort j → IsShort p.job
answered_short now s [] l j stores p searches (task, job, learnt) h = short_as _ p.job job (record { few = h.few; nested = tt })
answered_short now s (around ∷ rest) l j stores p searches (after, marks, task, learnt, heard, job) h =
    let same = heard_nesting p.stores s.name _ around j.failed after marks heard in
    let (is, le, more) = subst AreNested searches h.nested in
    short_as _ p.job job (record { few = h.few; nested = nested_as around after rest same more })

class_short : (now : ℕ) (server : Addr) (s : Search) (rest : List Search) (c : class.Class) (j : Job) (stores : Stores) (p : Point) → j.searches ≡ s ∷ rest → ByClass now server s rest c j stores p
    → IsShort j → IsShort p.job
class_short now server s rest (class.Answer l) j stores p searches is h = answered_short now s rest l j stores p searches is h
class_short now server s rest (class.Referral at ns glue ttl) j stores p searches is h =
    let again : Search = with_frame s (opened (level_of stores) (s.frame).nesting is.cut) in
    short_as _ p.job is.job (record { few = h.few; nested = nested_as s again rest refl (subst AreNested searches h.nested) })
class_short now server s rest class.Truncated j stores p searches is h = short_as j p.job (ap (λ (x : Point). x.job) is) h
class_short now server s rest (class.Failed f) j stores p searches is h = short_as j p.job (ap (λ (x : Point). x.job) is) h

enters_short : (now : ℕ) (input : Input) (j : Job) (stores : Stores) (p : Point) → Enters now input j stores p → IsShort j → IsShort p.job
enters_short now Start j stores p is h = short_as j p.job (ap (λ (x : Point). x.job) is) h
enters_short now (Told via server m) j stores p (inl (none, is)) h = short_as j p.job (ap (λ (x : Point). x.job) is) h
enters_short now (Told via server m) j stores p (inr (s, rest, searches, is)) h =
    class_short now server s rest (class_of (s.frame).zone s.name s.kind via m) j (with_told now s server m stores) p searches is h
enters_short now (TimedOut server) j stores p is h = short_as j p.job (ap (λ (x : Point). x.job) is) h
enters_short now (TcpFailed server) j stores p is h = short_as j p.job (ap (λ (x : Point). x.job) is) h

asks_short : (home : Home) (now : ℕ) (p : Point) (next : Next) (new : Job) (after : Stores) → Leaves home now p next new after → IsAsk next → IsShort p.job → IsShort new
asks_short home now p next new after (sends x s others is may n j e) asking h = short_as _ new j (record { few = h.few; nested = nested_as s (given s) others refl (subst AreNested is.searches h.nested) })
asks_short home now p next new after (sends_again x s others is may n j e) asking h = short_as _ new j (record { few = h.few; nested = h.nested })
asks_short home now p next new after (refuses c x y others is refused n e) asking h = absurd (subst IsAsk n asking)
asks_short home now p next new after (spent x t up n e) asking h = absurd (subst IsAsk n asking)
asks_short home now p next new after (looked_out x others m t out n e) asking h = absurd (subst IsAsk n asking)
asks_short home now p next new after (nowhere t none n e) asking h = absurd (subst IsAsk n asking)
asks_short home now p next new after (too_long l r t is long n e) asking h = absurd (subst IsAsk n asking)
asks_short home now p next new after (done l t is fresh n e) asking h = absurd (subst IsAsk n asking)

call_short : (s : State) (call : Call s) → IsAsk call.next → IsShort call.old → IsShort call.new
call_short s call asking h =
    asks_short (s.site).home s.clock (call.advances).last call.next call.new call.after (call.advances).leaves asking
    (rules_short (s.site).home s.clock (call.advances).count (call.advances).first (call.advances).last (call.advances).rules
    (enters_short s.clock call.input call.old s.stores (call.advances).first (call.advances).enters h))

-- ---- runs

abbrev pub AreShort : State → Type 0
AreShort s = (q : Open) → Contains s.queries q → IsShort q.job

new_short : (j : Job) → IsNewJob j → IsShort j
new_short j (n, t, now, is) = short_as _ j is (record { few = omega arith; nested = tt })

begins_short : (s : State) (v : Served) (j : Job) → AreShort s → BeginsWith s v j → IsShort j
begins_short s Nobody j all h = absurd h
begins_short s Own j all h = new_short j h
begins_short s (OpenQuery k) j all (inl (p, there, number, is)) = short_as p.job j is (all p there)
begins_short s (OpenQuery k) j all (inr (number, fresh)) = new_short j fresh

pub run_short : (site : Site) (run : List Turn) (s : State) → Run site run s → AreShort s
run_short site [] s new = λ q c. absurd (Contains-nil q (subst (λ (l : List Open). Contains l q) new.queries c))
run_short site (t ∷ past) s (old, legal, step) = on (run_short site past old legal)
  where
    is : IsStep site.port t old s
    is = one_step site past t old s legal step (run_orderly site past old legal).below

    by : AreShort old → (q : Open) → Contains s.queries q → t.served ≡ OpenQuery q.number → (o : Option (Call (moved old t.event))) → IsCallOf (moved old t.event) t.served s o → IsShort q.job
    by before q c e None h = absurd (h q c e)
    by before q c e (Some call) h =
        let after = h.1 q c e in
        short_as call.new q.job after.job_is (call_short (moved old t.event) call (is_ask (moved old t.event).clock call.new call.next q after.asks) (begins_short (moved old t.event) t.served call.old before h.0))

    on : AreShort old → AreShort s
    on before q c = elim (is.from_old q c) [ inl d ↦ before q d.0 | inr d ↦ by before q c d.0 (step_call old t s step) (step_calls old t s step) ]

pub steps_are_short : StepsAreShort
steps_are_short site past old t new legal step call made =
    let begins : BeginsWith (moved old t.event) t.served call.old = (subst (IsCallOf (moved old t.event) t.served new) made (step_calls old t new step)).0 in
    let short = begins_short (moved old t.event) t.served call.old (run_short site past old legal) begins in
    let few = short.few in
    let four = four_at_most (call.old).searches short.nested in
    let most = rules_end ((moved old t.event).site).home (moved old t.event).clock call.input call.old (moved old t.event).stores (call.advances).first (call.advances).count (call.advances).last (call.advances).enters (call.advances).rules in
    omega (arith, few, four, most)
