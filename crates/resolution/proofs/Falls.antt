-- The rules end: a measure of points that each rule lets fall.
use Rattle.std.proofs.Common.{◌≡◌, ℕ, zero, suc, ◌+◌, ◌-◌, ◌*◌, ◌≤◌, ◌<◌, Bool, true, false, cond, nat_eq, nat_le, nat_lt, inl, inr, Option, Some, None, List, [], ◌∷◌, ◌++◌, length, refl, sym, ◌∙◌, ap, subst, arith}
use Rattle.std.proofs.lemmas.Bool.{ltb-true, lt-leb}
use Rattle.dname.specs.Labels.{Name}
use Rattle.rdata.specs.declared.addr.Addr.{Addr}
use Rattle.retry.specs.Plans.{upcoming}
use Rattle.cache.specs.Cached.{Hit}
use Rattle.cache.specs.Failures.{FailedAsk, is_failed}
use Rattle.frames.specs.Frames.{opened}
use Rattle.classify.specs.Classes as class
use Rattle.classify.specs.Classes.{class_of}
use Rattle.zone.specs.Zones.{a_type}
use Rattle.resolution.specs.Jobs.{Home, Stores, Taken, received_link, is_dead, IsDead, AreFresh, Search, search_at, with_frame, ask_of, fails_now, Job, Input, Start, Told, TimedOut, TcpFailed, Task, Seek, Take, Go, Again, IsFreshTask, Point, level_of}
use Rattle.resolution.specs.Rules.{Finds, Hits, UsesServerAddress, turned, PassesOver, IsFree, Rule, takes, asks, follows, restarts, skips, hears, descends, gives_up, Rules, ByClass, Enters}
use Rattle.resolution.specs.Laws.{RulesEnd}
use Rattle.resolution.proofs.Passing.{passes_fails, passes_first, found_failures, missed_failures}

-- ---- the measure

abbrev Failures : Type 0
Failures = List (FailedAsk × ℕ)

-- One more where the address that comes next failed lately.
abbrev pub failing_by : ℕ → Failures → Search → Option Addr → ℕ
failing_by now fs s None = 0
failing_by now fs s (Some a) = cond (fails_now now fs s a) 1 0

abbrev pub failing : ℕ → Failures → Search → ℕ
failing now fs s = failing_by now fs s (upcoming (s.frame).plan)

abbrev pub total : ℕ → Failures → List Search → ℕ
total now fs [] = 0
total now fs (s ∷ ss) = 1 + failing now fs s + total now fs ss

abbrev pub deads : ℕ → List Taken → ℕ
deads now [] = 0
deads now (l ∷ ls) = cond (is_dead now l) 1 0 + deads now ls

abbrev pub chain_measure : ℕ → List Taken → ℕ
chain_measure now chain = 300 + 20 * deads now chain + 2 * (8 - length chain)

abbrev pub measure_by : ℕ → Task → Job → Failures → ℕ
measure_by now Seek j fs = chain_measure now j.chain + 1
measure_by now (Take l) j fs = chain_measure now j.chain
measure_by now Go j fs = 4 * (64 - j.look_ups) + total now fs j.searches
measure_by now (Again server) j fs = 0

abbrev pub measure : ℕ → Point → ℕ
measure now p = measure_by now p.task p.job (p.stores).failures

-- ---- chains

deads_more : (now : ℕ) (xs ys : List Taken) → deads now (xs ++ ys) ≡ deads now xs + deads now ys
deads_more now [] ys = omega arith
deads_more now (x ∷ xs) ys = let more = deads_more now xs ys in omega (arith, more)

deads_one : (now : ℕ) (l : Taken) → is_dead now l ≡ false → deads now (l ∷ []) ≡ 0
deads_one now l h = ap (λ (b : Bool). cond b 1 0 + 0) h

deads_first : (now : ℕ) (d : Taken) (ls : List Taken) → IsDead now d → deads now (d ∷ ls) ≡ 1 + deads now ls
deads_first now d ls h = ap (λ (b : Bool). cond b 1 0 + deads now ls) h

fresh_deads : (now : ℕ) (ls : List Taken) → AreFresh now ls → deads now ls ≡ 0
fresh_deads now [] h = refl
fresh_deads now (l ∷ ls) h = let one : deads now (l ∷ ls) ≡ 0 + deads now ls = ap (λ (b : Bool). cond b 1 0 + deads now ls) h.0 in let more = fresh_deads now ls h.1 in omega (arith, one, more)

longer : {X : Type 0} (xs : List X) (x : X) → length (xs ++ x ∷ []) ≡ length xs + 1
longer [] x = refl
longer (y ∷ xs) x = let more = longer xs x in omega (arith, more)

-- ---- failures

failing_few : (now : ℕ) (fs : Failures) (s : Search) → failing now fs s ≤ 1
failing_few now fs s = by (upcoming (s.frame).plan)
  where
    one : (b : Bool) → cond b 1 0 ≤ 1
    one true = omega arith
    one false = omega arith

    by : (o : Option Addr) → failing_by now fs s o ≤ 1
    by None = omega arith
    by (Some a) = one (fails_now now fs s a)

failing_same : (now : ℕ) (fs gs : Failures) (s : Search) → ((k : FailedAsk) → is_failed now k gs ≡ is_failed now k fs) → failing now gs s ≡ failing now fs s
failing_same now fs gs s same = by (upcoming (s.frame).plan)
  where
    by : (o : Option Addr) → failing_by now gs s o ≡ failing_by now fs s o
    by None = refl
    by (Some a) = ap (λ (b : Bool). cond b 1 0) (same (ask_of s a))

total_same : (now : ℕ) (fs gs : Failures) (ss : List Search) → ((k : FailedAsk) → is_failed now k gs ≡ is_failed now k fs) → total now gs ss ≡ total now fs ss
total_same now fs gs [] same = refl
total_same now fs gs (s ∷ ss) same = λ i. 1 + failing_same now fs gs s same i + total_same now fs gs ss same i

-- Where the next one fails, and where it does not.
failing_one : (now : ℕ) (fs : Failures) (s : Search) (a : Addr) → upcoming (s.frame).plan ≡ Some a → fails_now now fs s a ≡ true → failing now fs s ≡ 1
failing_one now fs s a next fails = ap (failing_by now fs s) next ∙ ap (λ (b : Bool). cond b 1 0) fails

failing_none : (now : ℕ) (fs : Failures) (s : Search) → IsFree now s fs → failing now fs s ≡ 0
failing_none now fs s free = by (upcoming (s.frame).plan) refl
  where
    by : (o : Option Addr) → upcoming (s.frame).plan ≡ o → failing_by now fs s o ≡ 0
    by None e = refl
    by (Some a) e = ap (λ (b : Bool). cond b 1 0) (free a e)

-- ---- what is found is alive

alive_not_dead : (age limit : ℕ) → nat_lt age limit ≡ true → nat_le limit age ≡ false
alive_not_dead age limit h = lt-leb limit age (ltb-true age limit h)

pub found_fresh : (home : Home) (now : ℕ) (n : Name) (t : ℕ) (old : Stores) (l : Taken) (new : Stores) → Finds home now n t old l new → is_dead now l ≡ false
found_fresh home now n t old l new h = elim h.is as (λ x. is_dead now l ≡ false) [
  | inl w ↦ ap (is_dead now) w.2
  | inr w ↦ hit_fresh w.0 w.1
]
  where
    hit_fresh : (hit : Hit) → Hits home now n t old l hit new → is_dead now l ≡ false
    hit_fresh hit h =
        let (k, e, there, lives, answers, ttl, since) = h.held in
        ap (is_dead now) h.link ∙ (λ i. nat_le (1000 * ttl i) (now - since i)) ∙ alive_not_dead (now - e.since) (1000 * e.ttl) lives

-- ---- each rule

pub falls : (home : Home) (now : ℕ) (a b : Point) → Rule home now a b → IsFreshTask now a.task → measure now b < measure now a
falls home now a b (takes l at finds to job) fresh =
    let one = ap (λ (t : Task). measure_by now t a.job (a.stores).failures) at in
    let two : measure now b ≡ chain_measure now (a.job).chain = λ i. measure_by now (to i) (job i) (b.stores).failures in
    omega (arith, one, two)
falls home now a b (asks c at misses to job) fresh =
    let one = ap (λ (t : Task). measure_by now t a.job (a.stores).failures) at in
    let first : Search = search_at (a.job).name (a.job).kind (opened (level_of b.stores) 0 c) in
    let two : measure now b ≡ 4 * (64 - (a.job).look_ups) + (1 + failing now (b.stores).failures first + 0) = λ i. measure_by now (to i) (job i) (b.stores).failures in
    let few = failing_few now (b.stores).failures first in
    omega (arith, one, two, few)
falls home now a b (follows l r at alias few to job stores) fresh =
    let one : measure now a ≡ chain_measure now (a.job).chain = ap (λ (t : Task). measure_by now t a.job (a.stores).failures) at in
    let two : measure now b ≡ chain_measure now ((a.job).chain ++ l ∷ []) + 1 = λ i. measure_by now (to i) (job i) (b.stores).failures in
    let lives : is_dead now l ≡ false = subst (IsFreshTask now) at fresh in
    let count = deads_more now (a.job).chain (l ∷ []) in
    let none = deads_one now l lives in
    let long = longer (a.job).chain l in
    omega (arith, one, two, count, none, long, few)
falls home now a b (restarts l d front back at ending split alive dead to job stores) fresh =
    let one : measure now a ≡ chain_measure now (a.job).chain = ap (λ (t : Task). measure_by now t a.job (a.stores).failures) at in
    let two : measure now b ≡ chain_measure now front + 1 = λ i. measure_by now (to i) (job i) (b.stores).failures in
    let lives : is_dead now l ≡ false = subst (IsFreshTask now) at fresh in
    let whole : deads now (a.job).chain + deads now (l ∷ []) ≡ deads now (front ++ d ∷ back) = sym (deads_more now (a.job).chain (l ∷ [])) ∙ ap (deads now) split in
    let none = deads_one now l lives in
    let parts = deads_more now front (d ∷ back) in
    let first = deads_first now d back dead in
    let zero_front = fresh_deads now front alive in
    omega (arith, one, two, whole, none, parts, first, zero_front)
falls home now a b (skips n s t rest failures at searches passes free to job stores) fresh =
    let one : measure now a ≡ 4 * (64 - (a.job).look_ups) + (1 + failing now (a.stores).failures s + total now (a.stores).failures rest) = λ i. measure_by now (at i) (record a.job { searches = searches i }) (a.stores).failures in
    let two : measure now b ≡ 4 * (64 - (a.job).look_ups) + (1 + failing now failures t + total now failures rest) = λ i. measure_by now (to i) (job i) (stores i).failures in
    let (server, next, fails) = passes_first now n s (a.stores).failures t failures passes in
    let some = failing_one now (a.stores).failures s server next fails in
    let none = failing_none now failures t free in
    let around = total_same now (a.stores).failures failures rest (passes_fails now (suc n) s (a.stores).failures t failures passes now) in
    omega (arith, one, two, some, none, around)
falls home now a b (hears before after rest n l marks at turn finds heard to job) fresh =
    let kept = found_failures home now n a_type a.stores l b.stores finds in
    let one : measure now a ≡ 4 * (64 - (a.job).look_ups) + (1 + failing now (a.stores).failures before + total now (a.stores).failures rest) = λ i. measure_by now (at i) (record a.job { searches = turn.searches i }) (a.stores).failures in
    let two : measure now b ≡ 4 * (64 - ((a.job).look_ups + 1)) + (1 + failing now (a.stores).failures after + total now (a.stores).failures rest) = λ i. measure_by now (to i) (job i) (kept i) in
    let room : (a.job).look_ups < 64 = turn.few in
    let few = failing_few now (a.stores).failures after in
    omega (arith, one, two, room, few)
falls home now a b (descends s rest n c at turn misses to job) fresh =
    let kept = missed_failures home now n a_type a.stores c b.stores misses in
    let fs = (a.stores).failures in
    let within : Search = search_at n a_type (opened (level_of b.stores) ((s.frame).nesting + 1) c) in
    let around : Search = turned (a.job).failed s in
    let one : measure now a ≡ 4 * (64 - (a.job).look_ups) + (1 + failing now fs s + total now fs rest) = λ i. measure_by now (at i) (record a.job { searches = turn.searches i }) fs in
    let two : measure now b ≡ 4 * (64 - ((a.job).look_ups + 1)) + (1 + failing now fs within + (1 + failing now fs around + total now fs rest)) = λ i. measure_by now (to i) (job i) (kept i) in
    let room : (a.job).look_ups < 64 = turn.few in
    let few = failing_few now fs within in
    let fewer = failing_few now fs around in
    omega (arith, one, two, room, few, fewer)
falls home now a b (gives_up s around rest at up to job stores) fresh =
    let fs = (a.stores).failures in
    let one : measure now a ≡ 4 * (64 - (a.job).look_ups) + (1 + failing now fs s + (1 + failing now fs around + total now fs rest)) = λ i. measure_by now (at i) (record a.job { searches = up.searches i }) fs in
    let two : measure now b ≡ 4 * (64 - (a.job).look_ups) + (1 + failing now fs around + total now fs rest) = λ i. measure_by now (to i) (job i) (stores i).failures in
    omega (arith, one, two)

-- A link that is to be used stays fresh.
pub stays_fresh : (home : Home) (now : ℕ) (a b : Point) → Rule home now a b → IsFreshTask now b.task
stays_fresh home now a b (takes l at finds to job) = subst (IsFreshTask now) (sym to) (found_fresh home now (a.job).name (a.job).kind a.stores l b.stores finds)
stays_fresh home now a b (asks c at misses to job) = subst (IsFreshTask now) (sym to) tt
stays_fresh home now a b (follows l r at alias few to job stores) = subst (IsFreshTask now) (sym to) tt
stays_fresh home now a b (restarts l d front back at ending split alive dead to job stores) = subst (IsFreshTask now) (sym to) tt
stays_fresh home now a b (skips n s t rest failures at searches passes free to job stores) = subst (IsFreshTask now) (sym to) tt
stays_fresh home now a b (hears before after rest n l marks at turn finds heard to job) = subst (IsFreshTask now) (sym to) tt
stays_fresh home now a b (descends s rest n c at turn misses to job) = subst (IsFreshTask now) (sym to) tt
stays_fresh home now a b (gives_up s around rest at up to job stores) = subst (IsFreshTask now) (sym to) tt

-- So many rules take as much from the measure.
pub rules_fall : (home : Home) (now n : ℕ) (a b : Point) → IsFreshTask now a.task → Rules home now n a b → (measure now b + n ≤ measure now a) × IsFreshTask now b.task
rules_fall home now zero a b fresh is = (let e = ap (measure now) is in omega (arith, e), subst (λ (p : Point). IsFreshTask now p.task) (sym is) fresh)
rules_fall home now (suc n) a b fresh (mid, rules, rule) =
    let before = rules_fall home now n a mid fresh rules in
    let less = falls home now mid b rule before.1 in
    let more = before.0 in
    (omega (arith, more, less), stays_fresh home now mid b rule)

-- What comes in is fresh.
class_fresh : (now : ℕ) (server : Addr) (s : Search) (rest : List Search) (c : class.Class) (j : Job) (stores : Stores) (p : Point) → ByClass now server s rest c j stores p → IsFreshTask now p.task
class_fresh now server s [] (class.Answer l) j stores p (task, job, learnt) = subst (IsFreshTask now) (sym task) refl
class_fresh now server s (around ∷ rest) (class.Answer l) j stores p (after, marks, task, learnt, heard, job) = subst (IsFreshTask now) (sym task) tt
class_fresh now server s rest (class.Referral at ns glue ttl) j stores p h = subst (IsFreshTask now) (sym h.task) tt
class_fresh now server s rest class.Truncated j stores p h = subst (λ (p : Point). IsFreshTask now p.task) (sym h) tt
class_fresh now server s rest (class.Failed f) j stores p h = subst (λ (p : Point). IsFreshTask now p.task) (sym h) tt

pub enters_fresh : (now : ℕ) (input : Input) (j : Job) (stores : Stores) (p : Point) → Enters now input j stores p → IsFreshTask now p.task
enters_fresh now Start j stores p h = subst (λ (p : Point). IsFreshTask now p.task) (sym h) tt
enters_fresh now (Told via server m) j stores p (inl (none, h)) = subst (λ (p : Point). IsFreshTask now p.task) (sym h) tt
enters_fresh now (Told via server m) j stores p (inr (s, rest, searches, h)) = class_fresh now server s rest (class_of (s.frame).zone s.name s.kind via m) j _ p h
enters_fresh now (TimedOut server) j stores p h = subst (λ (p : Point). IsFreshTask now p.task) (sym h) tt
enters_fresh now (TcpFailed server) j stores p h = subst (λ (p : Point). IsFreshTask now p.task) (sym h) tt

-- ---- how many

deads_most : (now : ℕ) (ls : List Taken) → deads now ls ≤ length ls
deads_most now [] = omega arith
deads_most now (l ∷ ls) = let one = by (is_dead now l) in let more = deads_most now ls in omega (arith, one, more)
  where
    by : (b : Bool) → cond b 1 0 ≤ 1
    by true = omega arith
    by false = omega arith

total_most : (now : ℕ) (fs : Failures) (ss : List Search) → total now fs ss ≤ 2 * length ss
total_most now fs [] = omega arith
total_most now fs (s ∷ ss) = let one = failing_few now fs s in let more = total_most now fs ss in omega (arith, one, more)

-- The most that a job's measure is, by its chain and its searches.
abbrev most_by : ℕ → ℕ → ℕ
most_by chain searches = 320 + 20 * chain + 2 * searches

seek_most : (now : ℕ) (j : Job) (fs : Failures) → measure_by now Seek j fs ≤ most_by (length j.chain) (length j.searches)
seek_most now j fs = let dead = deads_most now j.chain in omega (arith, dead)

take_most : (now : ℕ) (j : Job) (l : Taken) (fs : Failures) (searches : ℕ) → measure_by now (Take l) j fs ≤ most_by (length j.chain) searches
take_most now j l fs searches = let dead = deads_most now j.chain in omega (arith, dead)

go_most : (now : ℕ) (j : Job) (fs : Failures) (chain : ℕ) → measure_by now Go j fs ≤ most_by chain (length j.searches)
go_most now j fs chain = let all = total_most now fs j.searches in omega (arith, all)

at_most : (now : ℕ) (p : Point) (task : Task) (i : Job) (most : ℕ) → p.task ≡ task → p.job ≡ i → measure_by now task i (p.stores).failures ≤ most → measure now p ≤ most
at_most now p task i most te je le = let same : measure now p ≡ measure_by now task i (p.stores).failures = λ x. measure_by now (te x) (je x) (p.stores).failures in omega (arith, same, le)

fewer_searches : (chain n m : ℕ) → n ≤ m → most_by chain n ≤ most_by chain m
fewer_searches chain n m le = omega (arith, le)

class_most : (now : ℕ) (server : Addr) (s : Search) (rest : List Search) (c : class.Class) (j : Job) (stores : Stores) (p : Point) → j.searches ≡ s ∷ rest → ByClass now server s rest c j stores p
    → measure now p ≤ most_by (length j.chain) (length j.searches)
class_most now server s [] (class.Answer l) j stores p searches (task, job, learnt) =
    at_most now p _ _ _ task job (take_most now (record j { searches = [] }) (received_link s.name l now) (p.stores).failures (length j.searches))
class_most now server s (around ∷ rest) (class.Answer l) j stores p searches (after, marks, task, learnt, heard, job) =
    let long : length j.searches ≡ suc (suc (length rest)) = ap (λ (ss : List Search). length ss) searches in
    let le = go_most now (record j { searches = after ∷ rest; failed = marks }) (p.stores).failures (length j.chain) in
    at_most now p _ _ _ task job (omega (arith, long, le))
class_most now server s rest (class.Referral at ns glue ttl) j stores p searches h =
    let long : length j.searches ≡ suc (length rest) = ap (λ (ss : List Search). length ss) searches in
    let again : Search = with_frame s (opened (level_of stores) (s.frame).nesting h.cut) in
    let le = go_most now (record j { searches = again ∷ rest }) (p.stores).failures (length j.chain) in
    at_most now p _ _ _ h.task h.job (omega (arith, long, le))
class_most now server s rest class.Truncated j stores p searches h =
    at_most now p (Again server) j _ (ap (λ (x : Point). x.task) h) (ap (λ (x : Point). x.job) h) (omega arith)
class_most now server s rest (class.Failed f) j stores p searches h =
    at_most now p Go j _ (ap (λ (x : Point). x.task) h) (ap (λ (x : Point). x.job) h) (go_most now j (p.stores).failures (length j.chain))

enters_most : (now : ℕ) (input : Input) (j : Job) (stores : Stores) (p : Point) → Enters now input j stores p → measure now p ≤ most_by (length j.chain) (length j.searches)
enters_most now Start j stores p h = at_most now p Seek j _ (ap (λ (x : Point). x.task) h) (ap (λ (x : Point). x.job) h) (seek_most now j (p.stores).failures)
enters_most now (Told via server m) j stores p (inl (none, h)) = at_most now p Go j _ (ap (λ (x : Point). x.task) h) (ap (λ (x : Point). x.job) h) (go_most now j (p.stores).failures (length j.chain))
enters_most now (Told via server m) j stores p (inr (s, rest, searches, h)) = class_most now server s rest (class_of (s.frame).zone s.name s.kind via m) j _ p searches h
enters_most now (TimedOut server) j stores p h = at_most now p Go j _ (ap (λ (x : Point). x.task) h) (ap (λ (x : Point). x.job) h) (go_most now j (p.stores).failures (length j.chain))
enters_most now (TcpFailed server) j stores p h = at_most now p Go j _ (ap (λ (x : Point). x.task) h) (ap (λ (x : Point). x.job) h) (go_most now j (p.stores).failures (length j.chain))

pub rules_end : RulesEnd
rules_end home now input j stores first n last enters rules =
    let h = (rules_fall home now n first last (enters_fresh now input j stores first enters) rules).0 in
    let most = enters_most now input j stores first enters in
    omega (arith, h, most)
