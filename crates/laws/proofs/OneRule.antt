-- At each point of a query's work one rule applies, with one outcome, or one result is left.
use Rattle.std.proofs.Common.{◌≡◌, ℕ, suc, ◌+◌, ◌<◌, ◌≤◌, ◌⊎◌, inl, inr, true, false, Option, Some, None, List, [], ◌∷◌, ◌++◌, length, refl, sym, ap, ◌∙◌, subst, arith}
use Rattle.limits.specs.Limits.{max_aliases, max_look_ups}
use Rattle.dname.specs.Labels.{Name}
use Rattle.rdata.specs.Records.{Record}
use Rattle.rdata.specs.declared.addr.Addr.{Addr}
use Rattle.zone.specs.Zones.{a_type}
use Rattle.zone.specs.Links as said
use Rattle.zone.specs.Links.{Link}
use Rattle.causes.specs.declared.cause.Cause.{Cause}
use Rattle.causes.specs.declared.cause.Cause.TheVariants as cause
use Rattle.front.specs.Chains.{alias_target}
use Rattle.retry.specs.Plans.{upcoming}
use Rattle.referral.specs.Cuts.{Cut}
use Rattle.cache.specs.Cached.{Question}
use Rattle.cache.specs.Failures.{FailedAsk}
use Rattle.frames.specs.Frames.{Failed, marked, opened, next_name}
use Rattle.resolution.specs.Jobs.{Home, Stores, level_of, Taken, AreFresh, IsDead, IsEnding, Search, search_at, fails_now, Job, MayLookUp, Next, AskUdp, AskTcp, Done, Fail, MaySend, asked, asked_again, Task, Seek, Take, Go, Again, Point, point}
use Rattle.resolution.specs.Rules.{PassesOver, IsFree, UsesServerAddress, turned, Rule, takes, asks, follows, restarts, skips, hears, descends, gives_up, IsDueAgain, MayNotSend, spent_cause, Leaves, sends, sends_again, refuses, spent, looked_out, nowhere, too_long, done}
use Rattle.resolution.proofs.Passing.{passes_first}
use Rattle.runs.specs.Steps.{IsAsk}
use Rattle.laws.specs.Determined.{AreNamed}
use Rattle.laws.specs.Looks.{rule_hits}
use Rattle.laws.proofs.OneChoice.{some_one, uses_one, sight, IsSeen, found_seen, seen_one, IsMissed, missed_so, missed_one, seen_not_missed, passes_one, first_dead_one, dead_not_fresh}

-- ---- what is to be done at a point

-- By its task and its searches. A link is sought; an alias leads on; a chain ends; an address comes next; a server's
-- name comes next; a search has nothing left; there is no search; a server is asked again.
data Place : Type 0 where
  Seeking : Place
  Leading : Taken → Record → Place
  Ending : Taken → Place
  Due : Search → List Search → Addr → Place
  Named : Search → List Search → Name → Place
  UsedUp : Search → List Search → Place
  Nowhere : Place
  Repeating : Search → List Search → Addr → Place

abbrev place_link : Taken → Link → Place
place_link l (said.Found set) = Ending l
place_link l (said.Alias r) = Leading l r
place_link l (said.NoData soa) = Ending l
place_link l (said.NxDomain soa) = Ending l

abbrev place_name : Search → List Search → Option Name → Place
place_name s rest None = UsedUp s rest
place_name s rest (Some n) = Named s rest n

abbrev place_plan : Failed → Search → List Search → Option Addr → Place
place_plan failed s rest None = place_name s rest (next_name failed s.frame)
place_plan failed s rest (Some a) = Due s rest a

abbrev place_go : Failed → List Search → Place
place_go failed [] = Nowhere
place_go failed (s ∷ rest) = place_plan failed s rest (upcoming (s.frame).plan)

abbrev place_again : Addr → List Search → Place
place_again a [] = Nowhere
place_again a (s ∷ rest) = Repeating s rest a

abbrev place_task : Task → Job → Place
place_task Seek j = Seeking
place_task (Take l) j = place_link l l.link
place_task Go j = place_go j.failed j.searches
place_task (Again a) j = place_again a j.searches

abbrev place : Point → Place
place p = place_task p.task p.job

ending_place : (l : Taken) (k : Link) → IsEnding k → place_link l k ≡ Ending l
ending_place l (said.Found set) h = refl
ending_place l (said.Alias r) h = absurd h
ending_place l (said.NoData soa) h = refl
ending_place l (said.NxDomain soa) h = refl

at_link : (p : Point) (l : Taken) → p.task ≡ Take l → place p ≡ place_link l l.link
at_link p l t = ap (λ (x : Task). place_task x p.job) t

at_searches : (p : Point) (s : Search) (rest : List Search) → p.task ≡ Go → (p.job).searches ≡ s ∷ rest → place p ≡ place_plan (p.job).failed s rest (upcoming (s.frame).plan)
at_searches p s rest t e = ap (λ (x : Task). place_task x p.job) t ∙ ap (place_go (p.job).failed) e

at_name : (p : Point) (s : Search) (rest : List Search) → p.task ≡ Go → (p.job).searches ≡ s ∷ rest → upcoming (s.frame).plan ≡ None → place p ≡ place_name s rest (next_name (p.job).failed s.frame)
at_name p s rest t e none = at_searches p s rest t e ∙ ap (place_plan (p.job).failed s rest) none

at_due : (p : Point) (s : Search) (rest : List Search) (a : Addr) → p.task ≡ Go → (p.job).searches ≡ s ∷ rest → upcoming (s.frame).plan ≡ Some a → place p ≡ Due s rest a
at_due p s rest a t e next = at_searches p s rest t e ∙ ap (place_plan (p.job).failed s rest) next

at_again : (p : Point) (a : Addr) (s : Search) (rest : List Search) → IsDueAgain p a s rest → place p ≡ Repeating s rest a
at_again p a s rest h = ap (λ (x : Task). place_task x p.job) h.task ∙ ap (place_again a) h.searches

pub point_is : (p : Point) (t : Task) (j : Job) (stores : Stores) → p.task ≡ t → p.job ≡ j → p.stores ≡ stores → p ≡ point t j stores
point_is p t j stores a b c = λ i. record { task = a i; job = b i; stores = c i }

-- ---- the rule of a place

module _ (home : Home) (now : ℕ) where
  -- The point that a rule leads to, without a hit in the cache.
  abbrev Leads : Point → List Question → Point → Type 0
  Leads b hits p = (b ≡ p) × (hits ≡ [])

  abbrev opened_at : Stores → Name → ℕ → ℕ → Cut → Search
  opened_at stores n t nesting c = search_at n t (opened (level_of stores) nesting c)

  abbrev Ruled : Place → Point → Point → List Question → Type 0
  Ruled Seeking a b hits =
      ((l : Taken) × (new : Stores) × IsSeen home now (a.job).name (a.job).kind a.stores (sight home now (a.job).name (a.job).kind a.stores) l new hits × (b ≡ point (Take l) a.job new))
      ⊎ ((c : Cut) × (new : Stores) × IsMissed home now (a.job).name (a.job).kind a.stores (sight home now (a.job).name (a.job).kind a.stores) c new
      × Leads b hits (point Go (record a.job { searches = opened_at new (a.job).name (a.job).kind 0 c ∷ [] }) new))
  Ruled (Leading l r) a b hits = (length (a.job).chain < max_aliases) × Leads b hits (point Seek (record a.job { chain = (a.job).chain ++ l ∷ []; name = alias_target r }) a.stores)
  Ruled (Ending l) a b hits =
      (d : Taken) × (front : List Taken) × (back : List Taken) × ((a.job).chain ++ l ∷ [] ≡ front ++ d ∷ back) × AreFresh now front × IsDead now d
      × Leads b hits (point Seek (record a.job { chain = front; name = d.name; searches = [] }) a.stores)
  Ruled (Due s rest server) a b hits =
      (n : ℕ) × (t : Search) × (failures : List (FailedAsk × ℕ)) × PassesOver now (suc n) s (a.stores).failures t failures × IsFree now t failures
      × Leads b hits (point Go (record a.job { searches = t ∷ rest; skipped = true }) (record a.stores { failures = failures }))
  Ruled (Named s rest n) a b hits =
      MayLookUp a.job
      × (((l : Taken) × (new : Stores) × (after : Search) × (marks : Failed) × IsSeen home now n a_type a.stores (sight home now n a_type a.stores) l new hits
      × UsesServerAddress new n l.link (turned (a.job).failed s) (a.job).failed after marks
      × (b ≡ point Go (record a.job { searches = after ∷ rest; failed = marks; look_ups = (a.job).look_ups + 1 }) new))
      ⊎ ((c : Cut) × (new : Stores) × IsMissed home now n a_type a.stores (sight home now n a_type a.stores) c new
      × Leads b hits (point Go (record a.job { searches = opened_at new n a_type ((s.frame).nesting + 1) c ∷ turned (a.job).failed s ∷ rest; look_ups = (a.job).look_ups + 1 }) new)))
  Ruled (UsedUp s rest) a b hits =
      (around : Search) × (more : List Search) × (rest ≡ around ∷ more)
      × Leads b hits (point Go (record a.job { searches = around ∷ more; failed = marked (a.job).failed s.name (s.frame).nesting }) a.stores)
  Ruled Nowhere a b hits = ⊥
  Ruled (Repeating s rest server) a b hits = ⊥

  module _ (a b : Point) where
    at_place : (x : Place) (hits : List Question) → place a ≡ x → Ruled x a b hits → Ruled (place a) a b hits
    at_place x hits e h = subst (λ (y : Place). Ruled y a b hits) (sym e) h

    rule_at : (r : Rule home now a b) → Ruled (place a) a b (rule_hits home now a b r)
    rule_at (takes l t f u j) =
        at_place Seeking _ (ap (λ (x : Task). place_task x a.job) t)
        (inl (l, b.stores, found_seen home now (a.job).name (a.job).kind a.stores l b.stores f, point_is b (Take l) a.job b.stores u j refl))
    rule_at (asks c t m u j) =
        at_place Seeking _ (ap (λ (x : Task). place_task x a.job) t)
        (inr (c, b.stores, missed_so home now (a.job).name (a.job).kind a.stores c b.stores m, (point_is b Go _ b.stores u j refl, refl)))
    rule_at (follows l r t is few u j e) = at_place (Leading l r) _ (at_link a l t ∙ ap (place_link l) is) (few, (point_is b Seek _ a.stores u j e, refl))
    rule_at (restarts l d front back t is whole fresh dead u j e) =
        at_place (Ending l) _ (at_link a l t ∙ ending_place l l.link is) (d, front, back, whole, fresh, dead, (point_is b Seek _ a.stores u j e, refl))
    rule_at (skips n s v rest failures t searches passes free u j e) =
        let (server, next, fails) = passes_first now n s (a.stores).failures v failures passes in
        at_place (Due s rest server) _ (at_due a s rest server t searches next) (n, v, failures, passes, free, (point_is b Go _ _ u j e, refl))
    rule_at (hears before after rest n l marks t turn f h u j) =
        at_place (Named before rest n) _ (at_name a before rest t turn.searches turn.asked_all ∙ ap (place_name before rest) turn.turn)
        (turn.few, inl (l, b.stores, after, marks, found_seen home now n a_type a.stores l b.stores f, h, point_is b Go _ b.stores u j refl))
    rule_at (descends s rest n c t turn m u j) =
        at_place (Named s rest n) _ (at_name a s rest t turn.searches turn.asked_all ∙ ap (place_name s rest) turn.turn)
        (turn.few, inr (c, b.stores, missed_so home now n a_type a.stores c b.stores m, (point_is b Go _ b.stores u j refl, refl)))
    rule_at (gives_up s around rest t up u j e) =
        at_place (UsedUp s (around ∷ rest)) _ (at_name a s (around ∷ rest) t up.searches up.asked_all ∙ ap (place_name s (around ∷ rest)) up.none_left)
        (around, rest, refl, (point_is b Go _ a.stores u j e, refl))

  -- A rule's outcome is one.
  abbrev IsOne : Point → Point → List Question → List Question → Type 0
  IsOne b c hits others = (b ≡ c) × (hits ≡ others)

  both_lead : (b c p q : Point) (hits others : List Question) → p ≡ q → Leads b hits p → Leads c others q → IsOne b c hits others
  both_lead b c p q hits others e (is, none) (so, nothing) = (is ∙ (e ∙ sym so), none ∙ sym nothing)

  module _ (a b c : Point) (hits others : List Question) (named : AreNamed (a.stores).delegations) where
    ruled_one : (x : Place) → Ruled x a b hits → Ruled x a c others → IsOne b c hits others
    ruled_one Seeking (inl (l, new, seen, is)) (inl (m, other, saw, so)) =
        let (e, f, g) = seen_one home now (a.job).name (a.job).kind a.stores (sight home now (a.job).name (a.job).kind a.stores) l m new other hits others seen saw in
        (is ∙ ((λ i. point (Take (e i)) a.job (f i)) ∙ sym so), g)
    ruled_one Seeking (inl (l, new, seen, is)) (inr (d, other, missed, so)) =
        absurd (seen_not_missed home now (a.job).name (a.job).kind a.stores (sight home now (a.job).name (a.job).kind a.stores) l new other hits d seen missed)
    ruled_one Seeking (inr (d, new, missed, is)) (inl (l, other, seen, so)) =
        absurd (seen_not_missed home now (a.job).name (a.job).kind a.stores (sight home now (a.job).name (a.job).kind a.stores) l other new others d seen missed)
    ruled_one Seeking (inr (d, new, missed, is)) (inr (k, other, lost, so)) =
        let (e, f) = missed_one home now (a.job).name (a.job).kind a.stores named (sight home now (a.job).name (a.job).kind a.stores) d k new other missed lost in
        both_lead b c _ _ hits others (λ i. point Go (record a.job { searches = opened_at (f i) (a.job).name (a.job).kind 0 (e i) ∷ [] }) (f i)) is so
    ruled_one (Leading l r) (few, is) (less, so) = both_lead b c _ _ hits others refl is so
    ruled_one (Ending l) (d, front, back, whole, fresh, dead, is) (e, ahead, behind, all, young, gone, so) =
        let (f, g) = first_dead_one now front ahead d e back behind (sym whole ∙ all) fresh young dead gone in
        both_lead b c _ _ hits others (λ i. point Seek (record a.job { chain = f i; name = (g i).name; searches = [] }) a.stores) is so
    ruled_one (Due s rest server) (n, t, failures, passes, free, is) (m, u, kept, passed, open_now, so) =
        let (e, f) = passes_one now s (a.stores).failures (suc n) (suc m) t u failures kept passes free passed open_now in
        both_lead b c _ _ hits others (λ i. point Go (record a.job { searches = e i ∷ rest; skipped = true }) (record a.stores { failures = f i })) is so
    ruled_one (Named s rest n) (may, inl (l, new, after, marks, seen, uses, is)) (might, inl (m, other, later, marked_so, saw, used_so, so)) =
        let (e, f, g) = seen_one home now n a_type a.stores (sight home now n a_type a.stores) l m new other hits others seen saw in
        let alike = subst (λ (x : Stores). UsesServerAddress x n l.link (turned (a.job).failed s) (a.job).failed later marked_so) (sym f)
        (subst (λ (x : Taken). UsesServerAddress other n x.link (turned (a.job).failed s) (a.job).failed later marked_so) (sym e) used_so) in
        let (h, k) = uses_one new n l.link (turned (a.job).failed s) (a.job).failed after later marks marked_so uses alike in
        (is ∙ ((λ i. point Go (record a.job { searches = h i ∷ rest; failed = k i; look_ups = (a.job).look_ups + 1 }) (f i)) ∙ sym so), g)
    ruled_one (Named s rest n) (may, inl (l, new, after, marks, seen, uses, is)) (might, inr (d, other, missed, so)) =
        absurd (seen_not_missed home now n a_type a.stores (sight home now n a_type a.stores) l new other hits d seen missed)
    ruled_one (Named s rest n) (may, inr (d, new, missed, is)) (might, inl (l, other, after, marks, seen, uses, so)) =
        absurd (seen_not_missed home now n a_type a.stores (sight home now n a_type a.stores) l other new others d seen missed)
    ruled_one (Named s rest n) (may, inr (d, new, missed, is)) (might, inr (k, other, lost, so)) =
        let (e, f) = missed_one home now n a_type a.stores named (sight home now n a_type a.stores) d k new other missed lost in
        both_lead b c _ _ hits others
        (λ i. point Go (record a.job { searches = opened_at (f i) n a_type ((s.frame).nesting + 1) (e i) ∷ turned (a.job).failed s ∷ rest; look_ups = (a.job).look_ups + 1 }) (f i)) is so
    ruled_one (UsedUp s rest) (around, more, e, is) (outer, further, f, so) =
        let whole : around ∷ more ≡ outer ∷ further = sym e ∙ f in
        both_lead b c _ _ hits others (λ i. point Go (record a.job { searches = whole i; failed = marked (a.job).failed s.name (s.frame).nesting }) a.stores) is so
    ruled_one Nowhere is so = absurd is
    ruled_one (Repeating s rest server) is so = absurd is

  pub rule_one : (a b c : Point) → AreNamed (a.stores).delegations → (r : Rule home now a b) (s : Rule home now a c) → (b ≡ c) × (rule_hits home now a b r ≡ rule_hits home now a c s)
  rule_one a b c named r s = ruled_one a b c (rule_hits home now a b r) (rule_hits home now a c s) named (place a) (rule_at a b r) (rule_at a c s)

  -- ---- the result of a place

  -- The ask goes out, or it may not.
  abbrev MayGo : Point → Next → Job → Next → Job → Type 0
  MayGo p ask waiting next job = (MaySend now p.job × (next ≡ ask) × (job ≡ waiting)) ⊎ ((c : Cause) × MayNotSend now p.job c × (next ≡ Fail c))

  abbrev Left : Place → Point → Next → Job → Type 0
  Left Seeking p next job = ⊥
  Left (Leading l r) p next job = (max_aliases ≤ length (p.job).chain) × (next ≡ Fail cause.ChainTooLong)
  Left (Ending l) p next job = AreFresh now ((p.job).chain ++ l ∷ []) × (next ≡ Done (p.job).chain l)
  Left (Due s rest server) p next job = (upcoming (s.frame).plan ≡ Some server) × (fails_now now (p.stores).failures s server ≡ false) × MayGo p (AskUdp server s.name s.kind) (asked p.job s rest) next job
  Left (Named s rest n) p next job = (max_look_ups ≤ (p.job).look_ups) × (next ≡ Fail cause.TooManyLookUps)
  Left (UsedUp s rest) p next job = (rest ≡ []) × (next ≡ Fail (spent_cause (p.job).skipped))
  Left Nowhere p next job = next ≡ Fail cause.NoServerLeft
  Left (Repeating s rest server) p next job = MayGo p (AskTcp server s.name s.kind) (asked_again p.job) next job

  module _ (p : Point) (next : Next) (job : Job) (stores : Stores) where
    left_place : (x : Place) → place p ≡ x → Left x p next job → Left (place p) p next job
    left_place x e h = subst (λ (y : Place). Left y p next job) (sym e) h

    left_at : Leaves home now p next job stores → Left (place p) p next job
    left_at (sends server s rest is may n j e) = left_place (Due s rest server) (at_due p s rest server is.task is.searches is.next) (is.next, is.free, inl (may, n, j))
    left_at (sends_again server s rest is may n j e) = left_place (Repeating s rest server) (at_again p server s rest is) (inl (may, n, j))
    left_at (refuses c server s rest (inl is) not n e) = left_place (Due s rest server) (at_due p s rest server is.task is.searches is.next) (is.next, is.free, inr (c, not, n))
    left_at (refuses c server s rest (inr is) not n e) = left_place (Repeating s rest server) (at_again p server s rest is) (inr (c, not, n))
    left_at (spent s t up n e) = left_place (UsedUp s []) (at_name p s [] t up.searches up.asked_all ∙ ap (place_name s []) up.none_left) (refl, n)
    left_at (looked_out s rest n t out is e) = left_place (Named s rest n) (at_name p s rest t out.searches out.asked_all ∙ ap (place_name s rest) out.turn) (out.many, is)
    left_at (nowhere (inl t) none n e) = left_place Nowhere (ap (λ (x : Task). place_task x p.job) t ∙ ap (place_go (p.job).failed) none) n
    left_at (nowhere (inr (server, t)) none n e) = left_place Nowhere (ap (λ (x : Task). place_task x p.job) t ∙ ap (place_again server) none) n
    left_at (too_long l r t is long n e) = left_place (Leading l r) (at_link p l t ∙ ap (place_link l) is) (long, n)
    left_at (done l t is fresh n e) = left_place (Ending l) (at_link p l t ∙ ending_place l l.link is) (fresh, n)

  -- A result is one, and so is the job where it is an ask.
  abbrev AreOne : Next → Next → Job → Job → Type 0
  AreOne next other job also = (next ≡ other) × (IsAsk next → job ≡ also)

  no_ask : (next : Next) (c : Cause) (P : Type 0) → next ≡ Fail c → IsAsk next → P
  no_ask next c P e h = absurd (subst IsAsk e h)

  both_fail : (next other : Next) (job also : Job) (c : Cause) → next ≡ Fail c → other ≡ Fail c → AreOne next other job also
  both_fail next other job also c e f = (e ∙ sym f, no_ask next c (job ≡ also) e)

  cause_one : (j : Job) (c d : Cause) → MayNotSend now j c → MayNotSend now j d → c ≡ d
  cause_one j c d (inl (e, late)) (inl (f, over)) = e ∙ sym f
  cause_one j c d (inl (e, late)) (inr (f, early, many)) = absurd (omega (arith, late, early))
  cause_one j c d (inr (e, early, many)) (inl (f, late)) = absurd (omega (arith, late, early))
  cause_one j c d (inr (e, early, many)) (inr (f, before, much)) = e ∙ sym f

  may_or_not : (j : Job) (c : Cause) → MaySend now j → MayNotSend now j c → ⊥
  may_or_not j c may (inl (e, late)) = let early = may.early in omega (arith, late, early)
  may_or_not j c may (inr (e, early, many)) = let few = may.few in omega (arith, few, many)

  module _ (p : Point) (next other : Next) (job also : Job) where
    goes_one : (ask : Next) (waiting : Job) → MayGo p ask waiting next job → MayGo p ask waiting other also → AreOne next other job also
    goes_one ask waiting (inl (may, e, f)) (inl (might, g, h)) = (e ∙ sym g, λ is. f ∙ sym h)
    goes_one ask waiting (inl (may, e, f)) (inr (c, not, g)) = absurd (may_or_not p.job c may not)
    goes_one ask waiting (inr (c, not, g)) (inl (may, e, f)) = absurd (may_or_not p.job c may not)
    goes_one ask waiting (inr (c, not, e)) (inr (d, nor, f)) = (e ∙ (ap Fail (cause_one p.job c d not nor) ∙ sym f), no_ask next c (job ≡ also) e)

    left_one : (x : Place) → Left x p next job → Left x p other also → AreOne next other job also
    left_one Seeking a b = absurd a
    left_one (Leading l r) (long, e) (much, f) = both_fail next other job also _ e f
    left_one (Ending l) (fresh, e) (young, f) = (e ∙ sym f, λ is. absurd (subst IsAsk e is))
    left_one (Due s rest server) (up, free, a) (come, well, b) = goes_one _ _ a b
    left_one (Named s rest n) (many, e) (much, f) = both_fail next other job also _ e f
    left_one (UsedUp s rest) (none, e) (nothing, f) = both_fail next other job also _ e f
    left_one Nowhere e f = both_fail next other job also _ e f
    left_one (Repeating s rest server) a b = goes_one _ _ a b

  pub leaves_one : (p : Point) (next other : Next) (job also : Job) (stores left : Stores) → Leaves home now p next job stores → Leaves home now p other also left → AreOne next other job also
  leaves_one p next other job also stores left a b = left_one p next other job also (place p) (left_at p next job stores a) (left_at p other also left b)

  -- Where a result is left no rule applies.
  module _ (p b : Point) (next : Next) (job : Job) (hits : List Question) where
    not_both : (x : Place) → Ruled x p b hits → Left x p next job → ⊥
    not_both Seeking r l = l
    not_both (Leading l r) (few, is) (long, e) = omega (arith, few, long)
    not_both (Ending l) (d, front, back, whole, old, dead, is) (fresh, e) = dead_not_fresh now front d back (subst (AreFresh now) whole fresh) dead
    not_both (Due s rest server) (n, t, failures, passes, free, is) (up, well, goes) =
        let (first, next_is, fails) = passes_first now n s (p.stores).failures t failures passes in
        let same : first ≡ server = some_one first server (sym next_is ∙ up) in
        let both : true ≡ false = sym fails ∙ (ap (fails_now now (p.stores).failures s) same ∙ well) in
        cc
    not_both (Named s rest n) (may, is) (many, e) = omega (arith, may, many)
    not_both (UsedUp s rest) (around, more, e, is) (none, f) = let both : around ∷ more ≡ [] = sym e ∙ none in cc
    not_both Nowhere r l = r
    not_both (Repeating s rest server) r l = r

  pub no_rule_left : (p b : Point) (next : Next) (job : Job) (stores : Stores) → Rule home now p b → Leaves home now p next job stores → ⊥
  no_rule_left p b next job stores r l = not_both p b next job (rule_hits home now p b r) (place p) (rule_at p b r) (left_at p next job stores l)
