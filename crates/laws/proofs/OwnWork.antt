-- Where memory ran out in a step, the stores are as this query's own work left them.
use Rattle.std.proofs.Common.{◌≡◌, ℕ, zero, suc, ◌+◌, ◌⊎◌, inl, inr, cond, Option, Some, None, is_some, List, ◌∷◌, ◌++◌, drop, Contains, refl, sym, ap, subst}
use Rattle.zone.proofs.LawLists.{first_in, later_in}
use Rattle.dname.specs.Labels.{Name}
use Rattle.zone.specs.Zones.{a_type}
use Rattle.rdata.specs.declared.addr.Addr.{Addr}
use Rattle.wire.specs.declared.via.Via.{Via}
use Rattle.front.specs.declared.queries.Request.TheVariants as request
use Rattle.retry.specs.Plans.{Plan, upcoming, advanced}
use Rattle.cache.specs.Failures.{FailedAsk}
use Rattle.resolution.specs.Jobs.{Home, Stores, Search, given, ask_of, left_of, Job, Input, Start, Go, Point}
use Rattle.resolution.specs.Rules.{PassesOver, Rule, takes, asks, follows, restarts, skips, hears, descends, gives_up, Rules}
use Rattle.resolution.specs.Stops.{LooksInPart, IsPart, untouched, looked, passed, Stops, in_input, in_rule}
use Rattle.resolution.proofs.Looked.{finds_look, misses_look}
use Rattle.resolution.proofs.Passing.{passes_keep, passes_ask, left_first}
use Rattle.runs.specs.States.{Event, Client, Datagram, TcpReply, Tick, Action, Served, OpenQuery, job_for, Open, Site, State, moved}
use Rattle.runs.specs.States as event
use Rattle.runs.specs.Steps.{IsInput, IsLeft, IsStarved, IsTurn}
use Rattle.runs.proofs.Clocks.{clock_of_run}
use Rattle.laws.specs.OwnWork.{IsSoughtFrom, IsUse, AreUses, IsWrittenAndUsed, IsWorkOf, OrderIsKept}
use Rattle.laws.proofs.States.{turn_of}

-- ---- plans

given_left : (p : Plan) (a : Addr) → Contains (left_of (advanced p)) a → Contains (left_of p) a
given_left p a h = by (upcoming p) refl
  where
    by : (o : Option Addr) → upcoming p ≡ o → Contains (left_of p) a
    by (Some b) is = subst (λ (xs : List Addr). Contains xs a) (sym (left_first p b is)) (later_in b a (left_of (advanced p)) h)
    by None is = subst (λ (g : ℕ). Contains (drop g (p.order ++ p.order)) a) (ap (λ (o : Option Addr). cond (is_some o) (p.given + 1) p.given) is) h

-- A server that is passed over was left to ask.
passed_left : (now n : ℕ) (s : Search) (fs : List (FailedAsk × ℕ)) (t : Search) (gs : List (FailedAsk × ℕ)) (a : Addr) → PassesOver now n s fs t gs → upcoming (t.frame).plan ≡ Some a → Contains (left_of (s.frame).plan) a
passed_left now n s fs t gs a passes next =
    passes_keep (λ x. (b : Addr) → Contains (left_of (x.frame).plan) b → Contains (left_of (s.frame).plan) b) now n s fs t gs
    (λ x within b h. within b (given_left (x.frame).plan b h)) passes (λ b h. h) a
    (subst (λ (xs : List Addr). Contains xs a) (sym (left_first (t.frame).plan a next)) (first_in a (left_of (advanced (t.frame).plan))))

-- ---- rules

module _ (home : Home) (now : ℕ) (first : Point) where
  abbrev Used : Stores → Stores → Type 0
  Used old new = (n : ℕ) × AreUses home now first n old new

  used_same : (old mid new : Stores) → new ≡ mid → Used old mid → Used old new
  used_same old mid new is h = subst (Used old) (sym is) h

  used_more : (old mid new : Stores) → Used old mid → IsUse home now first mid new → Used old new
  used_more old mid new (n, h) one = (suc n, (mid, h, one))

  used_look : (old mid new : Stores) (n : Name) (t : ℕ) → IsSoughtFrom home now first n t → LooksInPart home now n t mid new → Used old mid → Used old new
  used_look old mid new n t sought (inl same) h = used_same old mid new same h
  used_look old mid new n t sought (inr (remote, is)) h = used_more old mid new h (inl (n, t, sought, is))

  module _ (count : ℕ) (p : Point) (rules : Rules home now count first p) where
    used_passes : (s : Search) (rest : List Search) → p.task ≡ Go → (p.job).searches ≡ s ∷ rest → (old mid : Stores) (n : ℕ) (t : Search) (gs : List (FailedAsk × ℕ))
        → PassesOver now n s mid.failures t gs → Used old mid → Used old (record mid { failures = gs })
    used_passes s rest go searches old mid zero t gs (same, is) h = used_same old mid (record mid { failures = gs }) (λ i. record mid { failures = is i }) h
    used_passes s rest go searches old mid (suc n) t gs (here, held, server, before, next, fails, one, is) h =
        used_more old (record mid { failures = held }) (record mid { failures = gs }) (used_passes s rest go searches old mid n here held before h)
        (inr (
          ask_of here server,
          (count, p, rules, go, (s, rest, searches, (server, passed_left now n s mid.failures here held server before next, passes_ask now n s mid.failures here held server before))),
          λ i. record mid { failures = is i },
        ))

    rule_used : (old : Stores) (b : Point) → Rule home now p b → Used old p.stores → Used old b.stores
    rule_used old b (takes l at finds to job) h =
        used_look old p.stores b.stores (p.job).name (p.job).kind (count, p, rules, inl (at, refl, refl)) (finds_look home now (p.job).name (p.job).kind p.stores l b.stores finds) h
    rule_used old b (asks c at misses to job) h =
        used_look old p.stores b.stores (p.job).name (p.job).kind (count, p, rules, inl (at, refl, refl)) (misses_look home now (p.job).name (p.job).kind p.stores c b.stores misses) h
    rule_used old b (follows l r at alias few to job is) h = used_same old p.stores b.stores is h
    rule_used old b (restarts l d front back at ending split alive dead to job is) h = used_same old p.stores b.stores is h
    rule_used old b (skips n s t rest failures at searches passes free to job is) h =
        used_same old (record p.stores { failures = failures }) b.stores is (used_passes s rest at searches old p.stores (suc n) t failures passes h)
    rule_used old b (hears before after rest n l marks at turn finds heard to job) h =
        used_look old p.stores b.stores n a_type (count, p, rules, inr (at, refl, (before, rest, turn))) (finds_look home now n a_type p.stores l b.stores finds) h
    rule_used old b (descends s rest n c at turn misses to job) h =
        used_look old p.stores b.stores n a_type (count, p, rules, inr (at, refl, (s, rest, turn))) (misses_look home now n a_type p.stores c b.stores misses) h
    rule_used old b (gives_up s around rest at up to job is) h = used_same old p.stores b.stores is h

    part_used : (old after : Stores) → IsPart home now p after → Used old p.stores → Used old after
    part_used old after (untouched is) h = used_same old p.stores after is h
    part_used old after (looked n t sought remote is) h = used_look old p.stores after n t (count, p, rules, sought) (inr (remote, is)) h
    part_used old after (passed n s t rest failures go searches passes is) h =
        used_same old (record p.stores { failures = failures }) after is (used_passes s rest go searches old p.stores n t failures passes h)

  rules_used : (n : ℕ) (b : Point) → Rules home now n first b → Used first.stores b.stores
  rules_used zero b is = used_same first.stores first.stores b.stores (ap (λ (x : Point). x.stores) is) (zero, refl)
  rules_used (suc n) b (mid, rules, rule) = rule_used n mid rules first.stores b rule (rules_used n mid rules)

-- ---- one call

stops_used : (home : Home) (now : ℕ) (input : Input) (j : Job) (old new : Stores) → Stops home now input j old new → IsWrittenAndUsed home now input j old new
stops_used home now input j old new (in_input part) = inl part
stops_used home now input j old new (in_rule first last count enters rules part) =
    let (n, uses) = part_used home now first count last rules first.stores new part (rules_used home now first count last rules) in
    inr (first, n, enters, uses)

-- ---- one step

module _ (s : State) where
  abbrev Moves : Event → Served → State → Type 0
  Moves event served new =
      (new.stores ≡ s.stores) ⊎ ((input : Input) × (j : Job) × IsWorkOf s (turn_of event served None) input j × IsWrittenAndUsed (s.site).home s.clock input j s.stores new.stores)

  client_moves : (now client : ℕ) (way : Via) (bytes : List ℕ) (served : Served) (new : State) → IsStarved s (Client now client way bytes) served new → Moves (Client now client way bytes) served new
  client_moves now client way bytes served new (is, left) = elim left.stores [
    | inl same ↦ inl same
    | inr on ↦ inr (
      Start,
      job_for s.clock on.0,
      inl (now, client, way, bytes, on.0, refl, on.1, on.2, refl, refl),
      stops_used (s.site).home s.clock Start (job_for s.clock on.0) s.stores new.stores on.3,
    )
  ]

  open_moves : (event : Event) (served : Served) (new : State) (q : Open) → Contains s.queries q → served ≡ OpenQuery q.number
      → IsLeft s q.number (λ stores. (input : Input) × IsInput s event q input × Stops (s.site).home s.clock input q.job s.stores stores) new → Moves event served new
  open_moves event served new q there is left = elim left.stores [
    | inl same ↦ inl same
    | inr on ↦ inr (on.0, q.job, inr (q, there, is, on.1, refl), stops_used (s.site).home s.clock on.0 q.job s.stores new.stores on.2)
  ]

  starved_moves : (event : Event) (served : Served) (new : State) → IsStarved s event served new → Moves event served new
  starved_moves (Client now client way bytes) served new h = client_moves now client way bytes served new h
  starved_moves (Datagram now sock from bytes) served new (q, there, is, meant, left) = open_moves (Datagram now sock from bytes) served new q there is left
  starved_moves (TcpReply now number bytes) served new (q, there, is, meant, left) = open_moves (TcpReply now number bytes) served new q there is left
  starved_moves (event.TcpFailed now number) served new (q, there, is, meant, left) = open_moves (event.TcpFailed now number) served new q there is left
  starved_moves (Tick now) served new (q, there, is, meant, left) = open_moves (Tick now) served new q there is left

pub order_is_kept : OrderIsKept
order_is_kept site past old t new legal step none =
    let here : old.site ≡ site = (clock_of_run site past old legal).1 in
    subst (λ (x : Site). (new.stores ≡ old.stores) ⊎ ((input : Input) × (j : Job) × IsWorkOf (moved old t.event) t input j × IsWrittenAndUsed x.home (moved old t.event).clock input j old.stores new.stores)) here
    (by t.out none step.turn)
  where
    by : (out : Option (List Action)) → out ≡ None → IsTurn (moved old t.event) t.event t.served out new
        → (new.stores ≡ old.stores) ⊎ ((input : Input) × (j : Job) × IsWorkOf (moved old t.event) t input j × IsWrittenAndUsed (old.site).home (moved old t.event).clock input j old.stores new.stores)
    by None e h = starved_moves (moved old t.event) t.event t.served new h
    by (Some out) e h = absurd (cc)
