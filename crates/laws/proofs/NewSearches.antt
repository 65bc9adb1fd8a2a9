-- Each search that is there after a step was there before, is at an accepted referral's cut, or was opened by a rule.
use Rattle.std.proofs.Common.{◌≡◌, ℕ, zero, suc, ◌+◌, ◌⊎◌, inl, inr, Option, Some, None, List, [], ◌∷◌, ◌++◌, Contains, refl, sym, ap, ◌∙◌, subst, append_assoc}
use Rattle.lru.proofs.Splits.{Contains-head, Contains-tail, Contains-cons, Contains-nil}
use Rattle.dname.specs.Labels.{Name}
use Rattle.rdata.specs.Records.{Record}
use Rattle.rdata.specs.declared.addr.Addr.{Addr}
use Rattle.zone.specs.Zones.{a_type}
use Rattle.zone.specs.Links as said
use Rattle.zone.specs.Links.{Link}
use Rattle.message_grammar.specs.Messages.{Message}
use Rattle.wire.specs.declared.via.Via.{Via}
use Rattle.front.specs.declared.queries.Request.{Request}
use Rattle.front.specs.declared.queries.Request.TheVariants as request
use Rattle.classify.specs.Classes as class
use Rattle.classify.specs.Classes.{class_of}
use Rattle.retry.specs.Penalties.{penalty}
use Rattle.retry.specs.Plans.{by_penalty}
use Rattle.referral.specs.Cuts.{Cut}
use Rattle.frames.specs.Frames.{Failed, opened, after_add, fresh_addresses}
use Rattle.resolution.specs.Jobs.{Home, Stores, level_of, with_told, IsCutOf, Search, with_frame, given, Job, Input, Start, Told, TimedOut, Next, Point}
use Rattle.resolution.specs.Jobs as jobs
use Rattle.resolution.specs.Rules.{UsesServerAddress, turned, Rule, takes, asks, follows, restarts, skips, hears, descends, gives_up, Rules, IsAnswered, ByClass, Enters, Leaves, sends, sends_again, refuses, spent, looked_out, nowhere, too_long, done, Advances}
use Rattle.resolution.proofs.Passing.{passes_keep}
use Rattle.runs.specs.States.{Event, Client, Datagram, TcpReply, TcpFailed, Tick, Action, Served, OpenQuery, Turn, Plain, via_of, Open, Site, State, moved}
use Rattle.runs.specs.Messages.{Brings}
use Rattle.runs.specs.Steps.{IsHandled, IsInput, IsAsk, IsIgnored, ServesOpen, IsTurn, Step}
use Rattle.runs.specs.Runs.{Run}
use Rattle.runs.proofs.Clocks.{clock_of_run}
use Rattle.laws.specs.Calls.{Opening, opening_of}
use Rattle.laws.specs.Opens.{Call, handled_call, hears_call, either_call, turn_call, step_call, RulesOpen, Opens}
use Rattle.laws.specs.NewSearches.{GoesOn, HadSearch, IsReferralSearch, opened_search, IsOpenedSearch, NewIsOpened}
use Rattle.laws.proofs.Opened.{starts_rules}
use Rattle.laws.proofs.OrderlyLists.{same_number}
use Rattle.laws.proofs.Served.{BeginsWith, IsLeftBy, is_ask, step_calls}
use Rattle.laws.proofs.Skipped.{same_after}

-- ---- a search goes on

module _ (level : Addr → ℕ) where
  stays : (s : Search) → GoesOn level s s
  stays s = record { name = refl; kind = refl; nesting = refl; zone = refl; names = refl; plan = inl (refl, refl) }

  -- What leaves its plan's order and its addresses as they are.
  unchanged : (s u v : Search) → v.name ≡ u.name → v.kind ≡ u.kind → (v.frame).nesting ≡ (u.frame).nesting → (v.frame).zone ≡ (u.frame).zone → (v.frame).names ≡ (u.frame).names
      → (v.frame).addresses ≡ (u.frame).addresses → ((v.frame).plan).order ≡ ((u.frame).plan).order → GoesOn level s u → GoesOn level s v
  unchanged s u v name kind nesting zone names addresses order h = record {
    name = name ∙ h.name;
    kind = kind ∙ h.kind;
    nesting = nesting ∙ h.nesting;
    zone = zone ∙ h.zone;
    names = names ∙ h.names;
    plan = elim h.plan [
      | inl same ↦ inl (addresses ∙ same.0, order ∙ same.1)
      | inr more ↦ inr (more.0, more.1, addresses ∙ more.2, order ∙ more.3)
    ];
  }

  on_given : (s u : Search) → GoesOn level s u → GoesOn level s (given u)
  on_given s u h = unchanged s u (given u) refl refl refl refl refl refl refl h

  on_turned : (failed : Failed) (s u : Search) → GoesOn level s u → GoesOn level s (turned failed u)
  on_turned failed s u h = unchanged s u (turned failed u) refl refl refl refl refl refl refl h

  on_added : (s u : Search) (fresh : List Addr) → GoesOn level s u → GoesOn level s (with_frame u (after_add level u.frame fresh))
  on_added s u [] h = unchanged s u (with_frame u u.frame) refl refl refl refl refl refl refl h
  on_added s u (a ∷ more) h = record { name = h.name; kind = h.kind; nesting = h.nesting; zone = h.zone; names = h.names; plan = by h.plan }
    where
      by : (((u.frame).addresses ≡ (s.frame).addresses) × (((u.frame).plan).order ≡ ((s.frame).plan).order))
          ⊎ ((earlier : List Addr) × (last : List Addr) × ((u.frame).addresses ≡ (s.frame).addresses ++ (earlier ++ last)) × (((u.frame).plan).order ≡ by_penalty level last))
          → (((u.frame).addresses ++ (a ∷ more) ≡ (s.frame).addresses) × (by_penalty level (a ∷ more) ≡ ((s.frame).plan).order))
          ⊎ ((earlier : List Addr) × (last : List Addr) × ((u.frame).addresses ++ (a ∷ more) ≡ (s.frame).addresses ++ (earlier ++ last)) × (by_penalty level (a ∷ more) ≡ by_penalty level last))
      by (inl (same, order)) = inr ([], a ∷ more, ap (λ (xs : List Addr). xs ++ (a ∷ more)) same, refl)
      by (inr (earlier, last, same, order)) =
          inr (earlier ++ last, a ∷ more, ap (λ (xs : List Addr). xs ++ (a ∷ more)) same ∙ append_assoc (s.frame).addresses (earlier ++ last) (a ∷ more), refl)

  -- A search that a server's name had its turn for.
  on_used : (stores : Stores) (n : Name) (l : Link) (s before : Search) (failed : Failed) (after : Search) (marks : Failed) → level_of stores ≡ level → UsesServerAddress stores n l before failed after marks
      → GoesOn level s before → GoesOn level s after
  on_used stores n l s before failed after marks same uses h = elim uses.is [
    | inl x ↦ subst (GoesOn level s) (sym (x.4 ∙ ap (λ (f : Addr → ℕ). with_frame before (after_add f before.frame (fresh_addresses before.frame x.1))) same)) (on_added s before (fresh_addresses before.frame x.1) h)
    | inr x ↦ subst (GoesOn level s) (sym x.1) h
  ]

same_level : (old new : Stores) → new.penalties ≡ old.penalties → level_of new ≡ level_of old
same_level old new e = λ i a. penalty a (e i)

head_or : (u s : Search) (rest : List Search) → Contains (s ∷ rest) u → (u ≡ s) ⊎ Contains rest u
head_or u s rest c = elim (Contains-cons s rest u c) [ inl e ↦ inl (sym e) | inr d ↦ inr d ]

-- ---- along the rules

module _ (home : Home) (now : ℕ) (level : Addr → ℕ) (Origin : Search → Type 0) where
  -- Where a search comes from: from one that there was to begin with, or from one that a rule opened.
  abbrev From : (n : ℕ) (a b : Point) → Rules home now n a b → Search → Type 0
  From n a b rules u = (s : Search) × (Origin s ⊎ ((frame : Opening) × RulesOpen home now n a b rules frame × (s ≡ opened_search level frame))) × GoesOn level s u

  abbrev AreFrom : (n : ℕ) (a b : Point) → Rules home now n a b → List Search → Type 0
  AreFrom n a b rules ss = (u : Search) → Contains ss u → From n a b rules u

  module _ (n : ℕ) (a mid b : Point) (before : Rules home now n a mid) (same : level_of b.stores ≡ level) where
    -- A search of before, which went on.
    later : (rule : Rule home now mid b) (u v : Search) → ((s : Search) → GoesOn level s u → GoesOn level s v) → From n a mid before u → From (suc n) a b (mid, before, rule) v
    later rule u v on (s, origin, h) = (s, by origin, on s h)
      where
        by : Origin s ⊎ ((frame : Opening) × RulesOpen home now n a mid before frame × (s ≡ opened_search level frame))
            → Origin s ⊎ ((frame : Opening) × (RulesOpen home now n a mid before frame ⊎ (opening_of home now mid b rule ≡ Some frame)) × (s ≡ opened_search level frame))
        by (inl first) = inl first
        by (inr (frame, opens, is)) = inr (frame, inl opens, is)

    kept : (rule : Rule home now mid b) (ss : List Search) → (b.job).searches ≡ ss → AreFrom n a mid before ss → AreFrom (suc n) a b (mid, before, rule) (b.job).searches
    kept rule ss e all u c = later rule u u (λ s h. h) (all u (subst (λ (x : List Search). Contains x u) e c))

    -- The innermost one went on, and the others stay.
    went_on : (rule : Rule home now mid b) (s t : Search) (rest : List Search) → (b.job).searches ≡ t ∷ rest → ((o : Search) → GoesOn level o s → GoesOn level o t) → AreFrom n a mid before (s ∷ rest)
        → AreFrom (suc n) a b (mid, before, rule) (b.job).searches
    went_on rule s t rest e on all u c = elim (head_or u t rest (subst (λ (x : List Search). Contains x u) e c)) [
      | inl is ↦ subst (From (suc n) a b (mid, before, rule)) (sym is) (later rule s t on (all s (Contains-head s rest)))
      | inr d ↦ later rule u u (λ o h. h) (all u (Contains-tail s rest u d))
    ]

    -- One opened, and those around it are these.
    opened_on : (rule : Rule home now mid b) (frame : Opening) (around : List Search) → opening_of home now mid b rule ≡ Some frame
        → (b.job).searches ≡ opened_search (level_of b.stores) frame ∷ around → AreFrom (suc n) a b (mid, before, rule) around → AreFrom (suc n) a b (mid, before, rule) (b.job).searches
    opened_on rule frame around opens e all u c = elim (head_or u (opened_search (level_of b.stores) frame) around (subst (λ (x : List Search). Contains x u) e c)) [
      | inl is ↦ (u, inr (frame, inr opens, is ∙ ap (λ (f : Addr → ℕ). opened_search f frame) same), stays level u)
      | inr d ↦ all u d
    ]

    from_rule : (rule : Rule home now mid b) → AreFrom n a mid before (mid.job).searches → AreFrom (suc n) a b (mid, before, rule) (b.job).searches
    from_rule (takes l t f u j) all = kept (takes l t f u j) (mid.job).searches (ap (λ (x : Job). x.searches) j) all
    from_rule (asks c t m u j) all =
        opened_on (asks c t m u j) (record { name = (mid.job).name; kind = (mid.job).kind; nesting = 0; cut = c }) [] refl (ap (λ (x : Job). x.searches) j) (λ v none. absurd (Contains-nil v none))
    from_rule (follows l r t is few u j e) all = kept (follows l r t is few u j e) (mid.job).searches (ap (λ (x : Job). x.searches) j) all
    from_rule (restarts l d front back t is whole fresh dead u j e) all =
        kept (restarts l d front back t is whole fresh dead u j e) [] (ap (λ (x : Job). x.searches) j) (λ v none. absurd (Contains-nil v none))
    from_rule (skips k s v rest failures t searches passes free u j e) all =
        went_on (skips k s v rest failures t searches passes free u j e) s v rest (ap (λ (x : Job). x.searches) j)
        (λ o h. passes_keep (GoesOn level o) now (suc k) s (mid.stores).failures v failures (on_given level o) passes h) (subst (AreFrom n a mid before) searches all)
    from_rule (hears s after rest m l marks t turn f h u j) all =
        went_on (hears s after rest m l marks t turn f h u j) s after rest (ap (λ (x : Job). x.searches) j)
        (λ o g. on_used level b.stores m l.link o (turned (mid.job).failed s) (mid.job).failed after marks same h (on_turned level (mid.job).failed o s g)) (subst (AreFrom n a mid before) turn.searches all)
    from_rule (descends s rest m c t turn k u j) all =
        opened_on (descends s rest m c t turn k u j) (record { name = m; kind = a_type; nesting = (s.frame).nesting + 1; cut = c }) (turned (mid.job).failed s ∷ rest) refl
        (ap (λ (x : Job). x.searches) j)
        (λ v d. elim (head_or v (turned (mid.job).failed s) rest d) [
          | inl is ↦ subst (From (suc n) a b (mid, before, descends s rest m c t turn k u j)) (sym is)
              (later (descends s rest m c t turn k u j) s (turned (mid.job).failed s) (λ o g. on_turned level (mid.job).failed o s g) (subst (AreFrom n a mid before) turn.searches all s (Contains-head s rest)))
          | inr more ↦ later (descends s rest m c t turn k u j) v v (λ o h. h) (subst (AreFrom n a mid before) turn.searches all v (Contains-tail s rest v more))
        ])
    from_rule (gives_up s around rest t up u j e) all =
        kept (gives_up s around rest t up u j e) (around ∷ rest) (ap (λ (x : Job). x.searches) j)
        (λ v d. subst (AreFrom n a mid before) up.searches all v (Contains-tail s (around ∷ rest) v d))

  abbrev Begins : Point → Type 0
  Begins a = (u : Search) → Contains (a.job).searches u → (s : Search) × Origin s × GoesOn level s u

  from_rules : (n : ℕ) (a b : Point) → (rules : Rules home now n a b) → level_of a.stores ≡ level → Begins a → AreFrom n a b rules (b.job).searches
  from_rules zero a b e same first u c = let (s, origin, h) = first u (subst (λ (p : Point). Contains (p.job).searches u) e c) in (s, inl origin, h)
  from_rules (suc n) a b (mid, before, rule) same first u c =
      let penalties = (starts_rules home now (suc n) a b (mid, before, rule)).penalties in
      from_rule n a mid b before (same_level a.stores b.stores penalties ∙ same) rule (from_rules n a mid before same first) u c

-- ---- what an input does

-- A search of the job, or at the cut of the referral that is the input.
abbrev IsOf : (Addr → ℕ) → Input → Job → Search → Type 0
IsOf level input j s =
    Contains j.searches s
    ⊎ ((via : Via) × (server : Addr) × (m : Message) × (sought : Search) × (others : List Search) × (at : Name) × (ns : List Record) × (glue : List Record) × (ttl : ℕ) × (c : Cut)
    × (input ≡ Told via server m) × (j.searches ≡ sought ∷ others) × (class_of (sought.frame).zone sought.name sought.kind via m ≡ class.Referral at ns glue ttl) × IsCutOf at ns glue c
    × (s ≡ with_frame sought (opened level (sought.frame).nesting c)))

abbrev AreOf : (Addr → ℕ) → Input → Job → List Search → Type 0
AreOf level input j ss = (u : Search) → Contains ss u → (s : Search) × IsOf level input j s × GoesOn level s u

same_searches : (level : Addr → ℕ) (input : Input) (j k : Job) → k.searches ≡ j.searches → AreOf level input j k.searches
same_searches level input j k e u c = (u, inl (subst (λ (x : List Search). Contains x u) e c), stays level u)

module _ (level : Addr → ℕ) (now : ℕ) (via : Via) (server : Addr) (m : Message) (s : Search) (rest : List Search) (j : Job) (stores : Stores) (p : Point) (top : j.searches ≡ s ∷ rest)
    (same : level_of p.stores ≡ level) where
  abbrev Come : Type 0
  Come = AreOf level (Told via server m) j (p.job).searches

  answer_comes : (around : List Search) (l : Link) → rest ≡ around → IsAnswered now s around l j stores p → Come
  answer_comes [] l e (task, job, keeps) u c = absurd (Contains-nil u (subst (λ (x : List Search). Contains x u) (ap (λ (x : Job). x.searches) job) c))
  answer_comes (o ∷ more) l e (after, marks, task, keeps, uses, job) u c = elim (head_or u after more (subst (λ (x : List Search). Contains x u) (ap (λ (x : Job). x.searches) job) c)) [
    | inl is ↦ (o, inl (there o (Contains-head o more)), subst (GoesOn level o) (sym is) (on_used level p.stores s.name _ o o j.failed after marks same uses (stays level o)))
    | inr d ↦ (u, inl (there u (Contains-tail o more u d)), stays level u)
  ]
    where
      there : (x : Search) → Contains (o ∷ more) x → Contains j.searches x
      there x d = subst (λ (ss : List Search). Contains ss x) (sym top) (subst (λ (ss : List Search). Contains (s ∷ ss) x) (sym e) (Contains-tail s (o ∷ more) x d))

  class_comes : (c : class.Class) → class_of (s.frame).zone s.name s.kind via m ≡ c → ByClass now server s rest c j stores p → Come
  class_comes (class.Answer l) is h u c = answer_comes rest l refl h u c
  class_comes (class.Referral at ns glue ttl) is h u c = elim (head_or u fresh rest (subst (λ (x : List Search). Contains x u) (ap (λ (x : Job). x.searches) h.job) c)) [
    | inl e ↦ (
      u,
      inr (via, server, m, s, rest, at, ns, glue, ttl, h.cut, refl, top, is, h.is_cut, e ∙ ap (λ (f : Addr → ℕ). with_frame s (opened f (s.frame).nesting h.cut)) level_is),
      stays level u,
    )
    | inr d ↦ (u, inl (subst (λ (x : List Search). Contains x u) (sym top) (Contains-tail s rest u d)), stays level u)
  ]
    where
      fresh : Search
      fresh = with_frame s (opened (level_of stores) (s.frame).nesting h.cut)

      level_is : level_of stores ≡ level
      level_is = sym (ap level_of h.stored) ∙ same
  class_comes class.Truncated is h u c = same_searches level (Told via server m) j p.job (ap (λ (x : Point). (x.job).searches) h) u c
  class_comes (class.Failed f) is h u c = same_searches level (Told via server m) j p.job (ap (λ (x : Point). (x.job).searches) h) u c

enters_come : (level : Addr → ℕ) (now : ℕ) (input : Input) (j : Job) (stores : Stores) (p : Point) → level_of p.stores ≡ level → Enters now input j stores p → AreOf level input j (p.job).searches
enters_come level now Start j stores p same h = same_searches level Start j p.job (ap (λ (x : Point). (x.job).searches) h)
enters_come level now (TimedOut server) j stores p same h = same_searches level (TimedOut server) j p.job (ap (λ (x : Point). (x.job).searches) h)
enters_come level now (jobs.TcpFailed server) j stores p same h = same_searches level (jobs.TcpFailed server) j p.job (ap (λ (x : Point). (x.job).searches) h)
enters_come level now (Told via server m) j stores p same (inl (none, h)) = same_searches level (Told via server m) j p.job (ap (λ (x : Point). (x.job).searches) h)
enters_come level now (Told via server m) j stores p same (inr (s, rest, top, h)) =
    class_comes level now via server m s rest j (with_told now s server m stores) p top same (class_of (s.frame).zone s.name s.kind via m) refl h

-- ---- of one call

leaves_searches : (P : Search → Type 0) (home : Home) (now : ℕ) (p : Point) (next : Next) (new : Job) (after : Stores) → Leaves home now p next new after → IsAsk next
    → ((u : Search) → P u → P (given u)) → ((u : Search) → Contains (p.job).searches u → P u) → (u : Search) → Contains new.searches u → P u
leaves_searches P home now p next new after (sends server s rest is may n j e) asked on all u c = elim (head_or u (given s) rest (subst (λ (x : List Search). Contains x u) (ap (λ (x : Job). x.searches) j) c)) [
  | inl same ↦ subst P (sym same) (on s (all s (subst (λ (x : List Search). Contains x s) (sym is.searches) (Contains-head s rest))))
  | inr d ↦ all u (subst (λ (x : List Search). Contains x u) (sym is.searches) (Contains-tail s rest u d))
]
leaves_searches P home now p next new after (sends_again server s rest is may n j e) asked on all u c = all u (subst (λ (x : List Search). Contains x u) (ap (λ (x : Job). x.searches) j) c)
leaves_searches P home now p next new after (refuses x y s rest is refused n e) asked on all u c = absurd (subst IsAsk n asked)
leaves_searches P home now p next new after (spent x t up n e) asked on all u c = absurd (subst IsAsk n asked)
leaves_searches P home now p next new after (looked_out x others m t out n e) asked on all u c = absurd (subst IsAsk n asked)
leaves_searches P home now p next new after (nowhere t none n e) asked on all u c = absurd (subst IsAsk n asked)
leaves_searches P home now p next new after (too_long l r t is long n e) asked on all u c = absurd (subst IsAsk n asked)
leaves_searches P home now p next new after (done l t is fresh n e) asked on all u c = absurd (subst IsAsk n asked)

call_from : (s : State) (call : Call s) → IsAsk call.next → (u : Search) → Contains (call.new).searches u
    → (v : Search) × (IsOf (level_of call.after) call.input call.old v ⊎ ((frame : Opening) × Opens s call frame × (v ≡ opened_search (level_of call.after) frame))) × GoesOn (level_of call.after) v u
call_from s call asked =
    leaves_searches (From (s.site).home s.clock level Origin a.count a.first a.last a.rules) (s.site).home s.clock a.last call.next call.new call.after a.leaves asked
    (λ u (v, origin, h). (v, origin, on_given level v u h))
    (from_rules (s.site).home s.clock level Origin a.count a.first a.last a.rules same (enters_come level s.clock call.input call.old s.stores a.first same a.enters))
  where
    level : Addr → ℕ
    level = level_of call.after

    Origin : Search → Type 0
    Origin v = IsOf level call.input call.old v

    a : Advances (s.site).home s.clock call.input call.old s.stores call.next call.new call.after
    a = call.advances

    same : level_of (a.first).stores ≡ level
    same =
        sym (same_level (a.first).stores (a.last).stores (starts_rules (s.site).home s.clock a.count a.first a.last a.rules).penalties)
        ∙ sym (ap level_of (same_after (s.site).home s.clock a.last call.next call.new call.after a.leaves))

-- ---- of a step

-- An input that is a message is one that is accepted.
pub told_accepts : (s : State) (e : Event) (q : Open) (input : Input) (via : Via) (server : Addr) (m : Message) → IsInput s e q input → input ≡ Told via server m → Brings (s.site).port q.ask e m × (via ≡ via_of (q.ask).path)
told_accepts s (Client now client way bytes) q input via server m h e = absurd h
told_accepts s (Datagram now sock from bytes) q input via server m (n, brings, is) e =
    let both : Told (via_of (q.ask).path) (q.ask).server n ≡ Told via server m = sym is ∙ e in
    let same : n ≡ m = cc in
    let way : via ≡ via_of (q.ask).path = cc in
    (subst (Brings (s.site).port q.ask (Datagram now sock from bytes)) same brings, way)
told_accepts s (TcpReply now number bytes) q input via server m (inl (n, brings, is)) e =
    let both : Told (via_of (q.ask).path) (q.ask).server n ≡ Told via server m = sym is ∙ e in
    let same : n ≡ m = cc in
    let way : via ≡ via_of (q.ask).path = cc in
    (subst (Brings (s.site).port q.ask (TcpReply now number bytes)) same brings, way)
told_accepts s (TcpReply now number bytes) q input via server m (inr (of, none, is)) e = absurd (let both : jobs.TcpFailed (q.ask).server ≡ Told via server m = sym is ∙ e in cc)
told_accepts s (TcpFailed now number) q input via server m (of, is) e = absurd (let both : jobs.TcpFailed (q.ask).server ≡ Told via server m = sym is ∙ e in cc)
told_accepts s (Tick now) q input via server m (due, early, is) e = absurd (let both : TimedOut (q.ask).server ≡ Told via server m = sym is ∙ e in cc)

-- The call of a step is that of the query that is served: one that is open, by this event's input, or one that comes.
abbrev pub IsCallFor : State → Event → Served → Input → Job → Type 0
IsCallFor s e served input j = ((p : Open) × Contains s.queries p × (served ≡ OpenQuery p.number) × (j ≡ p.job) × IsInput s e p input) ⊎ ((input ≡ Start) × (j.searches ≡ []))

some_call : (s : State) (a b : Call s) → Some a ≡ Some b → a ≡ b
some_call s a b f = cc

module _ (s : State) (e : Event) (served : Served) (new : State) (call : Call s) where
  handled_for : (client : ℕ) (way : Via) (asked : Request Plain) (out : List Action) → (h : IsHandled s client way asked served out new) → handled_call s client way asked served out new h ≡ Some call
      → IsCallFor s e served call.input call.old
  handled_for client way request.Drop out h made = absurd (cc)
  handled_for client way (request.Refuse refusal start echo) out h made = absurd (cc)
  handled_for client way (request.Query q) out (inl h) made = absurd (cc)
  handled_for client way (request.Query q) out (inr (rd, h)) made = subst (λ (c : Call s). IsCallFor s e served c.input c.old) (some_call s _ call made) (inr (refl, refl))

  hears_for : (out : List Action) → (h : ServesOpen s e served out new) → hears_call s e served out new h ≡ Some call → IsCallFor s e served call.input call.old
  hears_for out h made = subst (λ (c : Call s). IsCallFor s e served c.input c.old) (some_call s _ call made) (inl (h.query, (h.serves).stands, h.served_is, refl, h.brings))

  either_for : (out : List Action) → (h : IsIgnored s e served out new ⊎ ServesOpen s e served out new) → either_call s e served out new h ≡ Some call → IsCallFor s e served call.input call.old
  either_for out (inl h) made = absurd (cc)
  either_for out (inr h) made = hears_for out h made

pub turn_for : (s : State) (e : Event) (served : Served) (out : Option (List Action)) (new : State) (call : Call s) → (turn : IsTurn s e served out new) → turn_call s e served out new turn ≡ Some call
    → IsCallFor s e served call.input call.old
turn_for s (Client now client way bytes) served None new call turn made = absurd (cc)
turn_for s (Datagram now sock from bytes) served None new call turn made = absurd (cc)
turn_for s (TcpReply now number bytes) served None new call turn made = absurd (cc)
turn_for s (TcpFailed now number) served None new call turn made = absurd (cc)
turn_for s (Tick now) served None new call turn made = absurd (cc)
turn_for s (Client now client way bytes) served (Some out) new call (asked, reads, h) made = handled_for s (Client now client way bytes) served new call client way asked out h made
turn_for s (Datagram now sock from bytes) served (Some out) new call h made = either_for s (Datagram now sock from bytes) served new call out h made
turn_for s (TcpReply now number bytes) served (Some out) new call h made = either_for s (TcpReply now number bytes) served new call out h made
turn_for s (TcpFailed now number) served (Some out) new call h made = either_for s (TcpFailed now number) served new call out h made
turn_for s (Tick now) served (Some out) new call (inl h) made = absurd (cc)
turn_for s (Tick now) served (Some out) new call (inr (first, inl h, followed)) made = absurd (cc)
turn_for s (Tick now) served (Some out) new call (inr (first, inr h, followed)) made = hears_for s (Tick now) served new call first h made

module _ (site : Site) (past : List Turn) (old : State) (t : Turn) (new : State) (legal : Run site past old) (step : Step old t.event t.served t.out new) (q : Open) (there : Contains new.queries q)
    (is : t.served ≡ OpenQuery q.number) where
  abbrev s : State
  s = moved old t.event

  abbrev Sources : (Addr → ℕ) → Search → Type 0
  Sources level v = HadSearch old q.number v ⊎ (IsReferralSearch site old t q.number level v ⊎ IsOpenedSearch old t new step level v)

  of_call : (level : Addr → ℕ) (input : Input) (j : Job) (v : Search) → IsCallFor s t.event t.served input j → IsOf level input j v → Sources level v
  of_call level input j v (inl (p, stands, number, same, brings)) (inl c) = inl (p, stands, same_number (sym number ∙ is), subst (λ (x : Job). Contains x.searches v) same c)
  of_call level input j v (inl (p, stands, number, same, brings)) (inr (via, server, m, sought, others, at, ns, glue, ttl, cut, told, searches, is_class, is_cut, e)) =
      let (accepted, way) = told_accepts s t.event p input via server m brings told in
      let here : (s.site).port ≡ site.port = ap (λ (x : Site). x.port) (clock_of_run site past old legal).1 in
      inr (inl (
        p,
        sought,
        others,
        at,
        ns,
        glue,
        ttl,
        cut,
        stands,
        same_number (sym number ∙ is),
        sym (ap (λ (x : Job). x.searches) same) ∙ searches,
        record { message = m; brings = subst (λ (n : ℕ). Brings n p.ask t.event m) here accepted; is_class = subst (λ (x : Via). class_of (sought.frame).zone sought.name sought.kind x m ≡ class.Referral at ns glue ttl) way is_class },
        is_cut,
        e,
      ))
  of_call level input j v (inr (start, none)) (inl c) = absurd (Contains-nil v (subst (λ (x : List Search). Contains x v) none c))
  of_call level input j v (inr (start, none)) (inr (via, server, m, sought, others, at, ns, glue, ttl, cut, told, searches, is_class, is_cut, e)) = absurd (let both : Start ≡ Told via server m = sym start ∙ told in cc)

  new_from : (shown : Search) → Contains (q.job).searches shown → (v : Search) × Sources (level_of new.stores) v × GoesOn (level_of new.stores) v shown
  new_from shown c = by (step_call old t new step) refl (step_calls old t new step)
    where
      Calls : Option (Call s) → Type 0
      Calls None = (p : Open) → Contains new.queries p → t.served ≡ OpenQuery p.number → ⊥
      Calls (Some call) = BeginsWith s t.served call.old × ((p : Open) → Contains new.queries p → t.served ≡ OpenQuery p.number → IsLeftBy s call.next call.new call.after new p)

      by : (made : Option (Call s)) → step_call old t new step ≡ made → Calls made → (v : Search) × Sources (level_of new.stores) v × GoesOn (level_of new.stores) v shown
      by None e none = absurd (none q there is)
      by (Some call) e (begins, leaves) =
          let left = leaves q there is in
          let goes = is_ask s.clock call.new call.next q left.asks in
          let (v, origin, on) = call_from s call goes shown (subst (λ (x : Job). Contains x.searches shown) left.job_is c) in
          let level : level_of call.after ≡ level_of new.stores = ap level_of (sym left.stores_are) in
          let for_it = turn_for s t.event t.served t.out new call step.turn e in
          let Both : (Addr → ℕ) → Type 0 = λ f. (v : Search) × Sources f v × GoesOn f v shown in
          subst Both level (v, from_call call e for_it v origin, on)
        where
          from_call : (call : Call s) → step_call old t new step ≡ Some call → IsCallFor s t.event t.served call.input call.old → (v : Search)
              → IsOf (level_of call.after) call.input call.old v ⊎ ((frame : Opening) × Opens s call frame × (v ≡ opened_search (level_of call.after) frame)) → Sources (level_of call.after) v
          from_call call e for_it v (inl of) = of_call (level_of call.after) call.input call.old v for_it of
          from_call call e for_it v (inr (frame, opens, same)) = inr (inr (call, e, (frame, opens, same)))

pub new_is_opened : NewIsOpened
new_is_opened site past old t new legal step q there is shown c = new_from site past old t new legal step q there is shown c
