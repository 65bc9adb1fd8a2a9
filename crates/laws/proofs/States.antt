-- What stands of a state at the run that led to it.
use Rattle.std.proofs.Common.{◌≡◌, ◌≢◌, ℕ, ◌+◌, ◌-◌, ◌≤◌, ◌<◌, inl, inr, Bool, true, false, cond, Option, List, [], ◌∷◌, length, Contains, refl, sym, ap, ◌∙◌, subst, arith, ne_eqb}
use Rattle.dname.specs.Labels.{Name}
use Rattle.rdata.specs.Types.{type_number}
use Rattle.rdata.specs.declared.addr.Addr.{Addr}
use Rattle.zone.specs.Zones.{cname_type}
use Rattle.zone.specs.Links.{Link}
use Rattle.retry.specs.Penalties.{AreAtMost}
use Rattle.classify.specs.Classes as class
use Rattle.classify.specs.Classes.{class_of}
use Rattle.classify.specs.Lifetimes.{received}
use Rattle.message_grammar.specs.Messages.{Message}
use Rattle.wire.specs.declared.via.Via.{Via}
use Rattle.lru.proofs.Splits.{Contains-nil}
use Rattle.lru_laws.specs.Orders.{KeepsOnly}
use Rattle.resolution.specs.Jobs.{Home, Stores, with_told, Taken, received_link, Search, Job, job_at, Input, Start, Told, TimedOut, TcpFailed, Next, Task, Take, Go, Again, Point, point}
use Rattle.resolution.specs.Rules.{IsRemote, ByClass, Enters, Advances, IsTakenEntry, IsTakenCut, IsTakenFailure, BringsOnly}
use Rattle.runs.specs.States.{Event, Client, Datagram, TcpReply, Tick, Action, Turn, Served, Nobody, Own, OpenQuery, ClientQuery, recursive, Path, ByUdp, ByTcp, Ask, via_of, Open, State}
use Rattle.runs.specs.States as states
use Rattle.runs.specs.Messages.{Brings}
use Rattle.runs.specs.Runs.{Earlier, Came, clock_of, asks_in, is_for, asks_of}
use Rattle.runs.specs.Steps.{IsInput}
use Rattle.laws.specs.Spent.{BringsTruncated, AsksBy, IsOpenAsk, LearnsLink}
use Rattle.laws.proofs.TimelySearches.{Passed, IsAsk, AreAround}
use Rattle.laws.proofs.Told.{AreTold, KnownIn}
use Rattle.laws.proofs.Timed.{AreTimed, AreKnown, timed_later, known_later}
use Rattle.laws.proofs.TimelyPoints.{OnTop, IsSound, Lately}
use Rattle.laws.proofs.Chains.{LeadsOn, IsOfName, IsReached, rules_reach}
use Rattle.laws.proofs.Leaving.{IsWaitingFor, GoesOut, leaves_tell}
use Rattle.laws.proofs.Later.{told_later, leads_later, work_on}
use Rattle.laws.proofs.Enters as enters
use Rattle.laws.proofs.Enters.{IsShown, taken_now, enters_sound, stops_told}

abbrev pub turn_of : Event → Served → Option (List Action) → Turn
turn_of event served out = record { event = event; served = served; out = out }

module _ (port : ℕ) (home : Home) where
  -- What the stores hold was accepted, and it is known when.
  abbrev pub AreHeld : List Turn → Stores → Type 0
  AreHeld run stores = AreTold port home run stores × AreTimed port home run stores

  pub held_later : (turn : Turn) (past : List Turn) (stores : Stores) → AreHeld past stores → AreHeld (turn ∷ past) stores
  held_later turn past stores h = (told_later port home turn past stores h.0, timed_later port home turn past stores h.1)

  -- A query came ten seconds before its deadline.
  abbrev pub IsBorn : ℕ → ClientQuery → ℕ → List Turn → Type 0
  IsBorn k who deadline run = Earlier (λ came before. Came (OpenQuery k) who came before × (deadline ≡ clock_of (came ∷ before) + 10000)) run

  -- An open query: it came, its ask is open, and its work stands.
  pub record IsOpenSound (run : List Turn) (q : Open) : Type 0 where
    pub came : Earlier (Came (OpenQuery q.number) q.client_query) run
    pub born : IsBorn q.number q.client_query (q.job).deadline run
    pub wanted : recursive (q.client_query).query ≡ true
    pub asked : IsOpenAsk port q.number q.ask run
    pub work : IsWaitingFor port home run q.number (KnownIn port q.number run) (type_number ((q.client_query).query).kind) ((q.client_query).query).name (q.ask).server (q.ask).name (q.ask).kind q.job
    pub known : AreKnown port home run q.number (type_number ((q.client_query).query).kind) (Unit {0}) (q.job).chain
    pub remote : IsRemote home (q.job).name (q.job).kind
    pub plain : type_number ((q.client_query).query).kind ≡ cname_type → (q.job).chain ≡ []
    pub asks : (q.job).asks ≡ asks_of q.number run
    pub few : asks_of q.number run ≤ 40

  pub record IsExplained (run : List Turn) (s : State) : Type 0 where
    pub told : AreHeld run s.stores
    pub queries : (q : Open) → Contains s.queries q → IsOpenSound run q
    pub below : (q : Open) → Contains s.queries q → q.number < s.opened
    pub unasked : (k : ℕ) → s.opened ≤ k → asks_of k run ≡ 0

  -- ---- later

  asks_later : (turn : Turn) (past : List Turn) (k : ℕ) (ask : Ask) (path : Path) → turn.served ≢ OpenQuery k → AsksBy port k ask path past → AsksBy port k ask path (turn ∷ past)
  asks_later turn past k ask (ByUdp sock) other h = inr (other, h)
  asks_later turn past k ask (ByTcp number) other h = inr (other, h)

  pub not_for : (k : ℕ) (served : Served) → served ≢ OpenQuery k → is_for k served ≡ false
  not_for k Nobody other = refl
  not_for k Own other = refl
  not_for k (OpenQuery n) other = ne_eqb n k (λ e. absurd (other (ap OpenQuery e)))

  none_more : (b : Bool) (n m : ℕ) → b ≡ false → cond b n 0 + m ≡ m
  none_more b n m e = let first : cond b n 0 ≡ 0 = ap (λ (c : Bool). cond c n 0) e in omega arith

  pub asks_stay : (turn : Turn) (past : List Turn) (k : ℕ) → is_for k turn.served ≡ false → asks_of k (turn ∷ past) ≡ asks_of k past
  asks_stay turn past k e = none_more (is_for k turn.served) (asks_in turn.out) (asks_of k past) e

  pub open_later : (turn : Turn) (past : List Turn) (q : Open) → turn.served ≢ OpenQuery q.number → IsOpenSound past q → IsOpenSound (turn ∷ past) q
  open_later turn past q other h = record {
    came = inr h.came;
    born = inr h.born;
    wanted = h.wanted;
    asked = asks_later turn past q.number q.ask (q.ask).path other h.asked;
    work = work_on port home past (turn ∷ past) (inr (turn, refl)) q.number (KnownIn port q.number past) (KnownIn port q.number (turn ∷ past)) (λ n t a e. inr e) (type_number ((q.client_query).query).kind) ((q.client_query).query).name
        (q.ask).server (q.ask).name (q.ask).kind q.job h.work;
    known = known_later port home turn past q.number (type_number ((q.client_query).query).kind) (Unit {0}) (Unit {0}) (λ u. u) (q.job).chain h.known;
    remote = h.remote;
    plain = h.plain;
    asks = h.asks ∙ sym (asks_stay turn past q.number (not_for q.number turn.served other));
    few = subst (λ (n : ℕ). n ≤ 40) (sym (asks_stay turn past q.number (not_for q.number turn.served other))) h.few;
  }

  none_asked : (b : Bool) (n m : ℕ) → b ≡ false → m ≡ 0 → cond b n 0 + m ≡ 0
  none_asked b n m e z = let first : cond b n 0 ≡ 0 = ap (λ (c : Bool). cond c n 0) e in omega arith

  pub unasked_later : (turn : Turn) (past : List Turn) (k : ℕ) → is_for k turn.served ≡ false → asks_of k past ≡ 0 → asks_of k (turn ∷ past) ≡ 0
  unasked_later turn past k e z = none_asked (is_for k turn.served) (asks_in turn.out) (asks_of k past) e z

  pub other_number : (k n : ℕ) → n < k → is_for k (OpenQuery n) ≡ false
  other_number k n lt = ne_eqb n k (λ e. absurd (apart e))
    where
      apart : n ≡ k → ⊥
      apart e = omega arith

  -- ---- what the event is for an ask

  pub is_input : (s : State) (q : Open) (event : Event) (served : Served) (out : Option (List Action)) (past : List Turn) (k : ℕ) (is : served ≡ OpenQuery k) (asked : IsOpenAsk port k q.ask past) (K M : Name → ℕ → Addr → Type 0) (f : (n : Name) (t : ℕ) (a : Addr) → K n t a → M n t a) (input : Input) → (s.site).port ≡ port
      → IsInput s event q input → enters.IsInputNow port home k (turn_of event served out) past q.ask is asked K M f input
  is_input s q (Client now client way bytes) served out past k is asked K M f input at h = absurd h
  is_input s q (Datagram now sock from bytes) served out past k is asked K M f input at (m, brings, e) =
      subst (enters.IsInputNow port home k (turn_of (Datagram now sock from bytes) served out) past q.ask is asked K M f) (sym e)
      (refl, refl, subst (λ (p : ℕ). Brings p q.ask (Datagram now sock from bytes) m) at brings)
  is_input s q (TcpReply now number bytes) served out past k is asked K M f input at (inl (m, brings, e)) =
      subst (enters.IsInputNow port home k (turn_of (TcpReply now number bytes) served out) past q.ask is asked K M f) (sym e)
      (refl, refl, subst (λ (p : ℕ). Brings p q.ask (TcpReply now number bytes) m) at brings)
  is_input s q (TcpReply now number bytes) served out past k is asked K M f input at (inr (path, none, e)) =
      subst (enters.IsInputNow port home k (turn_of (TcpReply now number bytes) served out) past q.ask is asked K M f) (sym e)
      (refl, λ z. inr (inl (now, number, path, inr (bytes, refl, λ m brings. none m (subst (λ (p : ℕ). Brings p q.ask (TcpReply now number bytes) m) (sym at) brings)))))
  is_input s q (states.TcpFailed now number) served out past k is asked K M f input at (path, e) =
      subst (enters.IsInputNow port home k (turn_of (states.TcpFailed now number) served out) past q.ask is asked K M f) (sym e) (refl, λ z. inr (inl (now, number, path, inl refl)))
  is_input s q (Tick now) served out past k is asked K M f input at (first, early, e) =
      subst (enters.IsInputNow port home k (turn_of (Tick now) served out) past q.ask is asked K M f) (sym e) (refl, λ z. inl (now, refl))

-- ---- one call

module _ (port : ℕ) (home : Home) (k : ℕ) (turn : Turn) (past : List Turn) (ask : Ask) (served : turn.served ≡ OpenQuery k) (asked : IsOpenAsk port k ask past)
    (t : ℕ) (from : Name) (j : Job) (stores : Stores) (told : AreTold port home past stores) (work : IsWaitingFor port home past k (KnownIn port k past) t from ask.server ask.name ask.kind j) where
  abbrev pub KnownBefore : Name → ℕ → Addr → Type 0
  KnownBefore n u a = KnownIn port k past n u a

  abbrev pub KnownNow : Name → ℕ → Addr → Type 0
  KnownNow n u a = KnownIn port k (turn ∷ past) n u a

  pub still_known : (n : Name) (u : ℕ) (a : Addr) → KnownBefore n u a → KnownNow n u a
  still_known n u a e = inr e

  abbrev pub IsInputNow : Input → Type 0
  IsInputNow input = enters.IsInputNow port home k turn past ask served asked KnownBefore KnownNow still_known input

  abbrev pub TruncatedNow : Addr → Name → ℕ → Type 0
  TruncatedNow a n u = BringsTruncated port k a n u turn past

  -- The chain as it was.
  abbrev pub ReachedBy : Point → Type 0
  ReachedBy p = IsReached port home (turn ∷ past) t from p.task p.job

  same_chain : (p : Point) (task : Task) (i : Job) → p.task ≡ task → p.job ≡ i → i.kind ≡ j.kind → i.chain ≡ j.chain → i.name ≡ j.name → IsOfName port home (turn ∷ past) t j.name task → ReachedBy p
  same_chain p task i te je kind chain name of = subst (λ (x : Task). IsReached port home (turn ∷ past) t from x p.job) (sym te) (subst (IsReached port home (turn ∷ past) t from task) (sym je) (record {
    kind = kind ∙ work.kind;
    leads = subst (λ (l : List Taken). LeadsOn port home (turn ∷ past) t from l i.name) (sym chain) (subst (LeadsOn port home (turn ∷ past) t from j.chain) (sym name) (leads_later port home turn past t from j.chain j.name work.leads));
    few = subst (λ (l : List Taken). length l ≤ 8) (sym chain) work.few;
    link = subst (λ (n : Name). IsOfName port home (turn ∷ past) t n task) (sym name) of;
  }))

  -- The innermost search of the open query.
  pub top_at : (s : Search) (rest : List Search) → j.searches ≡ s ∷ rest
      → (IsAsk port home k past (Passed j.skipped KnownBefore) s ask.server × (ask.name ≡ s.name) × (ask.kind ≡ s.kind)) × AreAround port home k past (Passed j.skipped KnownBefore) j.name j.kind s.name s.kind (s.frame).nesting rest
  top_at s rest e =
      subst (λ (l : List Search). OnTop port home k past (Passed j.skipped KnownBefore) j.name j.kind l (λ s. IsAsk port home k past (Passed j.skipped KnownBefore) s ask.server × (ask.name ≡ s.name) × (ask.kind ≡ s.kind))) e work.top

  pub takes_now : (now : ℕ) (s : Search) (rest : List Search) (m : Message) (l : Link) → j.searches ≡ s ∷ rest → Brings port ask turn.event m
      → class_of (s.frame).zone s.name s.kind (via_of ask.path) m ≡ class.Answer l → LearnsLink port s.name s.kind (received l) turn past
  takes_now now s rest m l searches brings is =
      let h = top_at s rest searches in
      taken_now port home k turn past ask served asked KnownBefore KnownNow still_known s rest now j stores (point Go j stores) (told_later port home turn past stores told) work.marks work.known h.0 h.1 m brings l is

  taken_reach : (now : ℕ) (s : Search) (m : Message) (l : Link) → j.searches ≡ s ∷ [] → Brings port ask turn.event m
      → class_of (s.frame).zone s.name s.kind (via_of ask.path) m ≡ class.Answer l → IsOfName port home (turn ∷ past) t j.name (Take (received_link s.name l now))
  taken_reach now s m l searches brings is =
      let h = top_at s [] searches in
      (h.1.0, λ r e. inr (s.kind, received l, inl (subst (λ (n : Name). LearnsLink port n s.kind (received l) turn past) h.1.0 (takes_now now s [] m l searches brings is)), inl e))

  by_class : (now : ℕ) (s : Search) (rest : List Search) (server : Addr) (m : Message) (c : class.Class) (old : Stores) (p : Point) → j.searches ≡ s ∷ rest → Brings port ask turn.event m
      → class_of (s.frame).zone s.name s.kind (via_of ask.path) m ≡ c → ByClass now server s rest c j old p → ReachedBy p
  by_class now s [] server m (class.Answer l) old p searches brings is (task, job, learnt) =
      same_chain p (Take (received_link s.name l now)) (record j { searches = [] }) task job refl refl refl (taken_reach now s m l searches brings is)
  by_class now s (around ∷ rest) server m (class.Answer l) old p searches brings is (after, marks, task, learnt, hears_of, job) =
      same_chain p Go (record j { searches = after ∷ rest; failed = marks }) task job refl refl refl tt
  by_class now s rest server m (class.Referral at ns glue ttl) old p searches brings is h = same_chain p Go _ h.task h.job refl refl refl tt
  by_class now s rest server m class.Truncated old p searches brings is h = same_chain p (Again server) j (ap (λ (x : Point). x.task) h) (ap (λ (x : Point). x.job) h) refl refl refl tt
  by_class now s rest server m (class.Failed f) old p searches brings is h = same_chain p Go j (ap (λ (x : Point). x.task) h) (ap (λ (x : Point). x.job) h) refl refl refl tt

  pub enters_reach : (now : ℕ) (input : Input) (old : Stores) (p : Point) → IsInputNow input → Enters now input j old p → ReachedBy p
  enters_reach now Start old p is h = absurd is
  enters_reach now (Told way server m) old p (via_is, server_is, brings) h = elim h [
    | inl (none, at) ↦ same_chain p Go j (ap (λ (x : Point). x.task) at) (ap (λ (x : Point). x.job) at) refl refl refl tt
    | inr (s, rest, searches, by) ↦ by_class now s rest server m (class_of (s.frame).zone s.name s.kind (via_of ask.path) m) (with_told now s server m old) p searches brings refl
        (subst (λ (w : Via). ByClass now server s rest (class_of (s.frame).zone s.name s.kind w m) j (with_told now s server m old) p) via_is by)
  ]
  enters_reach now (TimedOut server) old p is h = same_chain p Go j (ap (λ (x : Point). x.task) h) (ap (λ (x : Point). x.job) h) refl refl refl tt
  enters_reach now (TcpFailed server) old p is h = same_chain p Go j (ap (λ (x : Point). x.task) h) (ap (λ (x : Point). x.job) h) refl refl refl tt

  -- What one call gives.
  module _ (now : ℕ) (clock : now ≡ clock_of (turn ∷ past)) where
    -- What failed lately is known now.
    pub lately_now : Lately port home k (turn ∷ past) KnownNow TruncatedNow now
    lately_now n u a since e young = inl (served, (since, e, subst (λ (m : ℕ). m - since < 30000) clock young))

    pub enters_now : IsShown port home k past j → (input : Input) (p : Point) → IsInputNow input → Enters now input j stores p → IsSound port home k (turn ∷ past) KnownNow TruncatedNow p
    enters_now shown input p is h = enters_sound port home k turn past ask served asked KnownBefore KnownNow still_known now clock input j stores p told work.marks work.known work.top shown is h

    pub call_tells : IsShown port home k past j → (input : Input) (next : Next) (new : Job) (after : Stores) → IsInputNow input → Advances home now input j stores next new after
        → GoesOut port home (turn ∷ past) k KnownNow t from TruncatedNow next new × AreTold port home (turn ∷ past) after
    call_tells shown input next new after is a =
        let first = enters_now shown input a.first is a.enters in
        let reached = enters_reach now input stores a.first is a.enters in
        let (sound, reach) = rules_reach port home (turn ∷ past) t k KnownNow TruncatedNow now lately_now a.count from a.first a.last first reached a.rules in
        leaves_tell port home (turn ∷ past) k KnownNow t from TruncatedNow now a.last next new after sound reach a.leaves

    pub stop_tells : (input : Input) (after : Stores) → IsInputNow input → BringsOnly input now j stores after → AreTold port home (turn ∷ past) after
    stop_tells input after is h = stops_told port home k turn past ask served asked KnownBefore KnownNow still_known now clock j stores told work.marks work.known work.top input after is h

-- ---- a query that comes

module _ (port : ℕ) (home : Home) (run : List Turn) (k : ℕ) (K : Name → ℕ → Addr → Type 0) (t : ℕ) (from : Name) (Truncates : Addr → Name → ℕ → Type 0) where
  pub start_tells : (now : ℕ) → Lately port home k run K Truncates now → (deadline : ℕ) (j : Job) (stores : Stores) (next : Next) (new : Job) (after : Stores) → AreTold port home run stores
      → Advances home now Start (job_at from t deadline) stores next new after → GoesOut port home run k K t from Truncates next new × AreTold port home run after
  start_tells now lately deadline j stores next new after told a =
      let sound : IsSound port home k run K Truncates a.first = subst (IsSound port home k run K Truncates) (sym a.enters) (record { told = told; marks = λ n d c. absurd (Contains-nil (n, d) c); stands = tt; known = λ e. absurd (cc) }) in
      let reached : IsReached port home run t from a.first.task a.first.job = subst (λ (p : Point). IsReached port home run t from p.task p.job) (sym a.enters)
      (record { kind = refl; leads = refl; few = zero_least; link = tt }) in
      let (last, reach) = rules_reach port home run t k K Truncates now lately a.count from a.first a.last sound reached a.rules in
      leaves_tell port home run k K t from Truncates now a.last next new after last reach a.leaves
    where
      zero_least : 0 ≤ 8
      zero_least = omega arith

  none_added : {X : Type 0} (P : X → Type 0) (old new : List X) → ((x : X) → P x → ⊥) → KeepsOnly old P new → (x : X) → Contains new x → Contains old x
  none_added P old new none only x c = elim (only x c) [ inl d ↦ d | inr p ↦ absurd (none x p) ]

  pub start_stops : (now : ℕ) (j : Job) (stores after : Stores) → AreTold port home run stores → BringsOnly Start now j stores after → AreTold port home run after
  start_stops now j stores after told h = record {
    links = λ key e c. told.links key e (none_added (IsTakenEntry j Start now) stores.cache after.cache (λ x (s, l, c, kept). c) h.cache (key, e) c);
    cuts = λ n e c. told.cuts n e (none_added (IsTakenCut j Start now) stores.delegations after.delegations (λ x (s, at, ns, glue, ttl, c, none, is_cut, kept). none) h.delegations (n, e) c);
    failures = λ f since c. told.failures f since (none_added (IsTakenFailure j Start now) stores.failures after.failures (λ x (s, a, none, same). none) h.failures (f, since) c);
    low = elim h.penalties [
      | inl e ↦ subst (AreAtMost 8) (sym e) told.low
      | inr none ↦ absurd none
    ];
  }
