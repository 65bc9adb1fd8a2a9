-- One call, by the clock: what is accepted in this step is known since now.
use Rattle.std.proofs.Common.{◌≡◌, ℕ, ◌+◌, ◌≤◌, inl, inr, List, [], ◌∷◌, refl, sym, ap, ◌∙◌, subst, arith}
use Rattle.lru.proofs.Splits.{Contains-nil}
use Rattle.dname.specs.Labels.{Name}
use Rattle.rdata.specs.declared.addr.Addr.{Addr}
use Rattle.zone.specs.Zones.{cname_type}
use Rattle.zone.specs.Links.{Link}
use Rattle.message_grammar.specs.Messages.{Message}
use Rattle.wire.specs.declared.via.Via.{Via}
use Rattle.classify.specs.Classes as class
use Rattle.classify.specs.Classes.{class_of}
use Rattle.classify.proofs.Roots.{of_root}
use Rattle.cache.specs.Keys.{Key, key_for}
use Rattle.cache.specs.Cached.{Hit, IsKept}
use Rattle.resolution.specs.Jobs.{Home, Stores, with_answer, with_timeout, with_told, received_link, Search, Job, job_at, Input, Start, Told, TimedOut, TcpFailed, Next, Task, Take, Go, Again, Point, point, hit_from}
use Rattle.resolution.specs.Rules.{IsRemote, KeepsAnswer, ByClass, Enters, Advances, IsTakenEntry, BringsOnly}
use Rattle.runs.specs.States.{Turn, OpenQuery, Ask, via_of}
use Rattle.runs.specs.Messages.{Brings}
use Rattle.runs.specs.Runs.{Earlier, clock_of}
use Rattle.laws.specs.Spent.{IsOpenAsk}
use Rattle.laws.specs.Timely.{AcceptsAnswer}
use Rattle.laws.proofs.TimelyStores.{kept_from}
use Rattle.laws.proofs.Told.{AreTold, KnownIn}
use Rattle.laws.proofs.Chains.{IsReached, rules_reach}
use Rattle.laws.proofs.TimelyPoints.{IsSound, Lately}
use Rattle.laws.proofs.Leaving.{IsWaitingFor}
use Rattle.laws.proofs.Enters.{IsShown, open_asks, brought_ends}
use Rattle.laws.proofs.Timed.{IsLearnt, AreTimed, AreKnown, KnownBy, IsTimed, timed_at, rules_timed, timed_later, known_later}
use Rattle.laws.proofs.TimelySent.{GoesTimely, leaves_timed}
use Rattle.laws.proofs.States.{KnownNow, IsInputNow, TruncatedNow, top_at, enters_reach, lately_now, enters_now}

module _ (port : ℕ) (home : Home) (k : ℕ) (turn : Turn) (past : List Turn) (ask : Ask) (served : turn.served ≡ OpenQuery k) (asked : IsOpenAsk port k ask past)
    (t : ℕ) (from : Name) (j : Job) (stores : Stores) (told : AreTold port home past stores) (work : IsWaitingFor port home past k (KnownIn port k past) t from ask.server ask.name ask.kind j)
    (now : ℕ) (clock : now ≡ clock_of (turn ∷ past)) (timed : AreTimed port home past stores) (chain : AreKnown port home past k t (Unit {0}) j.chain) (remote : IsRemote home j.name j.kind) (plain : t ≡ cname_type → j.chain ≡ []) where
  abbrev Mine : Type 0
  Mine = turn.served ≡ OpenQuery k

  abbrev IsTimedNow : Point → Type 0
  IsTimedNow p = IsTimed port home (turn ∷ past) k t Mine j.deadline j.asks p

  -- What is accepted now.
  learns : (s : Search) (rest : List Search) (m : Message) (l : Link) → j.searches ≡ s ∷ rest → Brings port ask turn.event m
      → class_of (s.frame).zone s.name s.kind (via_of ask.path) m ≡ class.Answer l → AcceptsAnswer port k s.name s.kind l now turn past
  learns s rest m l searches brings is =
      let h = top_at port home k turn past ask served asked t from j stores told work s rest searches in
      record {
        ask = ask;
        message = m;
        accepts = record { served = served; ask = open_asks port k ask ask.path past asked; brings = brings };
        name = h.0.1;
        kind = h.0.2;
        is = of_root (s.frame).zone s.name s.kind (via_of ask.path) m l (brought_ends port ask turn.event m brings) is;
        moment = clock;
      }

  fresh_learnt : (s : Search) (rest : List Search) (m : Message) (l : Link) → j.searches ≡ s ∷ rest → Brings port ask turn.event m
      → class_of (s.frame).zone s.name s.kind (via_of ask.path) m ≡ class.Answer l → (x : Key × Hit) → IsKept s.name s.kind (hit_from l now) x
      → (n : Name) × (u : ℕ) × (x.0 ≡ key_for n u (x.1).link) × IsLearnt port home (turn ∷ past) n u x.1
  fresh_learnt s rest m l searches brings is x new =
      let hit : x.1 ≡ hit_from l now = ap (λ y. y.1) new.0 in (
        s.name,
        s.kind,
        ap (λ y. y.0) new.0 ∙ ap (λ (y : Hit). key_for s.name s.kind y.link) (sym hit),
        subst (IsLearnt port home (turn ∷ past) s.name s.kind) (sym hit) (k, l, inl (learns s rest m l searches brings is), refl, refl),
      )

  learnt_timed : (s : Search) (rest : List Search) (m : Message) (l : Link) (old new : Stores) → AreTimed port home past old → j.searches ≡ s ∷ rest → Brings port ask turn.event m
      → class_of (s.frame).zone s.name s.kind (via_of ask.path) m ≡ class.Answer l → KeepsAnswer now s l old new → AreTimed port home (turn ∷ past) new
  learnt_timed s rest m l old new h searches brings is learnt = subst (AreTimed port home (turn ∷ past)) (sym learnt.stores)
      (λ key e c. elim (kept_from old.cache_cap s.name s.kind (hit_from l now) old.cache (key, e) c) [
        | inl d ↦ timed_later port home turn past old h key e d
        | inr new ↦ fresh_learnt s rest m l searches brings is (key, e) new
      ])

  chain_now : AreKnown port home (turn ∷ past) k t Mine j.chain
  chain_now = known_later port home turn past k t (Unit {0}) Mine (λ u. served) j.chain chain

  -- The job with its chain, at a point where servers are asked.
  going : (p : Point) (task : Task) (i : Job) → p.task ≡ task → p.job ≡ i → AreTimed port home (turn ∷ past) p.stores → KnownBy port home (turn ∷ past) k t Mine task i
      → i.chain ≡ j.chain → i.kind ≡ j.kind → i.deadline ≡ j.deadline → i.asks ≡ j.asks → IsTimedNow p
  going p task i te je h by same kind d m = timed_at port home (turn ∷ past) k t Mine j.deadline j.asks p task i te je h (subst (AreKnown port home (turn ∷ past) k t Mine) (sym same) chain_now) by
      (λ c. same ∙ plain c) (kind ∙ work.kind) d m

  by_class : (s : Search) (rest : List Search) (server : Addr) (m : Message) (c : class.Class) (old : Stores) (p : Point) → AreTimed port home past old → j.searches ≡ s ∷ rest → Brings port ask turn.event m
      → class_of (s.frame).zone s.name s.kind (via_of ask.path) m ≡ c → ByClass now server s rest c j old p → IsTimedNow p
  by_class s [] server m (class.Answer l) old p h searches brings is (task, job, learnt) =
      let top = top_at port home k turn past ask served asked t from j stores told work s [] searches in
      let kind : s.kind ≡ t = top.1.1 ∙ work.kind in
      going p (Take (received_link s.name l now)) (record j { searches = [] }) task job (learnt_timed s [] m l old p.stores h searches brings is learnt) (
        subst (λ (n : Name). IsRemote home n t) (sym top.1.0) (subst (IsRemote home j.name) work.kind remote),
        served,
        (l, subst (λ (u : ℕ). Earlier (AcceptsAnswer port k s.name u l now) (turn ∷ past)) kind (inl (learns s [] m l searches brings is)), refl, refl),
      ) refl refl refl refl
  by_class s (around ∷ rest) server m (class.Answer l) old p h searches brings is (after, marks, task, learnt, hears_of, job) =
      going p Go (record j { searches = after ∷ rest; failed = marks }) task job (learnt_timed s (around ∷ rest) m l old p.stores h searches brings is learnt) remote refl refl refl refl
  by_class s rest server m (class.Referral at ns glue ttl) old p h searches brings is e =
      going p Go _ e.task e.job (subst (AreTimed port home (turn ∷ past)) (sym e.stored) (timed_later port home turn past old h)) remote refl refl refl refl
  by_class s rest server m class.Truncated old p h searches brings is e =
      going p (Again server) j (ap (λ (x : Point). x.task) e) (ap (λ (x : Point). x.job) e) (subst (AreTimed port home (turn ∷ past)) (sym (ap (λ (x : Point). x.stores) e)) (timed_later port home turn past old h)) remote refl refl refl refl
  by_class s rest server m (class.Failed f) old p h searches brings is e =
      going p Go j (ap (λ (x : Point). x.task) e) (ap (λ (x : Point). x.job) e) (subst (AreTimed port home (turn ∷ past)) (sym (ap (λ (x : Point). x.stores) e)) (timed_later port home turn past old h)) remote refl refl refl refl

  still : (p : Point) (old : Stores) → AreTimed port home past old → p ≡ point Go j old → IsTimedNow p
  still p old h e = going p Go j (ap (λ (x : Point). x.task) e) (ap (λ (x : Point). x.job) e) (subst (AreTimed port home (turn ∷ past)) (sym (ap (λ (x : Point). x.stores) e)) (timed_later port home turn past old h)) remote refl refl refl refl

  enters_timed : (input : Input) (p : Point) → IsInputNow port home k turn past ask served asked t from j stores told work input → Enters now input j stores p → IsTimedNow p
  enters_timed Start p is h = absurd is
  enters_timed (Told way server m) p (via_is, server_is, brings) h = elim h [
    | inl (none, at) ↦ still p (with_answer stores server) timed at
    | inr (s, rest, searches, by) ↦ by_class s rest server m (class_of (s.frame).zone s.name s.kind (via_of ask.path) m) (with_told now s server m stores) p timed searches brings refl
        (subst (λ (w : Via). ByClass now server s rest (class_of (s.frame).zone s.name s.kind w m) j (with_told now s server m stores) p) via_is by)
  ]
  enters_timed (TimedOut server) p is h = still p (with_timeout stores server) timed h
  enters_timed (TcpFailed server) p is h = still p (with_timeout stores server) timed h

  -- What one call gives.
  pub call_timed : IsShown port home k past j → (input : Input) (next : Next) (new : Job) (after : Stores) → IsInputNow port home k turn past ask served asked t from j stores told work input → Advances home now input j stores next new after
      → GoesTimely port home turn past k t now clock Mine (λ is. is) from j.deadline j.asks next new × AreTimed port home (turn ∷ past) after
  call_timed shown input next new after is a =
      let first = enters_now port home k turn past ask served asked t from j stores told work now clock shown input a.first is a.enters in
      let reached = enters_reach port home k turn past ask served asked t from j stores told work now input stores a.first is a.enters in
      let (sound, reach) = rules_reach port home (turn ∷ past) t k (KnownNow port home k turn past ask served asked t from j stores told work) (TruncatedNow port home k turn past ask served asked t from j stores told work) now
      (lately_now port home k turn past ask served asked t from j stores told work now clock) a.count from a.first a.last first reached a.rules in
      let last = rules_timed port home (turn ∷ past) k t Mine j.deadline j.asks now a.count a.first a.last (enters_timed input a.first is a.enters) a.rules in
      leaves_timed port home turn past k t now clock Mine (λ is. is) from j.deadline j.asks a.last next new after last reach a.leaves

  taken_timed : (input : Input) → IsInputNow port home k turn past ask served asked t from j stores told work input → (x : Key × Hit) → IsTakenEntry j input now x
      → (n : Name) × (u : ℕ) × (x.0 ≡ key_for n u (x.1).link) × IsLearnt port home (turn ∷ past) n u x.1
  taken_timed Start is x (s, l, c, kept) = absurd c
  taken_timed (Told way server m) (via_is, server_is, brings) x (s, l, ((rest, searches), is), kept) =
      fresh_learnt s rest m l searches brings (subst (λ (w : Via). class_of (s.frame).zone s.name s.kind w m ≡ class.Answer l) via_is is) x kept
  taken_timed (TimedOut server) is x (s, l, c, kept) = absurd c
  taken_timed (TcpFailed server) is x (s, l, c, kept) = absurd c

  pub stop_timed : (input : Input) (after : Stores) → IsInputNow port home k turn past ask served asked t from j stores told work input → BringsOnly input now j stores after → AreTimed port home (turn ∷ past) after
  stop_timed input after is h key e c = elim (h.cache (key, e) c) [
    | inl d ↦ timed_later port home turn past stores timed key e d
    | inr new ↦ taken_timed input is (key, e) new
  ]

-- ---- a query that comes

module _ (port : ℕ) (home : Home) (turn : Turn) (past : List Turn) (k : ℕ) (K : Name → ℕ → Addr → Type 0) (t now : ℕ) (clock : now ≡ clock_of (turn ∷ past)) (from : Name)
    (lately : Lately port home k (turn ∷ past) K (λ a n u. Unit {0}) now) where
  never : ⊥ → turn.served ≡ OpenQuery k
  never e = absurd e

  pub start_timed : (deadline : ℕ) (stores : Stores) (next : Next) (new : Job) (after : Stores) → AreTold port home (turn ∷ past) stores → AreTimed port home (turn ∷ past) stores
      → Advances home now Start (job_at from t deadline) stores next new after
      → GoesTimely port home turn past k t now clock ⊥ (λ e. absurd e) from (deadline + 10000) 0 next new × AreTimed port home (turn ∷ past) after
  start_timed deadline stores next new after told timed a =
      let sound : IsSound port home k (turn ∷ past) K (λ a n u. Unit {0}) a.first = subst (IsSound port home k (turn ∷ past) K (λ a n u. Unit {0})) (sym a.enters)
      (record { told = told; marks = λ n d c. absurd (Contains-nil (n, d) c); stands = tt; known = λ e. absurd (cc) }) in
      let reached : IsReached port home (turn ∷ past) t from a.first.task a.first.job = subst (λ (p : Point). IsReached port home (turn ∷ past) t from p.task p.job) (sym a.enters)
      (record { kind = refl; leads = refl; few = zero_least; link = tt }) in
      let (last_sound, reach) = rules_reach port home (turn ∷ past) t k K (λ a n u. Unit {0}) now lately a.count from a.first a.last sound reached a.rules in
      let first : IsTimed port home (turn ∷ past) k t ⊥ (deadline + 10000) 0 a.first = subst (IsTimed port home (turn ∷ past) k t ⊥ (deadline + 10000) 0) (sym a.enters)
      (record { stores = timed; chain = tt; task = tt; plain = λ c. refl; kind = refl; deadline_is = refl; sent_is = refl }) in
      let last = rules_timed port home (turn ∷ past) k t ⊥ (deadline + 10000) 0 now a.count a.first a.last first a.rules in
      leaves_timed port home turn past k t now clock ⊥ (λ e. absurd e) from (deadline + 10000) 0 a.last next new after last reach a.leaves
    where
      zero_least : 0 ≤ 8
      zero_least = omega arith

pub start_stop_timed : (port : ℕ) (home : Home) (run : List Turn) (now : ℕ) (j : Job) (stores after : Stores) → AreTimed port home run stores → BringsOnly Start now j stores after → AreTimed port home run after
start_stop_timed port home run now j stores after timed h key e c = elim (h.cache (key, e) c) [
  | inl d ↦ timed key e d
  | inr (s, l, none, kept) ↦ absurd none
]
