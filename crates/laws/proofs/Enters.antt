-- What comes in for an open query: its ask ends for nothing, or an answer or a referral is taken.
use Rattle.std.proofs.Common.{◌≡◌, ◌≢◌, ℕ, ◌⊎◌, Bool, true, false, cond, inl, inr, List, [], ◌∷◌, Contains, refl, sym, ap, ◌∙◌, subst}
use Rattle.dname.specs.Labels.{Name, IsAtOrUnder}
use Rattle.rdata.specs.Records.{Record}
use Rattle.rdata.specs.declared.addr.Addr.{Addr}
use Rattle.zone.specs.Zones.{a_type}
use Rattle.zone.specs.Links.{Link, Found, Alias, NoData, NxDomain}
use Rattle.message_grammar.specs.Messages.{Message}
use Rattle.message_grammar.proofs.Roots.{names_end_in_root}
use Rattle.wire.specs.declared.via.Via.{Via}
use Rattle.wire.specs.declared.via.Via.TheVariants as via
use Rattle.classify.specs.Classes as class
use Rattle.classify.specs.Classes.{class_of}
use Rattle.classify.specs.Lifetimes.{received}
use Rattle.classify.specs.Laws.{EndInRoot}
use Rattle.classify.proofs.Uses.{referral_over, truncated_is}
use Rattle.classify.proofs.Roots.{of_root}
use Rattle.referral.specs.Cuts.{Cut, Known}
use Rattle.referral.specs.Cuts as referral
use Rattle.cache.specs.Keys.{Key, key_for}
use Rattle.cache.specs.Cached.{Hit, IsKept}
use Rattle.cache.specs.Failures.{FailedAsk, after_failed}
use Rattle.cache.proofs.Failed.{failed_members}
use Rattle.resolution.specs.Jobs.{Home, Stores, level_of, with_timeout, with_told, is_server_failure, IsCutOf, Search, ask_of, Job, Input, Start, Told, TimedOut, TcpFailed, Task, Go, Again, Point, point, hit_from, cut_from}
use Rattle.retry.specs.Penalties.{AreAtMost}
use Rattle.resolution.specs.Rules.{KeepsAnswer, IsAnswered, IsReferred, ByClass, Enters, IsTakenEntry, IsTakenCut, IsTakenFailure, WritesPenalty, BringsOnly}
use Rattle.runs.specs.States.{Turn, Event, Client, Datagram, TcpReply, Tick, OpenQuery, Path, ByUdp, ByTcp, Ask, via_of}
use Rattle.runs.specs.States as states
use Rattle.runs.specs.Messages.{Brings}
use Rattle.runs.specs.Runs.{IsOpenAskOf, Earlier, clock_of}
use Rattle.laws.specs.Failures.{SaysFailure}
use Rattle.laws.specs.Spent.{AsksBy, AsksZone, EndsBadly, IsBad, BringsTruncated, IsOpenAsk, IsOver, MayStart, IsUdpPath, Repeats, LearnsLink, TellsOfNone}
use Rattle.laws.proofs.TimelyLists.{more_followed}
use Rattle.laws.proofs.TimelyStores.{kept_from, cut_kept_from}
use Rattle.retry.proofs.Steps.{timed_out_low, answered_low}
use Rattle.laws.proofs.TimelySearches.{Passed, SomeKnown, FailsOnce, FailsTwice, AreAsked, IsIdle, IsAsk, AreAround, AreMarked, idle_at}
use Rattle.laws.proofs.Grown.{Grows, twice_on, stands_on, settled_on, asked_on, asking_on, waiting_on, around_on, marks_on}
use Rattle.laws.proofs.Told.{AreTold, IsKeptStart, low_level}
use Rattle.laws.proofs.TimelyPoints.{OnTop, StandsBy, IsSound, put, heard_at}
use Rattle.laws.proofs.Later.{told_later, passed_on, some_on}

-- A message that is brought is read from its bytes.
pub brought_ends : (port : ℕ) (ask : Ask) (event : Event) (m : Message) → Brings port ask event m → EndInRoot m
brought_ends port ask (Client now client way bytes) m b = absurd b
brought_ends port ask (Datagram now sock from bytes) m b = (names_end_in_root bytes m b.2).authority
brought_ends port ask (TcpReply now number bytes) m b = (names_end_in_root bytes m b.1).authority
brought_ends port ask (states.TcpFailed now number) m b = absurd b
brought_ends port ask (Tick now) m b = absurd b

-- The query is open after these steps with this job: the zone that it asks is that of its innermost search.
abbrev pub IsShown : ℕ → Home → ℕ → List Turn → Job → Type 0
IsShown port home k past j = (s : Search) (rest : List Search) → j.searches ≡ s ∷ rest → AsksZone port home k (s.frame).zone past

-- ---- the ask over TCP is an open ask

pub open_asks : (port k : ℕ) (ask : Ask) (path : Path) (run : List Turn) → AsksBy port k ask path run → IsOpenAskOf port k ask run
open_asks port k ask (ByUdp sock) run h = h
open_asks port k ask (ByTcp number) run h = by run h
  where
    by : (run : List Turn) → Repeats port k ask run → IsOpenAskOf port k ask run
    by [] h = absurd h
    by (turn ∷ past) (inl (served, sent, short)) = inl (served, sent)
    by (turn ∷ past) (inr (other, more)) = inr (other, by past more)

module _ (port : ℕ) (home : Home) (k : ℕ) (turn : Turn) (past : List Turn) (ask : Ask) (served : turn.served ≡ OpenQuery k) (asked : IsOpenAsk port k ask past)
    (K M : Name → ℕ → Addr → Type 0) (more_known : (n : Name) (t : ℕ) (a : Addr) → K n t a → M n t a) where
  grown : Grows past (turn ∷ past)
  grown = inr (turn, refl)

  -- The asked server said nothing of use: the search goes on.
  pub ends_badly : (b : Bool) (s : Search) → ask.name ≡ s.name → ask.kind ≡ s.kind → AsksZone port home k (s.frame).zone past → ((c : Cut) → (s.frame).zone ≡ c.owner → IsBad port c.owner ask turn.event)
      → IsAsk port home k past (Passed b K) s ask.server → IsIdle port home k (turn ∷ past) (Passed b M) s
  ends_badly b s name kind shown bad h =
      let zone : AsksZone port home k h.cut.owner past = subst (λ (z : Name). AsksZone port home k z past) h.stands.zone shown in
      let ended : EndsBadly port home k h.cut.owner s.name s.kind ask.server turn past = (ask, served, asked, record { server = refl; name = name; kind = kind }, bad h.cut h.stands.zone, zone) in
      let wider = passed_on port home past (turn ∷ past) grown k K M more_known b in
      let later = asked_on port home past (turn ∷ past) grown k (Passed b K) (Passed b M) wider s h.cut h.ended h.asked in
      let z = h.cut.owner in
      let more = more_followed (λ a. FailsOnce port home k past (Passed b K) z s.name s.kind a) (λ a. FailsTwice port home k past (Passed b K) z s.name s.kind a)
      (λ a. FailsOnce port home k (turn ∷ past) (Passed b M) z s.name s.kind a) (λ a. FailsTwice port home k (turn ∷ past) (Passed b M) z s.name s.kind a)
      ((s.frame).plan).order h.ended ask.server h.at (λ a e. once_later b s z a e) (λ a e. twice_on port home past (turn ∷ past) grown k (Passed b K) (Passed b M) wider z s.name s.kind a e)
      (inl (inl ended)) (λ e. again b s z ask.server ended e) h.asked.followed in
      record {
        cut = h.cut;
        stands = stands_on port home past (turn ∷ past) grown k (Passed b K) (Passed b M) wider s h.cut h.stands;
        settled = settled_on port home past (turn ∷ past) grown k (Passed b K) (Passed b M) wider s h.cut (s.frame).tried h.settled;
        asked = subst (AreAsked port home k (turn ∷ past) (Passed b M) s h.cut) (sym h.given) (record { followed = more; others = later.others });
      }
    where
      once_later : (b : Bool) (s : Search) (z : Name) (a : Addr) → FailsOnce port home k past (Passed b K) z s.name s.kind a → FailsOnce port home k (turn ∷ past) (Passed b M) z s.name s.kind a
      once_later b s z a (inl e) = inl (inr e)
      once_later b s z a (inr e) = inr (e.0, more_known s.name s.kind a e.1)

      -- It ended so before, or it was known to fail then.
      again : (b : Bool) (s : Search) (z : Name) (a : Addr) → EndsBadly port home k z s.name s.kind a turn past → FailsOnce port home k past (Passed b K) z s.name s.kind a
          → FailsTwice port home k (turn ∷ past) (Passed b M) z s.name s.kind a
      again b s z a ended (inl e) = inl (inl (ended, e))
      again b s z a ended (inr e) = inr (e.0, more_known s.name s.kind a e.1)

  -- What the query's open search is.
  abbrev pub IsAskingAs : Bool → Search → Type 0
  IsAskingAs b s = IsAsk port home k past (Passed b K) s ask.server × (ask.name ≡ s.name) × (ask.kind ≡ s.kind)

  abbrev pub TruncatedNow : Addr → Name → ℕ → Type 0
  TruncatedNow a n t = BringsTruncated port k a n t turn past

  abbrev Sound : Point → Type 0
  Sound p = IsSound port home k (turn ∷ past) M TruncatedNow p

  put_now : (p : Point) (t : Task) (j : Job) → p.task ≡ t → p.job ≡ j → AreTold port home (turn ∷ past) p.stores → AreMarked port home k (turn ∷ past) (Passed j.skipped M) j.failed → StandsBy port home k (turn ∷ past) M TruncatedNow t j
      → (j.skipped ≡ true → SomeKnown M) → Sound p
  put_now p t j te je told marks stands some = put port home k (turn ∷ past) M TruncatedNow p t j te je told marks stands some

  module _ (s : Search) (rest : List Search) (now : ℕ) (j : Job) (stores : Stores) (p : Point) (told : AreTold port home (turn ∷ past) stores) (marks : AreMarked port home k past (Passed j.skipped K) j.failed)
      (known : j.skipped ≡ true → SomeKnown K) (top : IsAskingAs j.skipped s) (around : AreAround port home k past (Passed j.skipped K) j.name j.kind s.name s.kind (s.frame).nesting rest) where
    wider : (n : Name) (t : ℕ) (a : Addr) → Passed j.skipped K n t a → Passed j.skipped M n t a
    wider n t a x = passed_on port home past (turn ∷ past) grown k K M more_known j.skipped n t a x

    around_now : AreAround port home k (turn ∷ past) (Passed j.skipped M) j.name j.kind s.name s.kind (s.frame).nesting rest
    around_now = around_on port home past (turn ∷ past) grown k (Passed j.skipped K) (Passed j.skipped M) wider j.name j.kind s.name s.kind (s.frame).nesting rest around

    marks_now : AreMarked port home k (turn ∷ past) (Passed j.skipped M) j.failed
    marks_now = marks_on port home past (turn ∷ past) grown k (Passed j.skipped K) (Passed j.skipped M) wider j.failed marks

    known_now : j.skipped ≡ true → SomeKnown M
    known_now = some_on port home past (turn ∷ past) grown k K M more_known j.skipped known

    -- Nothing of use came: what is due next is due.
    pub goes_further : AsksZone port home k (s.frame).zone past → ((c : Cut) → (s.frame).zone ≡ c.owner → IsBad port c.owner ask turn.event) → j.searches ≡ s ∷ rest → p ≡ point Go j stores → Sound p
    goes_further shown bad is e = subst Sound (sym e) (record {
      told = told;
      marks = marks_now;
      stands = subst (λ (l : List Search). OnTop port home k (turn ∷ past) (Passed j.skipped M) j.name j.kind l (IsIdle port home k (turn ∷ past) (Passed j.skipped M))) (sym is)
          (ends_badly j.skipped s top.1 top.2 shown bad top.0, around_now);
      known = known_now;
    })

    module _ (m : Message) (brings : Brings port ask turn.event m) where
      -- An answer.
      pub taken_now : (l : Link) → class_of (s.frame).zone s.name s.kind (via_of ask.path) m ≡ class.Answer l → LearnsLink port s.name s.kind (received l) turn past
      taken_now l is = (
        k,
        l,
        clock_of (turn ∷ past),
        record {
          ask = ask;
          message = m;
          accepts = record { served = served; ask = open_asks port k ask ask.path past asked; brings = brings };
          name = top.1;
          kind = top.2;
          is = of_root (s.frame).zone s.name s.kind (via_of ask.path) m l (brought_ends port ask turn.event m brings) is;
          moment = refl;
        },
        refl,
      )

      pub fresh_entry : (l : Link) → class_of (s.frame).zone s.name s.kind (via_of ask.path) m ≡ class.Answer l → (x : Key × Hit) → IsKept s.name s.kind (hit_from l now) x
          → (n : Name) × (u : ℕ) × (x.0 ≡ key_for n u (x.1).link) × Earlier (LearnsLink port n u (x.1).link) (turn ∷ past)
      fresh_entry l is x new =
          let hit : x.1 ≡ hit_from l now = ap (λ y. y.1) new.0 in
          (s.name, s.kind, ap (λ y. y.0) new.0 ∙ ap (λ (y : Hit). key_for s.name s.kind y.link) (sym hit), subst (λ (y : Hit). Earlier (LearnsLink port s.name s.kind y.link) (turn ∷ past)) (sym hit) (inl (taken_now l is)))

      learnt_told : (l : Link) (new : Stores) → class_of (s.frame).zone s.name s.kind (via_of ask.path) m ≡ class.Answer l → KeepsAnswer now s l stores new → AreTold port home (turn ∷ past) new
      learnt_told l new is learnt = subst (AreTold port home (turn ∷ past)) (sym learnt.stores) (record {
        links = λ key e c. elim (kept_from stores.cache_cap s.name s.kind (hit_from l now) stores.cache (key, e) c) [
          | inl d ↦ told.links key e d
          | inr new ↦ fresh_entry l is (key, e) new
        ];
        cuts = told.cuts;
        low = told.low;
        failures = told.failures;
      })

      pub answer_enters : (l : Link) → class_of (s.frame).zone s.name s.kind (via_of ask.path) m ≡ class.Answer l → IsAnswered now s rest l j stores p → Sound p
      answer_enters l is h = by rest around h
        where
          no_address : (l : Link) → (((set : List Record) → received l ≢ Found set)) → TellsOfNone a_type (received l)
          no_address (Found rs) none = absurd (none _ refl)
          no_address (Alias r) none = tt
          no_address (NoData soa) none = refl
          no_address (NxDomain soa) none = tt

          by : (os : List Search) → AreAround port home k past (Passed j.skipped K) j.name j.kind s.name s.kind (s.frame).nesting os → IsAnswered now s os l j stores p → Sound p
          by [] a (task, job, learnt) = put_now p _ _ task job (learnt_told l p.stores is learnt) marks_now tt known_now
          by (o ∷ os) (kind, nesting, waiting, further) (after, more, task, learnt, hears_of, job) =
              let new = learnt_told l p.stores is learnt in
              let takes : LearnsLink port s.name a_type (received l) turn past = subst (λ (t : ℕ). LearnsLink port s.name t (received l) turn past) kind (taken_now l is) in
              heard_at port home k (turn ∷ past) M TruncatedNow p s.name (received l) o after os j more new
              (λ set e. inr (inl (subst (λ (x : Link). LearnsLink port s.name a_type x turn past) e takes)))
              (λ none. inr (inl (a_type, received l, inl takes, no_address l none)))
              (waiting_on port home past (turn ∷ past) grown k (Passed j.skipped K) (Passed j.skipped M) wider o s.name waiting)
              (around_on port home past (turn ∷ past) grown k (Passed j.skipped K) (Passed j.skipped M) wider j.name j.kind o.name o.kind (o.frame).nesting os further) marks_now hears_of task job known_now

      -- A referral.
      pub referred_start : (at : Name) (ns glue : List Record) (ttl : ℕ) (c : Cut) → class_of (s.frame).zone s.name s.kind (via_of ask.path) m ≡ class.Referral at ns glue ttl → IsCutOf at ns glue c → MayStart port home (turn ∷ past) c
      referred_start at ns glue ttl c is is_cut =
          inr (
            (top.0).cut,
            (top.0).stands.start,
            (
              k,
              ask,
              m,
              at,
              ns,
              glue,
              ttl,
              record { served = served; ask = open_asks port k ask ask.path past asked; brings = brings },
              subst (λ (n : Name). class_of (top.0).cut.owner n ask.kind (via_of ask.path) m ≡ class.Referral at ns glue ttl) (sym top.1)
                  (subst (λ (t : ℕ). class_of (top.0).cut.owner s.name t (via_of ask.path) m ≡ class.Referral at ns glue ttl) (sym top.2)
                  (subst (λ (z : Name). class_of z s.name s.kind (via_of ask.path) m ≡ class.Referral at ns glue ttl) (top.0).stands.zone is)),
              is_cut,
            ),
          )

      pub fresh_cut : (c : Cut) (ttl : ℕ) → MayStart port home (turn ∷ past) c → (x : Name × Known) → referral.IsKept (cut_from c ttl now) x → (x.0 ≡ ((x.1).cut).owner) × IsKeptStart port home (turn ∷ past) (x.1).cut
      fresh_cut c ttl start x new =
          let kept : x.1 ≡ cut_from c ttl now = ap (λ y. y.1) new.0 in
          (ap (λ y. y.0) new.0 ∙ ap (λ (y : Known). (y.cut).owner) (sym kept), (c, start, ap (λ (y : Known). y.cut) kept))

      pub referral_enters : (at : Name) (ns glue : List Record) (ttl : ℕ) → class_of (s.frame).zone s.name s.kind (via_of ask.path) m ≡ class.Referral at ns glue ttl
          → IsReferred now s rest at ns glue ttl j stores p → Sound p
      referral_enters at ns glue ttl is h =
          let start = referred_start at ns glue ttl h.cut is h.is_cut in
          let over : IsOver h.cut s.name = inr (subst (IsAtOrUnder s.name) (sym h.is_cut.owner) (referral_over (s.frame).zone s.name s.kind m (via_of ask.path) at ns glue ttl is)) in
          put_now p Go _ h.task h.job (subst (AreTold port home (turn ∷ past)) (sym h.stored) (record {
            links = told.links;
            cuts = λ n e c. elim (cut_kept_from stores.delegations_cap (cut_from h.cut ttl now) stores.delegations (n, e) c) [
              | inl d ↦ told.cuts n e d
              | inr new ↦ fresh_cut h.cut ttl start (n, e) new
            ];
            low = told.low;
            failures = told.failures;
          })) marks_now
          (idle_at port home k (turn ∷ past) (Passed j.skipped M) (level_of stores) (low_level port home (turn ∷ past) stores told) (s.frame).nesting h.cut s.name s.kind start over, around_now) known_now

      -- A truncated reply.
      pub truncated_enters : class_of (s.frame).zone s.name s.kind (via_of ask.path) m ≡ class.Truncated → j.searches ≡ s ∷ rest → p ≡ point (Again ask.server) j stores → Sound p
      truncated_enters is searches e =
          let udp = truncated_is (s.frame).zone s.name s.kind m (via_of ask.path) is in
          let path = udp_of ask.path udp.0 in
          subst Sound (sym e) (record {
            told = told;
            marks = marks_now;
            known = known_now;
            stands = subst (λ (l : List Search). OnTop port home k (turn ∷ past) (Passed j.skipped M) j.name j.kind l (λ s. IsAsk port home k (turn ∷ past) (Passed j.skipped M) s ask.server × TruncatedNow ask.server s.name s.kind)) (sym searches) (
              (
                asking_on port home past (turn ∷ past) grown k (Passed j.skipped K) (Passed j.skipped M) wider s ask.server top.0,
                record {
                  ask = ask;
                  udp = path;
                  asked = open_udp ask.path path asked;
                  same = record { server = refl; name = top.1; kind = top.2 };
                  message = m;
                  brings = brings;
                  tc = udp.1;
                },
              ),
              around_now,
            );
          })
        where
          udp_of : (path : Path) → via_of path ≡ via.Udp → IsUdpPath path
          udp_of (ByUdp sock) e = tt
          udp_of (ByTcp number) e = absurd (cc)

          open_udp : (path : Path) → IsUdpPath path → AsksBy port k ask path past → IsOpenAskOf port k ask past
          open_udp (ByUdp sock) u a = a
          open_udp (ByTcp number) u a = absurd u

      pub class_enters : AsksZone port home k (s.frame).zone past → (c : class.Class) → class_of (s.frame).zone s.name s.kind (via_of ask.path) m ≡ c → j.searches ≡ s ∷ rest → ByClass now ask.server s rest c j stores p → Sound p
      class_enters shown (class.Answer l) is searches h = answer_enters l is h
      class_enters shown (class.Referral at ns glue ttl) is searches h = referral_enters at ns glue ttl is h
      class_enters shown class.Truncated is searches h = truncated_enters is searches h
      class_enters shown (class.Failed f) is searches h = goes_further shown (λ c zone. inr (inr (
        m,
        f,
        brings,
        subst (λ (n : Name). class_of c.owner n ask.kind (via_of ask.path) m ≡ class.Failed f) (sym top.1)
            (subst (λ (t : ℕ). class_of c.owner s.name t (via_of ask.path) m ≡ class.Failed f) (sym top.2)
            (subst (λ (z : Name). class_of z s.name s.kind (via_of ask.path) m ≡ class.Failed f) zone is)),
      ))) searches h

  -- What the event is for this ask.
  abbrev pub IsInputNow : Input → Type 0
  IsInputNow Start = ⊥
  IsInputNow (Told way server m) = (way ≡ via_of ask.path) × (server ≡ ask.server) × Brings port ask turn.event m
  IsInputNow (TimedOut server) = (server ≡ ask.server) × ((z : Name) → IsBad port z ask turn.event)
  IsInputNow (TcpFailed server) = (server ≡ ask.server) × ((z : Name) → IsBad port z ask turn.event)

  timed_told : (run : List Turn) (stores : Stores) (a : Addr) → AreTold port home run stores → AreTold port home run (with_timeout stores a)
  timed_told run stores a h = record { links = h.links; cuts = h.cuts; low = timed_out_low a stores.penalties_cap stores.penalties h.low; failures = h.failures }

  -- A message for the search: its server answered, and that it failed is kept where it says so.
  said_failure : (s : Search) (m : Message) (now : ℕ) → now ≡ clock_of (turn ∷ past) → ask.name ≡ s.name → ask.kind ≡ s.kind → Brings port ask turn.event m → is_server_failure m ≡ true
      → SaysFailure port s.name s.kind ask.server now turn past
  said_failure s m now clock name kind brings fails = record {
    by = k;
    ask = ask;
    message = m;
    accepts = record { served = served; ask = open_asks port k ask ask.path past asked; brings = brings };
    for = record { server = refl; name = name; kind = kind };
    failure = fails;
    moment = clock;
  }

  failure_told : (s : Search) (m : Message) (now : ℕ) → now ≡ clock_of (turn ∷ past) → ask.name ≡ s.name → ask.kind ≡ s.kind → Brings port ask turn.event m
      → (x : FailedAsk × ℕ) → x ≡ (ask_of s ask.server, now) → is_server_failure m ≡ true → Earlier (SaysFailure port (x.0).name (x.0).kind (x.0).server x.1) (turn ∷ past)
  failure_told s m now clock name kind brings x is fails =
      subst (λ (y : FailedAsk × ℕ). Earlier (SaysFailure port (y.0).name (y.0).kind (y.0).server y.1) (turn ∷ past)) (sym is) (inl (said_failure s m now clock name kind brings fails))

  told_now : (s : Search) (m : Message) (now : ℕ) (stores : Stores) → now ≡ clock_of (turn ∷ past) → ask.name ≡ s.name → ask.kind ≡ s.kind → Brings port ask turn.event m
      → AreTold port home (turn ∷ past) stores → AreTold port home (turn ∷ past) (with_told now s ask.server m stores)
  told_now s m now stores clock name kind brings h = record {
    links = h.links;
    cuts = h.cuts;
    low = answered_low ask.server stores.penalties h.low;
    failures = λ f since c. by (is_server_failure m) refl f since c;
  }
    where
      by : (b : Bool) → is_server_failure m ≡ b → (f : FailedAsk) (since : ℕ) → Contains (cond b (after_failed stores.failures_cap (ask_of s ask.server) now stores.failures) stores.failures) (f, since)
          → Earlier (SaysFailure port f.name f.kind f.server since) (turn ∷ past)
      by true fails f since c = elim (failed_members stores.failures_cap (ask_of s ask.server) now stores.failures (f, since) c) [
        | inl d ↦ h.failures f since d
        | inr is ↦ failure_told s m now clock name kind brings (f, since) is fails
      ]
      by false fails f since c = h.failures f since c

  -- There is an innermost search, and it asks.
  with_top : (P : Type 0) (j : Job) → OnTop port home k past (Passed j.skipped K) j.name j.kind j.searches (IsAskingAs j.skipped)
      → ((s : Search) (rest : List Search) → j.searches ≡ s ∷ rest → IsAskingAs j.skipped s → AreAround port home k past (Passed j.skipped K) j.name j.kind s.name s.kind (s.frame).nesting rest → P) → P
  with_top P j top f = by j.searches refl top
    where
      by : (l : List Search) → j.searches ≡ l → OnTop port home k past (Passed j.skipped K) j.name j.kind l (IsAskingAs j.skipped) → P
      by [] e h = absurd h
      by (s ∷ rest) e h = f s rest e h.0 h.1

  pub enters_sound : (now : ℕ) → now ≡ clock_of (turn ∷ past) → (input : Input) (j : Job) (stores : Stores) (p : Point) → AreTold port home past stores → AreMarked port home k past (Passed j.skipped K) j.failed
      → (j.skipped ≡ true → SomeKnown K) → OnTop port home k past (Passed j.skipped K) j.name j.kind j.searches (IsAskingAs j.skipped) → IsShown port home k past j → IsInputNow input → Enters now input j stores p → Sound p
  enters_sound now clock Start j stores p told marks known top shown is e = absurd is
  enters_sound now clock (Told way server m) j stores p told marks known top shown (via_is, server_is, brings) e = elim e [
    | inl (none, at) ↦ absurd (subst (λ (l : List Search). OnTop port home k past (Passed j.skipped K) j.name j.kind l (IsAskingAs j.skipped)) none top)
    | inr (s, rest, searches, by) ↦
        let h = subst (λ (l : List Search). OnTop port home k past (Passed j.skipped K) j.name j.kind l (IsAskingAs j.skipped)) searches top in
        class_enters s rest now j (with_told now s ask.server m stores) p (told_now s m now stores clock (h.0).1 (h.0).2 brings (told_later port home turn past stores told)) marks known h.0 h.1 m brings
        (shown s rest searches) (class_of (s.frame).zone s.name s.kind (via_of ask.path) m) refl searches
        (subst (λ (w : Via). ByClass now ask.server s rest (class_of (s.frame).zone s.name s.kind w m) j (with_told now s ask.server m stores) p) via_is
        (subst (λ (a : Addr). ByClass now a s rest (class_of (s.frame).zone s.name s.kind way m) j (with_told now s a m stores) p) server_is by))
  ]
  enters_sound now clock (TimedOut server) j stores p told marks known top shown (server_is, bad) e =
      with_top (Sound p) j top (λ s rest searches h around. goes_further s rest now j (with_timeout stores server) p (timed_told (turn ∷ past) stores server (told_later port home turn past stores told)) marks known h around (shown s rest searches) (λ c zone. bad c.owner) searches e)
  enters_sound now clock (TcpFailed server) j stores p told marks known top shown (server_is, bad) e =
      with_top (Sound p) j top (λ s rest searches h around. goes_further s rest now j (with_timeout stores server) p (timed_told (turn ∷ past) stores server (told_later port home turn past stores told)) marks known h around (shown s rest searches) (λ c zone. bad c.owner) searches e)

  -- ---- what the stores hold where memory was wanting on the way

  stopped_penalties : (input : Input) (stores : Stores) (low : AreAtMost 8 stores.penalties) (new : List (Addr × ℕ))
      → (new ≡ stores.penalties) ⊎ WritesPenalty input stores new → AreAtMost 8 new
  stopped_penalties input stores low new (inl e) = subst (AreAtMost 8) (sym e) low
  stopped_penalties Start stores low new (inr none) = absurd none
  stopped_penalties (Told way server m) stores low new (inr e) = subst (AreAtMost 8) (sym e) (answered_low server stores.penalties low)
  stopped_penalties (TimedOut server) stores low new (inr e) = subst (AreAtMost 8) (sym e) (timed_out_low server stores.penalties_cap stores.penalties low)
  stopped_penalties (TcpFailed server) stores low new (inr e) = subst (AreAtMost 8) (sym e) (timed_out_low server stores.penalties_cap stores.penalties low)

  module _ (now : ℕ) (clock : now ≡ clock_of (turn ∷ past)) (j : Job) (stores : Stores) (told : AreTold port home past stores) (marks : AreMarked port home k past (Passed j.skipped K) j.failed)
      (known : j.skipped ≡ true → SomeKnown K) (top : OnTop port home k past (Passed j.skipped K) j.name j.kind j.searches (IsAskingAs j.skipped)) where
    taken_entry : (input : Input) → IsInputNow input → (x : Key × Hit) → IsTakenEntry j input now x → (n : Name) × (u : ℕ) × (x.0 ≡ key_for n u (x.1).link) × Earlier (LearnsLink port n u (x.1).link) (turn ∷ past)
    taken_entry Start is x (s, l, c, kept) = absurd c
    taken_entry (Told way server m) (via_is, server_is, brings) x (s, l, ((rest, searches), is), kept) =
        let h = subst (λ (l : List Search). OnTop port home k past (Passed j.skipped K) j.name j.kind l (IsAskingAs j.skipped)) searches top in
        fresh_entry s rest now j stores (point Go j stores) (told_later port home turn past stores told) marks known h.0 h.1 m brings l (subst (λ (w : Via). class_of (s.frame).zone s.name s.kind w m ≡ class.Answer l) via_is is) x kept
    taken_entry (TimedOut server) is x (s, l, c, kept) = absurd c
    taken_entry (TcpFailed server) is x (s, l, c, kept) = absurd c

    taken_cut : (input : Input) → IsInputNow input → (x : Name × Known) → IsTakenCut j input now x → (x.0 ≡ ((x.1).cut).owner) × IsKeptStart port home (turn ∷ past) (x.1).cut
    taken_cut Start is x (s, at, ns, glue, ttl, c, none, is_cut, kept) = absurd none
    taken_cut (Told way server m) (via_is, server_is, brings) x (s, at, ns, glue, ttl, c, ((rest, searches), is), is_cut, kept) =
        let h = subst (λ (l : List Search). OnTop port home k past (Passed j.skipped K) j.name j.kind l (IsAskingAs j.skipped)) searches top in
        let class_is = subst (λ (w : Via). class_of (s.frame).zone s.name s.kind w m ≡ class.Referral at ns glue ttl) via_is is in
        fresh_cut s rest now j stores (point Go j stores) (told_later port home turn past stores told) marks known h.0 h.1 m brings c ttl (referred_start s rest now j stores (point Go j stores) (told_later port home turn past stores told) marks known h.0 h.1 m brings at ns glue ttl c class_is is_cut) x kept
    taken_cut (TimedOut server) is x (s, at, ns, glue, ttl, c, none, is_cut, kept) = absurd none
    taken_cut (TcpFailed server) is x (s, at, ns, glue, ttl, c, none, is_cut, kept) = absurd none

    taken_failure : (input : Input) → IsInputNow input → (x : FailedAsk × ℕ) → IsTakenFailure j input now x → Earlier (SaysFailure port (x.0).name (x.0).kind (x.0).server x.1) (turn ∷ past)
    taken_failure Start is x (s, a, none, same) = absurd none
    taken_failure (Told way server m) (via_is, server_is, brings) x (s, a, ((rest, searches), from, fails), same) =
        let h = subst (λ (l : List Search). OnTop port home k past (Passed j.skipped K) j.name j.kind l (IsAskingAs j.skipped)) searches top in
        failure_told s m now clock (h.0).1 (h.0).2 brings x (same ∙ ap (λ (d : Addr). (ask_of s d, now)) (from ∙ server_is)) fails
    taken_failure (TimedOut server) is x (s, a, none, same) = absurd none
    taken_failure (TcpFailed server) is x (s, a, none, same) = absurd none

    pub stops_told : (input : Input) (after : Stores) → IsInputNow input → BringsOnly input now j stores after → AreTold port home (turn ∷ past) after
    stops_told input after is h = record {
      links = λ key e c. elim (h.cache (key, e) c) [
        | inl d ↦ (told_later port home turn past stores told).links key e d
        | inr new ↦ taken_entry input is (key, e) new
      ];
      cuts = λ n e c. elim (h.delegations (n, e) c) [
        | inl d ↦ (told_later port home turn past stores told).cuts n e d
        | inr new ↦ taken_cut input is (n, e) new
      ];
      low = stopped_penalties input stores told.low after.penalties h.penalties;
      failures = λ f since c. elim (h.failures (f, since) c) [
        | inl d ↦ inr (told.failures f since d)
        | inr new ↦ taken_failure input is (f, since) new
      ];
    }
