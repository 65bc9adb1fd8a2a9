-- A whole chain goes out within its time; what goes out at the last point, by the clock and the count of asks.
use Rattle.std.proofs.Common.{◌≡◌, ℕ, suc, ◌+◌, ◌-◌, ◌*◌, ◌/◌, ◌≤◌, ◌<◌, ◌⊎◌, inl, inr, Bool, true, false, List, [], ◌∷◌, ◌++◌, length, refl, sym, ap, ◌∙◌, subst}
use Rattle.std.proofs.lemmas.Bool.{leb-false}
use Rattle.dname.specs.Labels.{Name}
use Rattle.rdata.specs.Records.{Record}
use Rattle.zone.specs.Zones.{cname_type}
use Rattle.zone.specs.Links.{Link, Found, Alias, NoData, NxDomain}
use Rattle.zone.specs.Look as local
use Rattle.causes.specs.declared.cause.Cause.{Cause}
use Rattle.causes.specs.declared.cause.Cause.TheVariants.{TooManyOpen, DeadlineOver, ChainTooLong, TooManyAsks, NoServerLeft, ReplyTooLarge, KnownFailure, TooManyLookUps}
use Rattle.classify.specs.Lifetimes.{received, lifetime_of}
use Rattle.front.specs.Chains.{alias_target, IsEndOf}
use Rattle.cache.specs.Cached.{retimed}
use Rattle.resolution.specs.Jobs.{Home, Stores, Source, Local, Cached, Accepted, Taken, has_ended, AreFresh, IsEnding, sent_from, sent, Job, Next, AskUdp, AskTcp, Done, Fail, Task, Take, Go, Again, Point}
use Rattle.resolution.specs.Rules.{Says, IsRemote, MayNotSend, spent_cause, Leaves, sends, sends_again, refuses, spent, looked_out, nowhere, too_long, done}
use Rattle.runs.specs.States.{Turn, OpenQuery}
use Rattle.runs.specs.Messages.{is_from_here, is_local_first, alias_in, aliases_of, end_in}
use Rattle.runs.specs.Runs.{clock_of}
use Rattle.laws.specs.Timely.{IsTimelyLink, IsTimelyChain, IsTimely}
use Rattle.laws.proofs.Chains.{LeadsOn, IsOfName, IsReached}
use Rattle.laws.proofs.Timed.{AreTimed, IsKnownAs, IsKnown, AreKnown, KnownBy, IsTimed}

-- An alias as it goes out leads where it led.
sent_alias : (now : ℕ) (o : Source) (r : Record) → (q : Record) × (sent_from now o (Alias r) ≡ Alias q) × (alias_target q ≡ alias_target r)
sent_alias now Local r = (r, refl, refl)
sent_alias now (Cached ttl since) r = (_, refl, refl)
sent_alias now (Accepted ttl since) r = (_, refl, refl)

-- An end as it goes out is one.
sent_end : (now : ℕ) (o : Source) (l : Link) → IsEnding l → IsEndOf (sent_from now o l) (end_in (sent_from now o l))
sent_end now Local (Found rs) h = refl
sent_end now Local (Alias r) h = absurd h
sent_end now Local (NoData soa) h = refl
sent_end now Local (NxDomain soa) h = refl
sent_end now (Cached ttl since) (Found rs) h = refl
sent_end now (Cached ttl since) (Alias r) h = absurd h
sent_end now (Cached ttl since) (NoData soa) h = refl
sent_end now (Cached ttl since) (NxDomain soa) h = refl
sent_end now (Accepted ttl since) (Found rs) h = refl
sent_end now (Accepted ttl since) (Alias r) h = absurd h
sent_end now (Accepted ttl since) (NoData soa) h = refl
sent_end now (Accepted ttl since) (NxDomain soa) h = refl

module _ (port : ℕ) (home : Home) (turn : Turn) (past : List Turn) (k t now : ℕ) (clock : now ≡ clock_of (turn ∷ past)) (Mine : Type 0) (mine : Mine → turn.served ≡ OpenQuery k) where
  left_of : (ttl life since : ℕ) (l : Link) → ttl ≡ life → retimed (ttl - (now - since) / 1000) l ≡ retimed (life - (clock_of (turn ∷ past) - since) / 1000) l
  left_of ttl life since l e = λ i. retimed (e i - (clock i - since) / 1000) l

  timely_as : (n : Name) (o : Source) (l : Link) → has_ended now o ≡ false → IsKnownAs port home (turn ∷ past) k t Mine n o l → IsTimelyLink port home turn past n t (sent_from now o l)
  timely_as n Local l fresh h = inl h
  timely_as n (Cached ttl since) l fresh (remote, (by, m, u, said, learnt, answers, life)) = inr (
    remote,
    record {
      by = by;
      at = m;
      kind = u;
      said = said;
      since = since;
      learnt = learnt;
      given = l;
      fits = inr answers;
      is = left_of ttl (lifetime_of (received said)) since l life;
      in_time = inl (subst (λ (m : ℕ). m - since < 1000 * lifetime_of (received said)) clock (subst (λ (x : ℕ). now - since < 1000 * x) life (leb-false (1000 * ttl) (now - since) fresh)));
    },
  )
  timely_as n (Accepted ttl since) l fresh (remote, own, (said, learnt, is, life)) = inr (
    remote,
    record {
      by = k;
      at = n;
      kind = t;
      said = said;
      since = since;
      learnt = learnt;
      given = l;
      fits = inl (refl, refl, is);
      is = left_of ttl (lifetime_of (received said)) since l life;
      in_time = inr (mine own);
    },
  )

  -- The aliases' records go out in order.
  timely_chain : (from : Name) (chain : List Taken) (to : Name) (last : Taken) → LeadsOn port home (turn ∷ past) t from chain to → last.name ≡ to → AreKnown port home (turn ∷ past) k t Mine chain
      → IsKnown port home (turn ∷ past) k t Mine last → AreFresh now (chain ++ last ∷ []) → IsEnding last.link → IsTimelyChain port home turn past t from (aliases_of now chain) (end_in (sent now last))
  timely_chain from [] to last leads name known is fresh ending =
      (sent now last, subst (λ (n : Name). IsTimelyLink port home turn past n t (sent now last)) (name ∙ leads) (timely_as last.name last.source last.link fresh.0 is), sent_end now last.source last.link ending)
  timely_chain from (x ∷ xs) to last (name, (r, link, alias, more)) at known is fresh ending =
      let (q, out, target) = sent_alias now x.source r in
      let goes : sent now x ≡ Alias q = ap (sent_from now x.source) link ∙ out in
      let first = subst (λ (n : Name). IsTimelyLink port home turn past n t (sent now x)) name (timely_as x.name x.source x.link fresh.0 known.0) in
      let rest = timely_chain (alias_target r) xs to last more at known.1 is fresh.1 ending in
      subst (λ (rs : List Record). IsTimelyChain port home turn past t from (rs ++ aliases_of now xs) (end_in (sent now last))) (sym (ap alias_in goes))
      (subst (IsTimelyLink port home turn past from t) goes first, subst (λ (n : Name). IsTimelyChain port home turn past t n (aliases_of now xs) (end_in (sent now last))) (sym target) rest)

  as_many : (from : Name) (chain : List Taken) (to : Name) → LeadsOn port home (turn ∷ past) t from chain to → length (aliases_of now chain) ≡ length chain
  as_many from [] to leads = refl
  as_many from (x ∷ xs) to (name, (r, link, alias, more)) =
      let (q, out, target) = sent_alias now x.source r in
      ap (λ (rs : List Record). length (rs ++ aliases_of now xs)) (ap alias_in (ap (sent_from now x.source) link ∙ out)) ∙ ap suc (as_many (alias_target r) xs to more)

  Authority : Name → Bool → Type 0
  Authority n aa = ((aa ≡ true) × ((l : Link) × Says home n t (local.Linked l))) ⊎ ((aa ≡ false) × IsRemote home n t)

  from_here : (n : Name) (o : Source) (l : Link) → IsKnownAs port home (turn ∷ past) k t Mine n o l → Authority n (is_from_here o)
  unfolding Authority
  from_here n Local l h = inl (refl, (l, h))
  from_here n (Cached ttl since) l h = inr (refl, h.0)
  from_here n (Accepted ttl since) l h = inr (refl, h.0)

  first_here : (from : Name) (chain : List Taken) (to : Name) (last : Taken) → LeadsOn port home (turn ∷ past) t from chain to → last.name ≡ to → AreKnown port home (turn ∷ past) k t Mine chain
      → IsKnown port home (turn ∷ past) k t Mine last → Authority from (is_local_first chain last)
  first_here from [] to last leads name known is = subst (λ (n : Name). Authority n (is_from_here last.source)) (name ∙ leads) (from_here last.name last.source last.link is)
  first_here from (x ∷ xs) to last (name, more) at known is = subst (λ (n : Name). Authority n (is_from_here x.source)) name (from_here x.name x.source x.link known.0)

  pub timely : (from : Name) (chain : List Taken) (to : Name) (last : Taken) → LeadsOn port home (turn ∷ past) t from chain to → last.name ≡ to → length chain ≤ 8 → (t ≡ cname_type → chain ≡ [])
      → AreKnown port home (turn ∷ past) k t Mine chain → IsKnown port home (turn ∷ past) k t Mine last → AreFresh now (chain ++ last ∷ []) → IsEnding last.link
      → IsTimely port home turn past from t (is_local_first chain last) (aliases_of now chain) (end_in (sent now last))
  unfolding Authority
  timely from chain to last leads name few plain known is fresh ending = record {
    few = subst (λ (n : ℕ). n ≤ 8) (sym (as_many from chain to leads)) few;
    plain = λ c. ap (aliases_of now) (plain c);
    authority = first_here from chain to last leads name known is;
    chain = timely_chain from chain to last leads name known is fresh ending;
  }

  -- ---- what goes out

  -- An open query's work, by the clock and the count of its asks.
  pub record IsOpenFor (deadline sent : ℕ) (j : Job) : Type 0 where
    pub chain : AreKnown port home (turn ∷ past) k t Mine j.chain
    pub remote : IsRemote home j.name j.kind
    pub plain : t ≡ cname_type → j.chain ≡ []
    pub deadline_is : j.deadline ≡ deadline
    pub sent_is : j.asks ≡ sent + 1
    pub few : sent < 40

  abbrev pub FailsAt : ℕ → ℕ → Cause → Type 0
  FailsAt deadline sent TooManyOpen = ⊥
  FailsAt deadline sent DeadlineOver = deadline ≤ now
  FailsAt deadline sent ChainTooLong = Unit {0}
  FailsAt deadline sent TooManyAsks = 40 ≤ sent
  FailsAt deadline sent NoServerLeft = Unit {0}
  FailsAt deadline sent ReplyTooLarge = ⊥
  FailsAt deadline sent KnownFailure = Unit {0}
  FailsAt deadline sent TooManyLookUps = Unit {0}

  spent_at : (d m : ℕ) (b : Bool) → FailsAt d m (spent_cause b)
  spent_at d m true = tt
  spent_at d m false = tt

  abbrev pub GoesTimely : Name → ℕ → ℕ → Next → Job → Type 0
  GoesTimely from d m (AskUdp server n u) job = IsOpenFor d m job
  GoesTimely from d m (AskTcp server n u) job = IsOpenFor d m job
  GoesTimely from d m (Done chain last) job = IsTimely port home turn past from t (is_local_first chain last) (aliases_of now chain) (end_in (sent now last))
  GoesTimely from d m (Fail c) job = FailsAt d m c

  at_task : (d m : ℕ) (p : Point) (task : Task) → IsTimed port home (turn ∷ past) k t Mine d m p → p.task ≡ task → KnownBy port home (turn ∷ past) k t Mine task p.job
  at_task d m p task h te = subst (λ (y : Task). KnownBy port home (turn ∷ past) k t Mine y p.job) te h.task

  asks_on : (d m : ℕ) (p : Point) (j : Job) → IsTimed port home (turn ∷ past) k t Mine d m p → IsRemote home (p.job).name (p.job).kind → (p.job).asks < 40
      → j.chain ≡ (p.job).chain → j.name ≡ (p.job).name → j.kind ≡ (p.job).kind → j.deadline ≡ (p.job).deadline → j.asks ≡ (p.job).asks + 1 → IsOpenFor d m j
  asks_on d m p j h remote few chain name kind deadline asks = record {
    chain = subst (AreKnown port home (turn ∷ past) k t Mine) (sym chain) h.chain;
    remote = subst (λ (n : Name). IsRemote home n j.kind) (sym name) (subst (IsRemote home (p.job).name) (sym kind) remote);
    plain = λ c. chain ∙ h.plain c;
    deadline_is = deadline ∙ h.deadline_is;
    sent_is = asks ∙ ap (λ (n : ℕ). n + 1) h.sent_is;
    few = subst (λ (n : ℕ). n < 40) h.sent_is few;
  }

  pub leaves_timed : (from : Name) (d m : ℕ) (p : Point) (next : Next) (job : Job) (stores : Stores) → IsTimed port home (turn ∷ past) k t Mine d m p → IsReached port home (turn ∷ past) t from p.task p.job
      → Leaves home now p next job stores → GoesTimely from d m next job × AreTimed port home (turn ∷ past) stores
  leaves_timed from d m p next job stores h reached (sends server s rest due may is to same) = (
    subst (λ (x : Next). GoesTimely from d m x job) (sym is) (asks_on d m p job h (at_task d m p Go h due.task) may.few (ap (λ (x : Job). x.chain) to) (ap (λ (x : Job). x.name) to) (ap (λ (x : Job). x.kind) to)
        (ap (λ (x : Job). x.deadline) to) (ap (λ (x : Job). x.asks) to)),
    subst (AreTimed port home (turn ∷ past)) (sym same) h.stores,
  )
  leaves_timed from d m p next job stores h reached (sends_again server s rest due may is to same) = (
    subst (λ (x : Next). GoesTimely from d m x job) (sym is) (asks_on d m p job h (at_task d m p (Again server) h due.task) may.few (ap (λ (x : Job). x.chain) to) (ap (λ (x : Job). x.name) to) (ap (λ (x : Job). x.kind) to)
        (ap (λ (x : Job). x.deadline) to) (ap (λ (x : Job). x.asks) to)),
    subst (AreTimed port home (turn ∷ past)) (sym same) h.stores,
  )
  leaves_timed from d m p next job stores h reached (refuses c server s rest due may is same) =
      (subst (λ (x : Next). GoesTimely from d m x job) (sym is) (refused c may), subst (AreTimed port home (turn ∷ past)) (sym same) h.stores)
    where
      refused : (c : Cause) → MayNotSend now p.job c → FailsAt d m c
      refused c (inl r) = subst (FailsAt d m) (sym r.0) (subst (λ (n : ℕ). n ≤ now) h.deadline_is r.1)
      refused c (inr r) = subst (FailsAt d m) (sym r.0) (subst (λ (n : ℕ). 40 ≤ n) h.sent_is r.2)
  leaves_timed from d m p next job stores h reached (spent s te up is same) = (subst (λ (x : Next). GoesTimely from d m x job) (sym is) (spent_at d m (p.job).skipped), subst (AreTimed port home (turn ∷ past)) (sym same) h.stores)
  leaves_timed from d m p next job stores h reached (looked_out s rest n te out is same) = (subst (λ (x : Next). GoesTimely from d m x job) (sym is) tt, subst (AreTimed port home (turn ∷ past)) (sym same) h.stores)
  leaves_timed from d m p next job stores h reached (nowhere te none is same) = (subst (λ (x : Next). GoesTimely from d m x job) (sym is) tt, subst (AreTimed port home (turn ∷ past)) (sym same) h.stores)
  leaves_timed from d m p next job stores h reached (too_long l r te alias long is same) = (subst (λ (x : Next). GoesTimely from d m x job) (sym is) tt, subst (AreTimed port home (turn ∷ past)) (sym same) h.stores)
  leaves_timed from d m p next job stores h reached (done l te ending fresh is same) =
      let name = (subst (λ (y : Task). IsOfName port home (turn ∷ past) t (p.job).name y) te reached.link).0 in (
        subst (λ (x : Next). GoesTimely from d m x job) (sym is) (timely from (p.job).chain (p.job).name l reached.leads name reached.few h.plain h.chain (at_task d m p (Take l) h te) fresh ending),
        subst (AreTimed port home (turn ∷ past)) (sym same) h.stores,
      )
