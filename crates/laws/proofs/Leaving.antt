-- What goes out at the last point: an ask of the next server, or a failure whose cause stands in the run.
use Rattle.std.proofs.Common.{◌≡◌, ℕ, ◌-◌, ◌≤◌, ◌⊎◌, Bool, true, false, inl, inr, Some, List, [], ◌∷◌, ◌++◌, length, refl, sym, ap, ◌∙◌, subst, arith, length-append}
use Rattle.dname.specs.Labels.{Name}
use Rattle.rdata.specs.Records.{Record}
use Rattle.rdata.specs.declared.addr.Addr.{Addr}
use Rattle.zone.specs.Links.{Alias}
use Rattle.front.specs.Chains.{alias_target}
use Rattle.causes.specs.declared.cause.Cause.{Cause}
use Rattle.causes.specs.declared.cause.Cause.TheVariants.{TooManyOpen, DeadlineOver, ChainTooLong, TooManyAsks, NoServerLeft, ReplyTooLarge, KnownFailure, TooManyLookUps}
use Rattle.retry.specs.Plans.{upcoming}
use Rattle.resolution.specs.Jobs.{Home, Stores, Taken, Search, Job, Next, AskUdp, AskTcp, Done, Fail, given, Task, Take, Go, Again, Point}
use Rattle.resolution.specs.Rules.{MayNotSend, IsUsedUp, spent_cause, Leaves, sends, sends_again, refuses, spent, looked_out, nowhere, too_long, done}
use Rattle.runs.specs.States.{Turn}
use Rattle.laws.specs.Spent.{HasFailed, AcceptedAliasesLead, IsBeyond, AreUsedUp}
use Rattle.laws.specs.Failures.{EndsSpent}
use Rattle.laws.proofs.TimelySearches.{Passed, SomeKnown, FailsTwice, spent_with, IsIdle, IsAsk, AreAround, AreMarked, one_given, used_up}
use Rattle.laws.proofs.Told.{AreTold}
use Rattle.laws.proofs.TimelyPoints.{OnTop, StandsBy, IsSound}
use Rattle.laws.proofs.Chains.{LeadsOn, IsReached, IsOfName, leads_more, led}

module _ (port : ℕ) (home : Home) (run : List Turn) (k : ℕ) (K : Name → ℕ → Addr → Type 0) (t : ℕ) (from : Name) where
  -- An open query's work: its innermost search asks the server for the name and the type.
  pub record IsWaitingFor (server : Addr) (n : Name) (u : ℕ) (j : Job) : Type 0 where
    pub top : OnTop port home k run (Passed j.skipped K) j.name j.kind j.searches (λ s. IsAsk port home k run (Passed j.skipped K) s server × (n ≡ s.name) × (u ≡ s.kind))
    pub marks : AreMarked port home k run (Passed j.skipped K) j.failed
    pub known : j.skipped ≡ true → SomeKnown K
    pub kind : j.kind ≡ t
    pub leads : LeadsOn port home run t from j.chain j.name
    pub few : length j.chain ≤ 8

  -- Nine aliases lead on.
  abbrev pub EndsLong : Type 0
  EndsLong = (rs : List Record) × (to : Name) × (length rs ≡ 9) × AcceptedAliasesLead port home run t from rs to

  abbrev pub FailsFor : Cause → Type 0
  FailsFor TooManyOpen = Unit {0}
  FailsFor DeadlineOver = Unit {0}
  FailsFor ChainTooLong = EndsLong
  FailsFor TooManyAsks = Unit {0}
  FailsFor NoServerLeft = EndsSpent port home run (HasFailed port home run k) t from
  FailsFor ReplyTooLarge = Unit {0}
  FailsFor TooManyLookUps = Unit {0}
  FailsFor KnownFailure = SomeKnown K × EndsSpent port home run (λ z n u a. HasFailed port home run k z n u a ⊎ K n u a) t from

module _ (port : ℕ) (home : Home) (run : List Turn) (k : ℕ) (K : Name → ℕ → Addr → Type 0) (t : ℕ) (from : Name) (Truncates : Addr → Name → ℕ → Type 0) where
  abbrev pub GoesOut : Next → Job → Type 0
  GoesOut (AskUdp server n u) job = IsWaitingFor port home run k K t from server n u job
  GoesOut (AskTcp server n u) job = IsWaitingFor port home run k K t from server n u job × Truncates server n u
  GoesOut (Done chain last) job = Unit {0}
  GoesOut (Fail c) job = FailsFor port home run k K t from c

  at_go : (p : Point) → IsSound port home k run K Truncates p → p.task ≡ Go → (s : Search) (rest : List Search) → (p.job).searches ≡ s ∷ rest
      → IsIdle port home k run (Passed (p.job).skipped K) s × AreAround port home k run (Passed (p.job).skipped K) (p.job).name (p.job).kind s.name s.kind (s.frame).nesting rest
  at_go p h te s rest e = subst (λ (l : List Search). OnTop port home k run (Passed (p.job).skipped K) (p.job).name (p.job).kind l (IsIdle port home k run (Passed (p.job).skipped K))) e (subst (λ (y : Task). StandsBy port home k run K Truncates y p.job) te h.stands)

  at_again : (p : Point) (a : Addr) → IsSound port home k run K Truncates p → p.task ≡ Again a → (s : Search) (rest : List Search) → (p.job).searches ≡ s ∷ rest
      → (IsAsk port home k run (Passed (p.job).skipped K) s a × Truncates a s.name s.kind) × AreAround port home k run (Passed (p.job).skipped K) (p.job).name (p.job).kind s.name s.kind (s.frame).nesting rest
  at_again p a h te s rest e = subst (λ (l : List Search). OnTop port home k run (Passed (p.job).skipped K) (p.job).name (p.job).kind l (λ s. IsAsk port home k run (Passed (p.job).skipped K) s a × Truncates a s.name s.kind)) e (subst (λ (y : Task). StandsBy port home k run K Truncates y p.job) te h.stands)

  -- The next server of the plan is asked.
  asks_next : (Known : Name → ℕ → Addr → Type 0) (s : Search) (a : Addr) → IsIdle port home k run Known s → upcoming (s.frame).plan ≡ Some a → IsAsk port home k run Known (given s) a
  asks_next Known s a h next = record {
    cut = h.cut;
    ended = ((s.frame).plan).given;
    stands = record { start = h.stands.start; over = h.stands.over; zone = h.stands.zone; names = h.stands.names; addresses = h.stands.addresses };
    settled = h.settled;
    given = one_given port home k run Known (s.frame).plan a next;
    at = next;
    asked = record { followed = h.asked.followed; others = h.asked.others };
  }

  all_spent : (p : Point) (s : Search) → IsSound port home k run K Truncates p → IsReached port home run t from p.task p.job → p.task ≡ Go → IsUsedUp p.job s [] → EndsSpent port home run (FailsTwice port home k run (Passed (p.job).skipped K)) t from
  all_spent p s sound reached te up =
      let (idle, (name, kind, depth)) = at_go p sound te s [] up.searches in
      let (c, used) = used_up port home k run (Passed (p.job).skipped K) (p.job).failed s sound.marks idle up.asked_all up.none_left in
      let (rs, len, leads) = led port home run t from (p.job).chain (p.job).name reached.leads in
      let few : length rs ≤ 8 = subst (λ (m : ℕ). m ≤ 8) (sym len) reached.few in (
        (p.job).name,
        rs,
        few,
        leads,
        (
          c,
          subst (λ (n : Name). AreUsedUp port home run (FailsTwice port home k run (Passed (p.job).skipped K)) n t (IsBeyond port home run (FailsTwice port home k run (Passed (p.job).skipped K)) 3) c) name
              (subst (λ (u : ℕ). AreUsedUp port home run (FailsTwice port home k run (Passed (p.job).skipped K)) s.name u (IsBeyond port home run (FailsTwice port home k run (Passed (p.job).skipped K)) 3) c) (kind ∙ reached.kind)
              (subst (λ (d : ℕ). AreUsedUp port home run (FailsTwice port home k run (Passed (p.job).skipped K)) s.name s.kind (IsBeyond port home run (FailsTwice port home k run (Passed (p.job).skipped K)) (3 - d)) c) depth used)),
        ),
      )

  -- Why, by whether one was passed over.
  spent_for : (b : Bool) → (b ≡ true → SomeKnown K) → EndsSpent port home run (FailsTwice port home k run (Passed b K)) t from → FailsFor port home run k K t from (spent_cause b)
  spent_for true known (n, rs, few, leads, ends) = (
    known refl,
    (n, rs, few, leads, spent_with port home run (FailsTwice port home k run (Passed true K)) (λ z m u a. HasFailed port home run k z m u a ⊎ K m u a) (λ z m u a w. either z m u a w) n t 0 ends),
  )
    where
      either : (z m : Name) (u : ℕ) (a : Addr) → FailsTwice port home k run (Passed true K) z m u a → HasFailed port home run k z m u a ⊎ K m u a
      either z m u a (inl w) = inl w
      either z m u a (inr w) = inr w.1
  spent_for false known (n, rs, few, leads, ends) =
      (n, rs, few, leads, spent_with port home run (FailsTwice port home k run (Passed false K)) (HasFailed port home run k) (λ z m u a w. asked z m u a w) n t 0 ends)
    where
      asked : (z m : Name) (u : ℕ) (a : Addr) → FailsTwice port home k run (Passed false K) z m u a → HasFailed port home run k z m u a
      asked z m u a (inl w) = w
      asked z m u a (inr w) = let none = w.0 in absurd (cc)

  -- A ninth alias.
  all_long : (p : Point) (l : Taken) (r : Record) → IsReached port home run t from p.task p.job → p.task ≡ Take l → l.link ≡ Alias r → 8 ≤ length (p.job).chain → EndsLong port home run k K t from
  all_long p l r reached te is long =
      let (name, alias) = subst (λ (y : Task). IsOfName port home run t (p.job).name y) te reached.link in
      let (rs, len, leads) = led port home run t from ((p.job).chain ++ l ∷ []) (alias_target r) (leads_more port home run t from (p.job).chain (p.job).name l r reached.leads name is (alias r is)) in
      (rs, alias_target r, len ∙ nine, leads)
    where
      nine : length ((p.job).chain ++ l ∷ []) ≡ 9
      nine = let sum = length-append (p.job).chain (l ∷ []) in let few = reached.few in omega arith

  refused : (now : ℕ) (j : Job) (c : Cause) → MayNotSend now j c → FailsFor port home run k K t from c
  refused now j c (inl h) = subst (FailsFor port home run k K t from) (sym h.0) tt
  refused now j c (inr h) = subst (FailsFor port home run k K t from) (sym h.0) tt

  pub leaves_tell : (now : ℕ) (p : Point) (next : Next) (job : Job) (stores : Stores) → IsSound port home k run K Truncates p → IsReached port home run t from p.task p.job → Leaves home now p next job stores
      → GoesOut next job × AreTold port home run stores
  leaves_tell now p next job stores sound reached (sends server s rest due may is to same) =
      let (idle, around) = at_go p sound due.task s rest due.searches in (
        subst (λ (x : Next). GoesOut x job) (sym is) (record {
          top = subst (λ (x : Job). OnTop port home k run (Passed x.skipped K) x.name x.kind x.searches (λ z. IsAsk port home k run (Passed x.skipped K) z server × (s.name ≡ z.name) × (s.kind ≡ z.kind))) (sym to) ((asks_next (Passed (p.job).skipped K) s server idle due.next, refl, refl), around);
          marks = subst (λ (x : Job). AreMarked port home k run (Passed x.skipped K) x.failed) (sym to) sound.marks;
          known = subst (λ (x : Job). x.skipped ≡ true → SomeKnown K) (sym to) sound.known;
          kind = ap (λ (x : Job). x.kind) to ∙ reached.kind;
          leads = subst (λ (x : Job). LeadsOn port home run t from x.chain x.name) (sym to) reached.leads;
          few = subst (λ (x : Job). length x.chain ≤ 8) (sym to) reached.few;
        }),
        subst (AreTold port home run) (sym same) sound.told,
      )
  leaves_tell now p next job stores sound reached (sends_again server s rest due may is to same) =
      let (asking, around) = at_again p server sound due.task s rest due.searches in (
        subst (λ (x : Next). GoesOut x job) (sym is) (
          record {
            top = subst (λ (x : Job). OnTop port home k run (Passed x.skipped K) x.name x.kind x.searches (λ z. IsAsk port home k run (Passed x.skipped K) z server × (s.name ≡ z.name) × (s.kind ≡ z.kind))) (sym to)
                (subst (λ (l : List Search). OnTop port home k run (Passed (p.job).skipped K) (p.job).name (p.job).kind l (λ z. IsAsk port home k run (Passed (p.job).skipped K) z server × (s.name ≡ z.name) × (s.kind ≡ z.kind))) (sym due.searches) ((asking.0, refl, refl), around));
            marks = subst (λ (x : Job). AreMarked port home k run (Passed x.skipped K) x.failed) (sym to) sound.marks;
            known = subst (λ (x : Job). x.skipped ≡ true → SomeKnown K) (sym to) sound.known;
            kind = ap (λ (x : Job). x.kind) to ∙ reached.kind;
            leads = subst (λ (x : Job). LeadsOn port home run t from x.chain x.name) (sym to) reached.leads;
            few = subst (λ (x : Job). length x.chain ≤ 8) (sym to) reached.few;
          },
          asking.1,
        ),
        subst (AreTold port home run) (sym same) sound.told,
      )
  leaves_tell now p next job stores sound reached (refuses c server s rest due may is same) =
      (subst (λ (x : Next). GoesOut x job) (sym is) (refused now p.job c may), subst (AreTold port home run) (sym same) sound.told)
  leaves_tell now p next job stores sound reached (spent s te up is same) =
      (subst (λ (x : Next). GoesOut x job) (sym is) (spent_for (p.job).skipped sound.known (all_spent p s sound reached te up)), subst (AreTold port home run) (sym same) sound.told)
  leaves_tell now p next job stores sound reached (looked_out s rest n te out is same) =
      (subst (λ (x : Next). GoesOut x job) (sym is) tt, subst (AreTold port home run) (sym same) sound.told)
  leaves_tell now p next job stores sound reached (nowhere te none is same) = absurd (elim te [
    | inl go ↦ subst (λ (l : List Search). OnTop port home k run (Passed (p.job).skipped K) (p.job).name (p.job).kind l (IsIdle port home k run (Passed (p.job).skipped K))) none (subst (λ (y : Task). StandsBy port home k run K Truncates y p.job) go sound.stands)
    | inr (a, again) ↦ subst (λ (l : List Search). OnTop port home k run (Passed (p.job).skipped K) (p.job).name (p.job).kind l (λ s. IsAsk port home k run (Passed (p.job).skipped K) s a × Truncates a s.name s.kind)) none (subst (λ (y : Task). StandsBy port home k run K Truncates y p.job) again sound.stands)
  ])
  leaves_tell now p next job stores sound reached (too_long l r te is_alias long is same) =
      (subst (λ (x : Next). GoesOut x job) (sym is) (all_long p l r reached te is_alias long), subst (AreTold port home run) (sym same) sound.told)
  leaves_tell now p next job stores sound reached (done l te ending fresh is same) = (subst (λ (x : Next). GoesOut x job) (sym is) tt, subst (AreTold port home run) (sym same) sound.told)
