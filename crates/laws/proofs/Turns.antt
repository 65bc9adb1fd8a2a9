-- What becomes of a query that a step serves: an open one, or one that comes.
use Rattle.std.proofs.Common.{◌≡◌, ◌≢◌, ℕ, ◌+◌, ◌-◌, ◌≤◌, ◌<◌, ◌⊎◌, inl, inr, true, false, List, ◌∷◌, length, Contains, refl, sym, ap, ◌∙◌, subst, arith}
use Rattle.dname.specs.Labels.{Name}
use Rattle.rdata.specs.declared.addr.Addr.{Addr}
use Rattle.rdata.specs.Types.{type_number}
use Rattle.causes.specs.declared.cause.Cause.{Cause}
use Rattle.causes.specs.declared.cause.Cause.TheVariants as cause
use Rattle.front.specs.declared.queries.Outcome.{Outcome}
use Rattle.front.specs.declared.queries.Outcome.TheVariants as outcome
use Rattle.resolution.specs.Jobs.{Stores, Job, Input, Next, AskUdp, AskTcp, Done, Fail}
use Rattle.resolution.specs.Stops.{Stops}
use Rattle.resolution.proofs.Keeping.{stops_bring}
use Rattle.runs.specs.States.{Action, Turn, Served, Own, OpenQuery, Plain, ClientQuery, recursive, Open, AreApart, State}
use Rattle.runs.specs.Runs.{IsOpenAskOf, GivesOut, Came, clock_of, asks_among, asks_in, is_for, asks_of}
use Rattle.runs.specs.Steps.{Ends, Comes, IsAsk, IsOpened, at_once, crowded, admitted, Resolves, IsInput, IsIgnored, ServesOpen, IsLate, IsLeft}
use Rattle.laws.specs.Spent.{HasFailed, BringsTruncated}
use Rattle.laws.specs.Failures.{FailedLately, WasKnown}
use Rattle.laws.proofs.Told.{KnownIn, known_was}
use Rattle.laws.proofs.TimelySearches.{spent_with}
use Rattle.laws.proofs.TimelyPoints.{Lately}
use Rattle.laws.proofs.Later.{work_on}
use Rattle.laws.specs.LookUps.{HasLookedUp}
use Rattle.laws.specs.Caused.{AreCrowded, IsPastDeadline, IsExplained as IsExplainedSpec}
use Rattle.laws.proofs.Enters.{IsShown, open_asks}
use Rattle.laws.proofs.Leaving.{FailsFor, IsWaitingFor, GoesOut}
use Rattle.laws.proofs.TimelySent.{FailsAt, GoesTimely}
use Rattle.laws.proofs.Learnt.{call_timed, stop_timed, start_timed}
use Rattle.laws.proofs.States.{AreHeld, held_later, IsExplained, other_number, is_input, call_tells, stop_tells, start_tells}
use Rattle.laws.proofs.TimelyOpens.{all_distinct, as_many, by_tcp, by_udp, earlier_map, ended, ends_so, not_nobody, not_own, not_same, number_of, numbers_of, same_state}
use Rattle.laws.proofs.TimelyAnswered.{AreAnswered, ends_answered, none_answered, waits_answered}

-- ---- an open query is served

at_least : (n : ℕ) → n ≤ n
at_least n = omega arith

module _ (past : List Turn) (s : State) (h : IsExplained (s.site).port (s.site).home past s) (turn : Turn) (clock : s.clock ≡ clock_of (turn ∷ past)) where
  abbrev pub Keeps : State → List Action → Type 0
  Keeps new out = IsExplained (s.site).port (s.site).home (turn ∷ past) new × AreAnswered (s.site).home turn past (IsExplainedSpec (s.site).port (s.site).home) out

  late_open : (q : Open) → Contains s.queries q → turn.served ≡ OpenQuery q.number → (q.job).deadline ≤ s.clock → IsPastDeadline q.client_query turn past
  late_open q there is late = (
    q.number,
    is,
    earlier_map (λ came before. Came (OpenQuery q.number) q.client_query came before × ((q.job).deadline ≡ clock_of (came ∷ before) + 10000))
        (λ came before. Came (OpenQuery q.number) q.client_query came before × (clock_of (came ∷ before) + 10000 ≤ clock_of (turn ∷ past))) past
        (λ came before x. (x.0, subst (λ (n : ℕ). n ≤ clock_of (turn ∷ past)) x.1 (subst (λ (n : ℕ). (q.job).deadline ≤ n) clock late))) (h.queries q there).born,
  )

  -- What stands where the query that is served fails since its look-ups are used up.
  abbrev pub LooksUp : Next → Type 0
  LooksUp next = next ≡ Fail cause.TooManyLookUps → HasLookedUp (s.site).port (s.site).home turn past

  -- The causes, for an open query.
  fails_open : (q : Open) → Contains s.queries q → (is : turn.served ≡ OpenQuery q.number) → (c : Cause) → FailsFor (s.site).port (s.site).home (turn ∷ past) q.number (KnownIn (s.site).port q.number (turn ∷ past)) (type_number ((q.client_query).query).kind) ((q.client_query).query).name c
      → FailsAt (s.site).port (s.site).home turn past q.number (type_number ((q.client_query).query).kind) s.clock clock (turn.served ≡ OpenQuery q.number) (λ is. is) (q.job).deadline (q.job).asks c
      → LooksUp (Fail c) → IsExplainedSpec (s.site).port (s.site).home q.client_query (outcome.Fail c) turn past
  fails_open q there is cause.TooManyOpen f late enough = absurd late
  fails_open q there is cause.DeadlineOver f late enough = late_open q there is late
  fails_open q there is cause.ChainTooLong f late enough = f
  fails_open q there is cause.TooManyAsks f late enough = (q.number, is, forty (q.job).asks (asks_of q.number past) late (h.queries q there).asks (h.queries q there).few)
    where
      forty : (a n : ℕ) → 40 ≤ a → a ≡ n → n ≤ 40 → n ≡ 40
      forty a n le e few = omega arith
  fails_open q there is cause.NoServerLeft f late enough = (q.number, inl is, f)
  fails_open q there is cause.ReplyTooLarge f late enough = absurd late
  fails_open q there is cause.TooManyLookUps f late enough = enough refl
  fails_open q there is cause.KnownFailure ((n, t, a, known), (m, rs, few, leads, spent)) late enough = (
    q.number,
    inl is,
    (n, t, a, known_was (s.site).port q.number turn past n t a known),
    (
      m,
      rs,
      few,
      leads,
      spent_with (s.site).port (s.site).home (turn ∷ past) _ (λ z n t a. HasFailed (s.site).port (s.site).home (turn ∷ past) q.number z n t a ⊎ WasKnown (s.site).port q.number turn past n t a)
          (λ z n t a w. either z n t a w) m _ 0 spent,
    ),
  )
    where
      either : (z n : Name) (t : ℕ) (a : Addr) → HasFailed (s.site).port (s.site).home (turn ∷ past) q.number z n t a ⊎ KnownIn (s.site).port q.number (turn ∷ past) n t a
          → HasFailed (s.site).port (s.site).home (turn ∷ past) q.number z n t a ⊎ WasKnown (s.site).port q.number turn past n t a
      either z n t a (inl w) = inl w
      either z n t a (inr w) = inr (known_was (s.site).port q.number turn past n t a w)

  others_apart : (q : Open) → turn.served ≡ OpenQuery q.number → (p : Open) → Contains s.queries p → p.number ≢ q.number → turn.served ≢ OpenQuery p.number
  others_apart q is p c other e = not_same q.number p.number other (sym is ∙ e)

  others_free : (q : Open) → Contains s.queries q → turn.served ≡ OpenQuery q.number → (j : ℕ) → s.opened ≤ j → is_for j turn.served ≡ false
  others_free q there is j le =
      let lt : q.number < j = below_it (h.below q there) in
      subst (λ (x : Served). is_for j x ≡ false) (sym is) (other_number (s.site).port (s.site).home j q.number lt)
    where
      below_it : q.number < s.opened → q.number < j
      below_it lt = omega arith

  -- What comes of an open query.
  comes_of : (q : Open) (next : Next) (job : Job) (stores : Stores) (out : List Action) (new : State) → Contains s.queries q → (is : turn.served ≡ OpenQuery q.number)
      → ((a : Action) → Contains out a → GivesOut turn.out a) → asks_in turn.out ≡ asks_among out
      → GoesOut (s.site).port (s.site).home (turn ∷ past) q.number (KnownIn (s.site).port q.number (turn ∷ past)) (type_number ((q.client_query).query).kind) ((q.client_query).query).name (λ a n u. BringsTruncated (s.site).port q.number a n u turn past) next job
      → GoesTimely (s.site).port (s.site).home turn past q.number (type_number ((q.client_query).query).kind) s.clock clock (turn.served ≡ OpenQuery q.number) (λ is. is) ((q.client_query).query).name (q.job).deadline (q.job).asks next job
      → AreHeld (s.site).port (s.site).home (turn ∷ past) stores → LooksUp next → Comes s q.client_query q.number s.opened next job stores out new → Keeps new out
  comes_of q (AskUdp server n u) job stores out new there is goes counts leads timely told enough w = (
    by_udp (s.site).port (s.site).home past s h turn refl q.client_query q.number s.opened is (inr (h.queries q there).came) (h.queries q there).wanted (at_least s.opened) (h.below q there)
        (q.job).deadline (q.job).asks s.clock clock (turn.served ≡ OpenQuery q.number) (λ is. is) (inr (h.queries q there).born) (sym (h.queries q there).asks) server n u job stores out new goes counts told leads timely w,
    waits_answered (s.site).home turn past (IsExplainedSpec (s.site).port (s.site).home) s new (s.site).port _ _ _ stores out w.waits,
  )
  comes_of q (AskTcp server n u) job stores out new there is goes counts leads timely told enough w = (
    by_tcp (s.site).port (s.site).home past s h turn refl q.client_query q.number s.opened is (inr (h.queries q there).came) (h.queries q there).wanted (at_least s.opened) (h.below q there)
        (q.job).deadline (q.job).asks s.clock clock (turn.served ≡ OpenQuery q.number) (λ is. is) (inr (h.queries q there).born) (sym (h.queries q there).asks) server n u job stores out new goes counts told leads.0 timely leads.1 w,
    waits_answered (s.site).home turn past (IsExplainedSpec (s.site).port (s.site).home) s new (s.site).port _ _ _ stores out w.waits,
  )
  comes_of q (Done chain last) job stores out new there is goes counts leads timely told enough e = (
    ends_so (s.site).port (s.site).home past s h turn q.client_query q.number _ stores out new told e (others_apart q is) (others_free q there is),
    ends_answered (s.site).home turn past (IsExplainedSpec (s.site).port (s.site).home) s new q.client_query q.number _ stores out e (inr (q.number, is, (h.queries q there).came)) (h.queries q there).wanted timely,
  )
  comes_of q (Fail c) job stores out new there is goes counts leads timely told enough e = (
    ends_so (s.site).port (s.site).home past s h turn q.client_query q.number _ stores out new told e (others_apart q is) (others_free q there is),
    ends_answered (s.site).home turn past (IsExplainedSpec (s.site).port (s.site).home) s new q.client_query q.number _ stores out e (inr (q.number, is, (h.queries q there).came)) (h.queries q there).wanted
        (fails_open q there is c leads timely enough),
  )

  -- An open query is served by what the event is for it.
  pub hears_now : ((q : Open) → Contains s.queries q → IsShown (s.site).port (s.site).home q.number past q.job) → (first : List Action) (new : State) → ((a : Action) → Contains first a → GivesOut turn.out a) → asks_in turn.out ≡ asks_among first → (e : ServesOpen s turn.event turn.served first new) → LooksUp (e.serves).next → Keeps new first
  hears_now shown first new goes counts e enough =
      let q = e.query in
      let sound = h.queries q e.serves.stands in
      let input = is_input (s.site).port (s.site).home s q turn.event turn.served turn.out past q.number e.served_is sound.asked (KnownIn (s.site).port q.number past) (KnownIn (s.site).port q.number (turn ∷ past)) (λ n t a e. inr e) e.input refl e.brings in
      let tells = call_tells (s.site).port (s.site).home q.number turn past q.ask e.served_is sound.asked (type_number ((q.client_query).query).kind) ((q.client_query).query).name q.job s.stores h.told.0 sound.work
      s.clock clock (shown q e.serves.stands) e.input e.serves.next e.serves.job e.serves.stores input e.serves.advances in
      let timely = call_timed (s.site).port (s.site).home q.number turn past q.ask e.served_is sound.asked (type_number ((q.client_query).query).kind) ((q.client_query).query).name q.job s.stores h.told.0 sound.work
      s.clock clock h.told.1 sound.known sound.remote sound.plain (shown q e.serves.stands) e.input e.serves.next e.serves.job e.serves.stores input e.serves.advances in
      comes_of q e.serves.next e.serves.job e.serves.stores first new e.serves.stands e.served_is goes counts tells.0 timely.0 (tells.1, timely.1) enough e.serves.comes

  -- Its time is up.
  pub late_now : (first : List Action) (new : State) → IsLate s turn.served first new → Keeps new first
  late_now first new e =
      let q = e.query in (
        ends_so (s.site).port (s.site).home past s h turn q.client_query q.number _ s.stores first new (held_later (s.site).port (s.site).home turn past s.stores h.told) e.ends (others_apart q e.served_is) (others_free q e.due.stands e.served_is),
        ends_answered (s.site).home turn past (IsExplainedSpec (s.site).port (s.site).home) s new q.client_query q.number _ s.stores first e.ends (inr (q.number, e.served_is, (h.queries q e.due.stands).came)) (h.queries q e.due.stands).wanted (late_open q e.due.stands e.served_is e.late),
      )

  -- Nobody is meant.
  pub ignored_now : (out : List Action) (new : State) → IsIgnored s turn.event turn.served out new → Keeps new out
  ignored_now out new e = (
    same_state (s.site).port (s.site).home past s h turn new e.state (λ n is. not_nobody n (sym e.served_is ∙ is)) (λ j. ap (is_for j) e.served_is),
    none_answered (s.site).home turn past (IsExplainedSpec (s.site).port (s.site).home) out e.out_is,
  )

  -- Memory was wanting.
  pub left_now : (k : ℕ) (OnTheWay : Stores → Type 0) (new : State) → IsLeft s k OnTheWay new → ((stores : Stores) → OnTheWay stores → AreHeld (s.site).port (s.site).home (turn ∷ past) stores)
      → ((q : Open) → Contains s.queries q → q.number ≢ k → turn.served ≢ OpenQuery q.number) → ((j : ℕ) → s.opened ≤ j → is_for j turn.served ≡ false) → IsExplained (s.site).port (s.site).home (turn ∷ past) new
  left_now k OnTheWay new e told apart free = ended (s.site).port (s.site).home past s h turn k new (ap (λ (x : State). x.opened) e.state) (elim e.stores [
    | inl same ↦ subst (AreHeld (s.site).port (s.site).home (turn ∷ past)) (sym same) (held_later (s.site).port (s.site).home turn past s.stores h.told)
    | inr on ↦ told new.stores on
  ]) e.queries apart free

  pub starved_now : (q : Open) (new : State) → Contains s.queries q → turn.served ≡ OpenQuery q.number
      → IsLeft s q.number (λ stores. (input : Input) × IsInput s turn.event q input × Stops (s.site).home s.clock input q.job s.stores stores) new → IsExplained (s.site).port (s.site).home (turn ∷ past) new
  starved_now q new there is e =
      let sound = h.queries q there in
      left_now q.number (λ stores. (input : Input) × IsInput s turn.event q input × Stops (s.site).home s.clock input q.job s.stores stores) new e
      (λ stores (input, brings, stops). (
        stop_tells (s.site).port (s.site).home q.number turn past q.ask is sound.asked (type_number ((q.client_query).query).kind) ((q.client_query).query).name q.job s.stores h.told.0 sound.work
            s.clock clock input stores (is_input (s.site).port (s.site).home s q turn.event turn.served turn.out past q.number is sound.asked (KnownIn (s.site).port q.number past) (KnownIn (s.site).port q.number (turn ∷ past)) (λ n t a e. inr e) input refl brings) (stops_bring (s.site).home s.clock input q.job s.stores stores stops),
        stop_timed (s.site).port (s.site).home q.number turn past q.ask is sound.asked (type_number ((q.client_query).query).kind) ((q.client_query).query).name q.job s.stores h.told.0 sound.work
            s.clock clock h.told.1 sound.known sound.remote sound.plain input stores (is_input (s.site).port (s.site).home s q turn.event turn.served turn.out past q.number is sound.asked (KnownIn (s.site).port q.number past) (KnownIn (s.site).port q.number (turn ∷ past)) (λ n t a e. inr e) input refl brings) (stops_bring (s.site).home s.clock input q.job s.stores stores stops),
      ))
      (others_apart q is) (others_free q there is)

  -- ---- a client's query

  module _ (who : ClientQuery) (wanted : recursive who.query ≡ true) (out : List Action) (goes : (a : Action) → Contains out a → GivesOut turn.out a) (counts : asks_in turn.out ≡ asks_among out) where
    told_now : AreHeld (s.site).port (s.site).home (turn ∷ past) s.stores
    told_now = held_later (s.site).port (s.site).home turn past s.stores h.told

    -- What is known in the query's own step.
    abbrev KnownHere : Name → ℕ → Addr → Type 0
    KnownHere n t a = FailedLately (s.site).port n t a turn past

    lately_here : (Truncates : Addr → Name → ℕ → Type 0) → Lately (s.site).port (s.site).home s.opened (turn ∷ past) KnownHere Truncates s.clock
    lately_here Truncates n t a since e young = (since, e, subst (λ (m : ℕ). m - since < 30000) clock young)

    Tells_of : Next → Job → Type 0
    Tells_of next job = GoesOut (s.site).port (s.site).home (turn ∷ past) s.opened KnownHere (type_number (who.query).kind) (who.query).name (λ a n u. BringsTruncated (s.site).port s.opened a n u turn past) next job

    Timely_of : Next → Job → Type 0
    Timely_of next job = GoesTimely (s.site).port (s.site).home turn past s.opened (type_number (who.query).kind) s.clock clock ⊥ (λ e. absurd e) (who.query).name (s.clock + 10000) 0 next job

    -- The causes, for a query that is over in its own step.
    fails_own : turn.served ≡ Own → (c : Cause) → FailsFor (s.site).port (s.site).home (turn ∷ past) s.opened KnownHere (type_number (who.query).kind) (who.query).name c
        → FailsAt (s.site).port (s.site).home turn past s.opened (type_number (who.query).kind) s.clock clock ⊥ (λ e. absurd e) (s.clock + 10000) 0 c → LooksUp (Fail c) → IsExplainedSpec (s.site).port (s.site).home who (outcome.Fail c) turn past
    fails_own is cause.TooManyOpen f late enough = absurd late
    fails_own is cause.DeadlineOver f late enough = absurd (omega (arith, late))
    fails_own is cause.ChainTooLong f late enough = f
    fails_own is cause.TooManyAsks f late enough = absurd (omega (arith, late))
    fails_own is cause.NoServerLeft f late enough = (s.opened, inr (is, h.unasked s.opened (at_least s.opened)), f)
    fails_own is cause.ReplyTooLarge f late enough = absurd late
    fails_own is cause.TooManyLookUps f late enough = enough refl
    fails_own is cause.KnownFailure ((n, t, a, known), (m, rs, few, leads, spent)) late enough = (
      s.opened,
      inr (is, h.unasked s.opened (at_least s.opened)),
      (n, t, a, inl known),
      (
        m,
        rs,
        few,
        leads,
        spent_with (s.site).port (s.site).home (turn ∷ past) _ (λ z n t a. HasFailed (s.site).port (s.site).home (turn ∷ past) s.opened z n t a ⊎ WasKnown (s.site).port s.opened turn past n t a)
            (λ z n t a w. either z n t a w) m _ 0 spent,
      ),
    )
      where
        either : (z n : Name) (t : ℕ) (a : Addr) → HasFailed (s.site).port (s.site).home (turn ∷ past) s.opened z n t a ⊎ KnownHere n t a
            → HasFailed (s.site).port (s.site).home (turn ∷ past) s.opened z n t a ⊎ WasKnown (s.site).port s.opened turn past n t a
        either z n t a (inl w) = inl w
        either z n t a (inr w) = inr (inl w)

    crowded_own : turn.served ≡ Own → AreApart s.queries → 1024 ≤ length s.queries → (turn.served ≡ Own) × AreCrowded (s.site).port past
    crowded_own is apart many = (
      is,
      (
        numbers_of s.queries,
        subst (λ (n : ℕ). 1024 ≤ n) (sym (as_many s.queries)) many,
        all_distinct s.queries apart,
        λ k c. let (q, there, e) = number_of s.queries k c in (q.ask, subst (λ (n : ℕ). IsOpenAskOf (s.site).port n q.ask past) e (open_asks (s.site).port q.number q.ask (q.ask).path past (h.queries q there).asked)),
      ),
    )

    own_free : turn.served ≡ Own → (j : ℕ) → s.opened ≤ j → is_for j turn.served ≡ false
    own_free is j le = ap (is_for j) is

    own_apart : turn.served ≡ Own → (k : ℕ) (q : Open) → Contains s.queries q → q.number ≢ k → turn.served ≢ OpenQuery q.number
    own_apart is k q c other e = not_own q.number (sym is ∙ e)

    -- It is over in this step.
    over_now : (o : Outcome Plain) (stores : Stores) (new : State) → turn.served ≡ Own → Came Own who turn past → AreHeld (s.site).port (s.site).home (turn ∷ past) stores
        → IsExplainedSpec (s.site).port (s.site).home who o turn past → Ends s who s.opened o stores out new → Keeps new out
    over_now o stores new is came told good e = (
      ends_so (s.site).port (s.site).home past s h turn who s.opened o stores out new told e (own_apart is s.opened) (own_free is),
      ends_answered (s.site).home turn past (IsExplainedSpec (s.site).port (s.site).home) s new who s.opened o stores out e (inl came) wanted good,
    )

    at_once_now : (next : Next) (job : Job) (stores : Stores) (new : State) → turn.served ≡ Own → Came Own who turn past → (IsAsk next → ⊥) → Tells_of next job → Timely_of next job → AreHeld (s.site).port (s.site).home (turn ∷ past) stores
        → LooksUp next → Comes s who s.opened s.opened next job stores out new → Keeps new out
    unfolding Tells_of Timely_of
    at_once_now (AskUdp server n u) job stores new is came never tells timely told enough w = absurd (never tt)
    at_once_now (AskTcp server n u) job stores new is came never tells timely told enough w = absurd (never tt)
    at_once_now (Done chain last) job stores new is came never tells timely told enough e = over_now _ stores new is came told timely e
    at_once_now (Fail c) job stores new is came never tells timely told enough e = over_now _ stores new is came told (fails_own is c tells timely enough) e

    -- What is known in this step is so for the query's number.
    opened_work : turn.served ≡ OpenQuery s.opened → (server : Addr) (n : Name) (u : ℕ) (job : Job)
        → IsWaitingFor (s.site).port (s.site).home (turn ∷ past) s.opened KnownHere (type_number (who.query).kind) (who.query).name server n u job
        → IsWaitingFor (s.site).port (s.site).home (turn ∷ past) s.opened (KnownIn (s.site).port s.opened (turn ∷ past)) (type_number (who.query).kind) (who.query).name server n u job
    opened_work is server n u job w =
        work_on (s.site).port (s.site).home (turn ∷ past) (turn ∷ past) (inl refl) s.opened KnownHere (KnownIn (s.site).port s.opened (turn ∷ past)) (λ m v a lately. inl (is, lately)) (type_number (who.query).kind) (who.query).name server n u job w

    admitted_now : (next : Next) (job : Job) (stores : Stores) (new : State) → turn.served ≡ OpenQuery s.opened → Came (OpenQuery s.opened) who turn past → IsAsk next → Tells_of next job → Timely_of next job
        → AreHeld (s.site).port (s.site).home (turn ∷ past) stores → Comes s who s.opened (s.opened + 1) next job stores out new → Keeps new out
    unfolding Tells_of Timely_of
    admitted_now (AskUdp server n u) job stores new is came asks tells timely told w = (
      by_udp (s.site).port (s.site).home past s h turn refl who s.opened (s.opened + 1) is (inl came) wanted more less
          (s.clock + 10000) 0 s.clock clock ⊥ (λ e. absurd e) (inl (came, ap (λ (n : ℕ). n + 10000) clock)) (h.unasked s.opened (at_least s.opened)) server n u job stores out new goes counts told (opened_work is server n u job tells) timely w,
      waits_answered (s.site).home turn past (IsExplainedSpec (s.site).port (s.site).home) s new (s.site).port _ _ _ stores out w.waits,
    )
      where
        more : s.opened ≤ s.opened + 1
        more = omega arith

        less : s.opened < s.opened + 1
        less = omega arith
    admitted_now (AskTcp server n u) job stores new is came asks tells timely told w = (
      by_tcp (s.site).port (s.site).home past s h turn refl who s.opened (s.opened + 1) is (inl came) wanted more less
          (s.clock + 10000) 0 s.clock clock ⊥ (λ e. absurd e) (inl (came, ap (λ (n : ℕ). n + 10000) clock)) (h.unasked s.opened (at_least s.opened)) server n u job stores out new goes counts told (opened_work is server n u job tells.0) timely tells.1 w,
      waits_answered (s.site).home turn past (IsExplainedSpec (s.site).port (s.site).home) s new (s.site).port _ _ _ stores out w.waits,
    )
      where
        more : s.opened ≤ s.opened + 1
        more = omega arith

        less : s.opened < s.opened + 1
        less = omega arith
    admitted_now (Done chain last) job stores new is came asks tells timely told e = absurd asks
    admitted_now (Fail c) job stores new is came asks tells timely told e = absurd asks

    pub resolved_now : (new : State) → AreApart s.queries → ((served : Served) → turn.served ≡ served → Came served who turn past) → (e : Resolves s who turn.served out new) → LooksUp e.next → Keeps new out
    unfolding Tells_of Timely_of
    resolved_now new apart came e enough =
        let tells = start_tells (s.site).port (s.site).home (turn ∷ past) s.opened KnownHere (type_number (who.query).kind) (who.query).name (λ a n u. BringsTruncated (s.site).port s.opened a n u turn past) s.clock
        (lately_here (λ a n u. BringsTruncated (s.site).port s.opened a n u turn past)) s.clock e.job s.stores e.next e.job e.stores told_now.0 e.advances in
        let timely = start_timed (s.site).port (s.site).home turn past s.opened KnownHere (type_number (who.query).kind) s.clock clock (who.query).name (lately_here (λ a n u. Unit {0})) s.clock s.stores e.next e.job e.stores told_now.0 told_now.1 e.advances in
        by tells.0 timely.0 (tells.1, timely.1) e.opened
      where
        by : Tells_of e.next e.job → Timely_of e.next e.job → AreHeld (s.site).port (s.site).home (turn ∷ past) e.stores → IsOpened s who e.next e.job e.stores turn.served out new → Keeps new out
        by tells timely told (at_once is never c) = at_once_now e.next e.job e.stores new is (came Own is) never tells timely told enough c
        by tells timely told (crowded is asks many c) = over_now _ e.stores new is (came Own is) told (crowded_own is apart many) c
        by tells timely told (admitted is asks few c) = admitted_now e.next e.job e.stores new is (came (OpenQuery s.opened) is) asks tells timely told c
