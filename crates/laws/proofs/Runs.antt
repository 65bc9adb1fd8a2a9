-- Each step, and each run, keeps what stands of the state, and each reply has its cause.
use Rattle.std.proofs.Common.{◌≡◌, ℕ, ◌⊎◌, inl, inr, max, true, Option, Some, None, List, [], ◌∷◌, Contains, refl, sym, ap, ◌∙◌, subst}
use Rattle.lru.proofs.Splits.{Contains-nil}
use Rattle.dname.specs.Labels.{Name}
use Rattle.wire.specs.declared.via.Via.{Via}
use Rattle.front.specs.Queries.{IsRequest}
use Rattle.front.specs.declared.queries.Query.{Query}
use Rattle.front.specs.declared.queries.Request.{Request}
use Rattle.front.specs.declared.queries.Request.TheVariants as request
use Rattle.resolution.specs.Jobs.{Home, Start}
use Rattle.resolution.specs.Stops.{Stops}
use Rattle.resolution.proofs.Keeping.{stops_bring}
use Rattle.runs.specs.States.{Event, Client, Datagram, TcpReply, Tick, Action, Reply, Turn, Served, Plain, client_query, recursive, job_for, Open, AreApart, moment, Site, State, IsNew, moved}
use Rattle.runs.specs.States as states
use Rattle.runs.specs.Messages.{IsReply, IsRefusal}
use Rattle.runs.specs.Runs.{Run, Always, clock_of, asks_among, is_for}
use Rattle.runs.specs.Steps.{IsHandled, IsIgnored, ServesOpen, IsFollowed, IsTicked, IsStarved, IsTurn}
use Rattle.runs.proofs.Clocks.{clock_of_run}
use Rattle.retry.specs.Penalties.{AreAtMost}
use Rattle.referral.specs.Cuts.{Known}
use Rattle.cache.specs.Keys.{Key}
use Rattle.cache.specs.Cached.{Hit}
use Rattle.cache.specs.Failures.{FailedAsk}
use Rattle.laws.specs.Replies.{RepliesAre}
use Rattle.laws.specs.Caused.{IsExplained as IsExplainedSpec}
use Rattle.laws.proofs.Enters.{IsShown}
use Rattle.laws.proofs.Timed.{timed_later}
use Rattle.laws.proofs.Later.{told_later}
use Rattle.laws.proofs.Learnt.{start_stop_timed}
use Rattle.laws.proofs.States.{turn_of, IsExplained, start_stops}
use Rattle.laws.proofs.TimelyOpens.{alone, not_own, same_count, same_state}
use Rattle.laws.proofs.TimelyAnswered.{followed_answered, followed_gives, none_answered}
use Rattle.laws.specs.LookUps.{HasLookedUp}
use Rattle.laws.specs.Opens.{handled_call, either_call, ticked_call, turn_call}
use Rattle.laws.proofs.LookUps.{Spends, step_spends}
use Rattle.laws.proofs.Turns.{Keeps, hears_now, ignored_now, late_now, left_now, resolved_now, starved_now}

-- ---- a step

module _ (past : List Turn) (s : State) (h : IsExplained (s.site).port (s.site).home past s) (apart : AreApart s.queries)
    (shown : (q : Open) → Contains s.queries q → IsShown (s.site).port (s.site).home q.number past q.job) where
  abbrev IsNow : Event → Type 0
  IsNow event = s.clock ≡ max (clock_of past) (moment event)

  -- What stands where the query that is served fails since its look-ups are used up.
  abbrev LooksUp : Turn → Type 0
  LooksUp turn = HasLookedUp (s.site).port (s.site).home turn past

  handled_now : (now client : ℕ) (way : Via) (bytes : List ℕ) (served : Served) (out : List Action) (new : State) (asked : Request Plain) (clock : IsNow (Client now client way bytes)) → IsRequest bytes asked
      → (handled : IsHandled s client way asked served out new) → Spends s (LooksUp (turn_of (Client now client way bytes) served (Some out))) (handled_call s client way asked served out new handled)
      → Keeps past s h (turn_of (Client now client way bytes) served (Some out)) clock new out
  handled_now now client way bytes served out new request.Drop clock reads (is, none, same) enough = (
    same_state (s.site).port (s.site).home past s h (turn_of (Client now client way bytes) served (Some out)) new same (λ n e. not_own n (sym is ∙ e)) (λ j. ap (is_for j) is),
    none_answered (s.site).home (turn_of (Client now client way bytes) served (Some out)) past (IsExplainedSpec (s.site).port (s.site).home) out none,
  )
  handled_now now client way bytes served out new (request.Refuse refusal start echo) clock reads (is, (action, reply, only), same) enough = (
    same_state (s.site).port (s.site).home past s h (turn_of (Client now client way bytes) served (Some out)) new same (λ n e. not_own n (sym is ∙ e)) (λ j. ap (is_for j) is),
    λ to by text c there. inl (record {
      moment = now;
      client = client;
      way = way;
      bytes = bytes;
      refusal = refusal;
      start = start;
      echo = echo;
      event = refl;
      reads = reads;
      reply = subst (IsRefusal client way refusal start echo) (alone action (Reply to by text c) (subst (λ (l : List Action). Contains l (Reply to by text c)) only there)) reply;
    }),
  )
  handled_now now client way bytes served out new (request.Query q) clock reads (inl (no_rd, e)) enough = (
    same_state (s.site).port (s.site).home past s h (turn_of (Client now client way bytes) served (Some out)) new e.state (λ n is. not_own n (sym e.served_is ∙ is)) (λ j. ap (is_for j) e.served_is),
    λ to by text c there. inr (record {
      who = client_query client way q;
      served = inl (record { is_served = e.served_is; moment = now; bytes = bytes; event = refl; reads = reads });
      result = e.result;
      reply = subst (IsReply (client_query client way q) e.result) (alone e.action (Reply to by text c) (subst (λ (l : List Action). Contains l (Reply to by text c)) e.out_is there)) e.reply;
      is = inl (no_rd, e.answers);
    }),
  )
  handled_now now client way bytes served out new (request.Query q) clock reads (inr (wanted, e)) enough =
      resolved_now past s h (turn_of (Client now client way bytes) served (Some out)) clock (client_query client way q) wanted out (λ a c. c) refl new apart
      (λ as_served is. record { is_served = is; moment = now; bytes = bytes; event = refl; reads = reads }) e enough

  followed_count : (first out : List Action) (new : State) → IsFollowed first out new → asks_among out ≡ asks_among first
  followed_count first out new (inl (e, due)) = ap asks_among e ∙ same_count first
  followed_count first out new (inr (e, none)) = ap asks_among e

  ticked_now : (now : ℕ) (served : Served) (out : List Action) (new : State) (clock : IsNow (Tick now)) → (ticked : IsTicked s now served out new)
      → Spends s (LooksUp (turn_of (Tick now) served (Some out))) (ticked_call s now served out new ticked) → Keeps past s h (turn_of (Tick now) served (Some out)) clock new out
  ticked_now now served out new clock (inl e) enough = ignored_now past s h (turn_of (Tick now) served (Some out)) clock out new e
  ticked_now now served out new clock (inr (first, inl late, followed)) enough =
      let k = late_now past s h (turn_of (Tick now) served (Some out)) clock first new late in
      (k.0, followed_answered (s.site).home (turn_of (Tick now) served (Some out)) past (IsExplainedSpec (s.site).port (s.site).home) first out new followed k.1)
  ticked_now now served out new clock (inr (first, inr hears, followed)) enough =
      let k = hears_now past s h (turn_of (Tick now) served (Some out)) clock shown first new (λ a c. followed_gives first out new followed a c) (followed_count first out new followed) hears enough in
      (k.0, followed_answered (s.site).home (turn_of (Tick now) served (Some out)) past (IsExplainedSpec (s.site).port (s.site).home) first out new followed k.1)

  heard_now : (event : Event) (served : Served) (out : List Action) (new : State) (clock : IsNow event) → (heard : IsIgnored s event served out new ⊎ ServesOpen s event served out new)
      → Spends s (LooksUp (turn_of event served (Some out))) (either_call s event served out new heard) → Keeps past s h (turn_of event served (Some out)) clock new out
  heard_now event served out new clock (inl e) enough = ignored_now past s h (turn_of event served (Some out)) clock out new e
  heard_now event served out new clock (inr e) enough = hears_now past s h (turn_of event served (Some out)) clock shown out new (λ a c. c) refl e enough

  -- Of a step where memory was wanting nothing goes out.
  abbrev pub Explains : Event → Served → Option (List Action) → State → Type 0
  Explains event served out new =
      IsExplained (s.site).port (s.site).home (turn_of event served out ∷ past) new × RepliesAre (s.site).home (IsExplainedSpec (s.site).port (s.site).home) (turn_of event served out) past

  starved_turn : (event : Event) (served : Served) (new : State) → IsNow event → IsStarved s event served new → Explains event served None new
  starved_turn (Client now client way bytes) served new clock (is, e) = (
    left_now past s h (turn_of (Client now client way bytes) served None) clock s.opened (λ stores. (q : Query Plain) × IsRequest bytes (request.Query q) × (recursive q ≡ true) × Stops (s.site).home s.clock Start (job_for s.clock q) s.stores stores) new e
        (λ stores (q, reads, rd, stops). (
          start_stops (s.site).port (s.site).home (turn_of (Client now client way bytes) served None ∷ past) 0 (λ n t a. Unit {0}) 0 [] (λ a n u. Unit {0}) s.clock (job_for s.clock q) s.stores stores
              (told_later (s.site).port (s.site).home (turn_of (Client now client way bytes) served None) past s.stores h.told.0) (stops_bring (s.site).home s.clock Start (job_for s.clock q) s.stores stores stops),
          start_stop_timed (s.site).port (s.site).home (turn_of (Client now client way bytes) served None ∷ past) s.clock (job_for s.clock q) s.stores stores
              (timed_later (s.site).port (s.site).home (turn_of (Client now client way bytes) served None) past s.stores h.told.1) (stops_bring (s.site).home s.clock Start (job_for s.clock q) s.stores stores stops),
        ))
        (λ q c other e. not_own q.number (sym is ∙ e)) (λ j le. ap (is_for j) is),
    λ to by text c there. absurd there,
  )
  starved_turn (Datagram now sock from bytes) served new clock (q, there, is, meant, e) = (starved_now past s h (turn_of (Datagram now sock from bytes) served None) clock q new there is e, λ to by text c there. absurd there)
  starved_turn (TcpReply now number bytes) served new clock (q, there, is, meant, e) = (starved_now past s h (turn_of (TcpReply now number bytes) served None) clock q new there is e, λ to by text c there. absurd there)
  starved_turn (states.TcpFailed now number) served new clock (q, there, is, meant, e) = (starved_now past s h (turn_of (states.TcpFailed now number) served None) clock q new there is e, λ to by text c there. absurd there)
  starved_turn (Tick now) served new clock (q, there, is, meant, e) = (starved_now past s h (turn_of (Tick now) served None) clock q new there is e, λ to by text c there. absurd there)

  turn_explained : (event : Event) (served : Served) (out : Option (List Action)) (new : State) → IsNow event → (is : IsTurn s event served out new) → Spends s (LooksUp (turn_of event served out)) (turn_call s event served out new is)
      → Explains event served out new
  turn_explained event served None new clock e enough = starved_turn event served new clock e
  turn_explained (Client now client way bytes) served (Some out) new clock (asked, reads, e) enough = handled_now now client way bytes served out new asked clock reads e enough
  turn_explained (Tick now) served (Some out) new clock e enough = ticked_now now served out new clock e enough
  turn_explained (Datagram now sock from bytes) served (Some out) new clock e enough = heard_now (Datagram now sock from bytes) served out new clock e enough
  turn_explained (TcpReply now number bytes) served (Some out) new clock e enough = heard_now (TcpReply now number bytes) served out new clock e enough
  turn_explained (states.TcpFailed now number) served (Some out) new clock e enough = heard_now (states.TcpFailed now number) served out new clock e enough

-- ---- a run

starts : (site : Site) (s : State) → IsNew site s → IsExplained site.port site.home [] s
starts site s new = record {
  told = (
    record {
      links = λ k e c. absurd (Contains-nil (k, e) (subst (λ (l : List (Key × Hit)). Contains l (k, e)) new.cache c));
      cuts = λ n k c. absurd (Contains-nil (n, k) (subst (λ (l : List (Name × Known)). Contains l (n, k)) new.delegations c));
      low = subst (AreAtMost 8) (sym new.penalties) tt;
      failures = λ f since c. absurd (Contains-nil (f, since) (subst (λ (l : List (FailedAsk × ℕ)). Contains l (f, since)) new.failures c));
    },
    λ k e c. absurd (Contains-nil (k, e) (subst (λ (l : List (Key × Hit)). Contains l (k, e)) new.cache c)),
  );
  queries = λ q c. absurd (Contains-nil q (subst (λ (l : List Open). Contains l q) new.queries c));
  below = λ q c. absurd (Contains-nil q (subst (λ (l : List Open). Contains l q) new.queries c));
  unasked = λ k le. refl;
}

moves : (port : ℕ) (home : Home) (past : List Turn) (s : State) (event : Event) → IsExplained port home past s → IsExplained port home past (moved s event)
moves port home past s event h = record { told = h.told; queries = h.queries; below = h.below; unasked = h.unasked }

stays_apart : (site : Site) (run : List Turn) (s : State) → Run site run s → AreApart s.queries
stays_apart site [] s new = subst AreApart (sym new.queries) tt
stays_apart site (t ∷ past) s (old, before, step) = step.apart

pub run_explained : (site : Site) (run : List Turn) (s : State) → Run site run s → IsExplained site.port site.home run s × Always (RepliesAre site.home (IsExplainedSpec site.port site.home)) run
run_explained site [] s new = (starts site s new, tt)
run_explained site (t ∷ past) s (old, before, step) =
    let (h, all) = run_explained site past old before in
    let (clock, here) = clock_of_run site past old before in
    let keeps = turn_explained past (moved old t.event) (moves (old.site).port (old.site).home past old t.event (subst (λ (x : Site). IsExplained x.port x.home past old) (sym here) h)) (stays_apart site past old before)
    (λ q there sought others searches. record {
      site = site;
      port_is = sym (ap (λ (x : Site). x.port) here);
      home_is = sym (ap (λ (x : Site). x.home) here);
      state = old;
      leads = before;
      query = q;
      open_now = there;
      number = refl;
      sought = sought;
      others = others;
      searches = searches;
      zone = refl;
    }) t.event t.served t.out s (ap (λ (n : ℕ). max n (moment t.event)) clock) step.turn
    (step_spends (old.site).port (old.site).home site past old t s (sym (ap (λ (x : Site). x.port) here)) (sym (ap (λ (x : Site). x.home) here)) before step) in (
      subst (λ (x : Site). IsExplained x.port x.home (t ∷ past) s) here keeps.0,
      (subst (λ (x : Site). RepliesAre x.home (IsExplainedSpec x.port x.home) t past) here keeps.1, all),
    )
