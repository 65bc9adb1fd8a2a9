-- A step of a sound state leaves a sound one.
use Rattle.std.proofs.Common.{◌≡◌, ◌∙◌, ℕ, ◌+◌, ◌<◌, ◌≤◌, min, max, ◌⊎◌, inl, inr, Option, Some, None, List, length, Contains, refl, sym, subst, ap, arith}
use Rattle.wire.specs.declared.via.Via.{Via}
use Rattle.front.specs.declared.queries.Request.{Request}
use Rattle.front.specs.declared.queries.Request.TheVariants as request
use Rattle.front.specs.declared.queries.Outcome.{Outcome}
use Rattle.resolution.specs.Jobs.{Stores, Job, wait_of_job, Input, Next, AskUdp, AskTcp, Done, Fail}
use Rattle.runs.specs.States.{Event, Client, Datagram, TcpReply, TcpFailed, Tick, Action, Served, Plain, ClientQuery, client_query, ByUdp, ByTcp, Open, open_query, Site, State, AreApart, latest, told_moment, moved}
use Rattle.runs.specs.Steps.{AreOthers, AreWith, Ends, Waits, Comes, Serves, IsAsk, most_open, IsOpened, at_once, crowded, admitted, IsHandled, IsIgnored, ServesOpen, IsTicked, IsLeft, IsTurn}
use Rattle.laws.specs.Searches.{AreSought}
use Rattle.engine.specs.ResolverStates.{IsSound}
use Rattle.engine.proofs.Counts.{HasNumber, others_no_more, with_no_more, with_one_more}

no_later : (now told last : ℕ) → now ≤ last → max now (min told last) ≤ last
no_later now told last h = omega arith

-- So is the state once the clock is at an event's moment.
pub moved_is_sound : (s : State) (e : Event) → IsSound s → IsSound (moved s e)
moved_is_sound s e sound = record {
  sockets = sound.sockets;
  clock = no_later s.clock (told_moment e) latest sound.clock;
  few = sound.few;
  opened = sound.opened;
  asked = sound.asked;
  sought = sound.sought;
}

module _ (s : State) (sound : IsSound s) (new : State) (apart : AreApart new.queries) (sought : AreSought new.queries) where
  same_is_sound : new ≡ s → IsSound new
  same_is_sound same = subst (λ (z : State). IsSound z) (sym same) sound

  -- The site and the clock stay.
  still_sound : new.site ≡ s.site → new.clock ≡ s.clock → length new.queries ≤ most_open → ((q : Open) → Contains new.queries q → q.number < new.opened)
      → ((q : Open) → Contains new.queries q → (number : ℕ) → (q.ask).path ≡ ByTcp number → number < new.tcp_asks) → IsSound new
  still_sound site clock few opened asked = record {
    sockets = subst (λ (here : Site). 0 < here.sockets) (sym site) sound.sockets;
    clock = subst (λ (now : ℕ). now ≤ latest) (sym clock) sound.clock;
    few = few;
    opened = opened;
    asked = asked;
    sought = sought;
  }

  -- A query is over, or gone.
  without_is_sound : (k : ℕ) → AreOthers k s.queries new.queries → new.site ≡ s.site → new.clock ≡ s.clock → new.opened ≡ s.opened → new.tcp_asks ≡ s.tcp_asks → IsSound new
  without_is_sound k others site clock opened asked =
      let few : length s.queries ≤ most_open = sound.few in
      let less : length new.queries ≤ length s.queries = others_no_more k s.queries new.queries others apart in
      still_sound site clock (omega arith) (λ q there. subst (λ (n : ℕ). q.number < n) (sym opened) (sound.opened q (others.only q there).0))
      (λ q there number path. subst (λ (n : ℕ). number < n) (sym asked) (sound.asked q (others.only q there).0 number path))

  ends_is_sound : (who : ClientQuery) (k : ℕ) (o : Outcome Plain) (stores : Stores) (out : List Action) → Ends s who k o stores out new → IsSound new
  ends_is_sound who k o stores out h =
      without_is_sound k h.queries (ap (λ (z : State). z.site) h.state) (ap (λ (z : State). z.clock) h.state) (ap (λ (z : State). z.opened) h.state) (ap (λ (z : State). z.tcp_asks) h.state)

  left_is_sound : (k : ℕ) (IsOnTheWay : Stores → Type 0) → IsLeft s k IsOnTheWay new → IsSound new
  left_is_sound k IsOnTheWay h =
      without_is_sound k h.queries (ap (λ (z : State). z.site) h.state) (ap (λ (z : State). z.clock) h.state) (ap (λ (z : State). z.opened) h.state) (ap (λ (z : State). z.tcp_asks) h.state)

  -- A query waits: there was one of its number, or room for one more.
  waits_is_few : (after : Open) → AreWith after s.queries new.queries → HasNumber s.queries after.number ⊎ (length s.queries < most_open) → length new.queries ≤ most_open
  waits_is_few after h (inl was) =
      let few : length s.queries ≤ most_open = sound.few in
      let less : length new.queries ≤ length s.queries = with_no_more after s.queries new.queries h apart was in
      omega arith
  waits_is_few after h (inr room) =
      let less : length new.queries ≤ length s.queries + 1 = with_one_more after s.queries new.queries h apart in
      omega arith

  waits_is_sound : (after : Open) (opened asked : ℕ) (stores : Stores) (out : List Action) → HasNumber s.queries after.number ⊎ (length s.queries < most_open) → after.number < opened → s.opened ≤ opened
      → ((number : ℕ) → (after.ask).path ≡ ByTcp number → number < asked) → s.tcp_asks ≤ asked → Waits s after opened asked stores out new → IsSound new
  waits_is_sound after opened asked stores out room below grows over more h =
      still_sound (ap (λ (z : State). z.site) h.state) (ap (λ (z : State). z.clock) h.state) (waits_is_few after h.queries room)
      (λ q there. subst (λ (n : ℕ). q.number < n) (sym (ap (λ (z : State). z.opened) h.state)) (numbered q there))
      (λ q there number path. subst (λ (n : ℕ). number < n) (sym (ap (λ (z : State). z.tcp_asks) h.state)) (given q there number path))
    where
      numbered : (q : Open) → Contains new.queries q → q.number < opened
      numbered q there = elim ((h.queries).only q there) [
        | inl e ↦ subst (λ (p : Open). p.number < opened) (sym e) below
        | inr was ↦ let lower : q.number < s.opened = sound.opened q was.0 in omega arith
      ]

      given : (q : Open) → Contains new.queries q → (number : ℕ) → (q.ask).path ≡ ByTcp number → number < asked
      given q there number path = elim ((h.queries).only q there) [
        | inl e ↦ over number (sym (ap (λ (p : Open). (p.ask).path) e) ∙ path)
        | inr was ↦ let lower : number < s.tcp_asks = sound.asked q was.0 number path in omega arith
      ]

  comes_is_sound : (who : ClientQuery) (k opened : ℕ) (next : Next) (job : Job) (stores : Stores) (out : List Action) → HasNumber s.queries k ⊎ (length s.queries < most_open) → k < opened → s.opened ≤ opened
      → Comes s who k opened next job stores out new → IsSound new
  comes_is_sound who k opened (AskUdp server n t) job stores out room below grows h = waits_is_sound (open_query k who job h.ask (s.clock + wait_of_job job)) opened s.tcp_asks stores out room below grows
      (λ number path. let clash : ByUdp (h.goes).sock ≡ ByTcp number = sym (h.goes).path ∙ path in cc) (omega arith) h.waits
  comes_is_sound who k opened (AskTcp server n t) job stores out room below grows h = waits_is_sound (open_query k who job h.ask (s.clock + 3000)) opened (s.tcp_asks + 1) stores out room below grows
      (λ number path. let both : ByTcp s.tcp_asks ≡ ByTcp number = sym (h.goes).path ∙ path in let same : s.tcp_asks ≡ number = cc in omega arith) (omega arith) h.waits
  comes_is_sound who k opened (Done chain last) job stores out room below grows h = ends_is_sound who k _ stores out h
  comes_is_sound who k opened (Fail c) job stores out room below grows h = ends_is_sound who k _ stores out h

  -- A query is over at once.
  over_is_sound : (who : ClientQuery) (k opened : ℕ) (next : Next) (job : Job) (stores : Stores) (out : List Action) → (IsAsk next → ⊥) → Comes s who k opened next job stores out new → IsSound new
  over_is_sound who k opened (AskUdp server n t) job stores out over h = absurd (over tt)
  over_is_sound who k opened (AskTcp server n t) job stores out over h = absurd (over tt)
  over_is_sound who k opened (Done chain last) job stores out over h = ends_is_sound who k _ stores out h
  over_is_sound who k opened (Fail c) job stores out over h = ends_is_sound who k _ stores out h

  opened_is_sound : (who : ClientQuery) (next : Next) (job : Job) (stores : Stores) (served : Served) (out : List Action) → IsOpened s who next job stores served out new → IsSound new
  opened_is_sound who next job stores served out (at_once is over comes) = over_is_sound who s.opened s.opened next job stores out over comes
  opened_is_sound who next job stores served out (crowded is asks full ends) = ends_is_sound who s.opened _ stores out ends
  opened_is_sound who next job stores served out (admitted is asks room comes) = comes_is_sound who s.opened (s.opened + 1) next job stores out (inr room) (omega arith) (omega arith) comes

  handled_is_sound : (client : ℕ) (way : Via) (asked : Request Plain) (served : Served) (out : List Action) → IsHandled s client way asked served out new → IsSound new
  handled_is_sound client way request.Drop served out h = same_is_sound h.2
  handled_is_sound client way (request.Refuse refusal start echo) served out h = same_is_sound h.2
  handled_is_sound client way (request.Query q) served out (inl h) = same_is_sound (h.1).state
  handled_is_sound client way (request.Query q) served out (inr h) = opened_is_sound (client_query client way q) (h.1).next (h.1).job (h.1).stores served out (h.1).opened

  serves_is_sound : (q : Open) (input : Input) (out : List Action) → Serves s q input out new → IsSound new
  serves_is_sound q input out h =
      comes_is_sound q.client_query q.number s.opened h.next h.job h.stores out (inl (q, h.stands, refl)) (sound.opened q h.stands) (omega arith) h.comes

  either_is_sound : (event : Event) (served : Served) (out : List Action) → IsIgnored s event served out new ⊎ ServesOpen s event served out new → IsSound new
  either_is_sound event served out (inl h) = same_is_sound h.state
  either_is_sound event served out (inr h) = serves_is_sound h.query h.input out h.serves

  ticked_is_sound : (now : ℕ) (served : Served) (out : List Action) → IsTicked s now served out new → IsSound new
  ticked_is_sound now served out (inl h) = same_is_sound h.state
  ticked_is_sound now served out (inr (first, inl h, followed)) = ends_is_sound (h.query).client_query (h.query).number _ s.stores first h.ends
  ticked_is_sound now served out (inr (first, inr h, followed)) = serves_is_sound h.query h.input first h.serves

  pub turn_is_sound : (event : Event) (served : Served) (out : Option (List Action)) → IsTurn s event served out new → IsSound new
  turn_is_sound (Client now client way bytes) served None h = left_is_sound s.opened _ h.1
  turn_is_sound (Datagram now sock from bytes) served None h = left_is_sound (h.0).number _ h.4
  turn_is_sound (TcpReply now number bytes) served None h = left_is_sound (h.0).number _ h.4
  turn_is_sound (TcpFailed now number) served None h = left_is_sound (h.0).number _ h.4
  turn_is_sound (Tick now) served None h = left_is_sound (h.0).number _ h.4
  turn_is_sound (Client now client way bytes) served (Some out) h = handled_is_sound client way h.0 served out h.2
  turn_is_sound (Datagram now sock from bytes) served (Some out) h = either_is_sound _ served out h
  turn_is_sound (TcpReply now number bytes) served (Some out) h = either_is_sound _ served out h
  turn_is_sound (TcpFailed now number) served (Some out) h = either_is_sound _ served out h
  turn_is_sound (Tick now) served (Some out) h = ticked_is_sound now served out h
