-- Whom a step serves and whom it asks, and what an open query shows of the run.
use Rattle.std.proofs.Common.{◌≡◌, ℕ, ◌+◌, ◌⊎◌, inl, inr, Bool, true, false, cond, nat_le, Option, Some, None, List, [], ◌∷◌, length, Contains, refl, sym, ap, ◌∙◌, subst}
use Rattle.lru.proofs.Splits.{Contains-nil}
use Rattle.limits.specs.Limits.{tcp_wait}
use Rattle.rdata.specs.Types.{type_number}
use Rattle.wire.specs.declared.via.Via.{Via}
use Rattle.front.specs.Queries.{IsRequest}
use Rattle.front.proofs.Single.{asked_once}
use Rattle.front.specs.declared.queries.Request.{Request}
use Rattle.front.specs.declared.queries.Request.TheVariants as request
use Rattle.retry.specs.Plans.{Plan, wait_of}
use Rattle.cache.specs.Failures.{failed_ask, is_failed}
use Rattle.resolution.specs.Jobs.{Search, Job, wait_in, wait_of_job, Next, AskUdp, AskTcp, Done, Fail}
use Rattle.runs.specs.States.{Event, Client, Datagram, TcpReply, Tick, Action, Served, OpenQuery, Turn, Plain, ClientQuery, client_query, Path, Open, Site, State, moved}
use Rattle.runs.specs.States as event
use Rattle.runs.specs.Messages.{Brings}
use Rattle.runs.specs.Steps.{IsOpened, at_once, crowded, admitted, IsHandled, IsIgnored, ServesOpen, IsTicked, IsTurn, Step}
use Rattle.runs.specs.Runs.{Run, Came, clock_of}
use Rattle.runs.proofs.Clocks.{clock_of_run}
use Rattle.laws.specs.Spent.{IsUdpPath}
use Rattle.laws.specs.Opens.{Call, step_call}
use Rattle.laws.specs.Meant.{IsForOpenQuery, ServedIsMeant, IsOverAtOnce, AtHandIsReplied, NobodyFailingIsAsked, IsWait, IsAwaited, OpenIsOfRun}
use Rattle.laws.proofs.Calls.{asked_did_not_fail}
use Rattle.laws.proofs.Chains.{led}
use Rattle.laws.proofs.LookUps.{run_counted}
use Rattle.laws.proofs.OrderlyLists.{same_number}
use Rattle.laws.proofs.Orders.{IsStep, one_step, run_orderly, ask_given}
use Rattle.laws.proofs.Runs.{run_explained}
use Rattle.laws.proofs.Served.{AsksAs, IsCallOf, step_calls}
use Rattle.laws.proofs.Short.{run_short, four_at_most}
use Rattle.laws.proofs.States.{turn_of, IsOpenSound}
use Rattle.laws.proofs.Times.{clock_then}
use Rattle.laws.proofs.TimelyOpens.{not_own, not_nobody}

-- ---- whom a step serves

module _ (site : Site) (past : List Turn) (s : State) (here : (s.site).port ≡ site.port) (k : ℕ) where
  abbrev Means : Event → Served → Option (List Action) → Type 0
  Means e served out =
      ((who : ClientQuery) × Came (OpenQuery k) who (turn_of e served out) past) ⊎ ((q : Open) × Contains s.queries q × (q.number ≡ k) × IsForOpenQuery site s (turn_of e served out) q)

  handled_means : (now client : ℕ) (way : Via) (bytes : List ℕ) (served : Served) (out : List Action) (new : State) (asked : Request Plain) → IsRequest bytes asked
      → IsHandled s client way asked served out new → served ≡ OpenQuery k → Means (Client now client way bytes) served (Some out)
  handled_means now client way bytes served out new request.Drop reads (is, none, same) e = absurd (not_own k (sym is ∙ e))
  handled_means now client way bytes served out new (request.Refuse refusal start echo) reads (is, refuses, same) e = absurd (not_own k (sym is ∙ e))
  handled_means now client way bytes served out new (request.Query q) reads (inl (rd, h)) e = absurd (not_own k (sym h.served_is ∙ e))
  handled_means now client way bytes served out new (request.Query q) reads (inr (rd, h)) e = by h.opened
    where
      by : IsOpened s (client_query client way q) h.next h.job h.stores served out new → Means (Client now client way bytes) served (Some out)
      by (at_once is never comes) = absurd (not_own k (sym is ∙ e))
      by (crowded is asks many ends) = absurd (not_own k (sym is ∙ e))
      by (admitted is asks few comes) = inl (client_query client way q, record { is_served = e; moment = now; bytes = bytes; event = refl; reads = reads })

  serves_means : (e : Event) (served : Served) (first out : List Action) (new : State) → ServesOpen s e served first new → served ≡ OpenQuery k → Means e served (Some out)
  serves_means (Client now client way bytes) served first out new h is = absurd h.brings
  serves_means (Datagram now sock from bytes) served first out new h is =
      let (m, brings, same) = h.brings in
      inr (h.query, (h.serves).stands, same_number (sym h.served_is ∙ is), inl (m, subst (λ (p : ℕ). Brings p (h.query).ask (Datagram now sock from bytes) m) here brings))
  serves_means (TcpReply now number bytes) served first out new h is = elim h.brings [
    | inl b ↦ inr (h.query, (h.serves).stands, same_number (sym h.served_is ∙ is), inl (b.0, subst (λ (p : ℕ). Brings p (h.query).ask (TcpReply now number bytes) b.0) here b.1))
    | inr b ↦ inr (h.query, (h.serves).stands, same_number (sym h.served_is ∙ is), inr (inl (number, b.0, refl)))
  ]
  serves_means (event.TcpFailed now number) served first out new h is = inr (h.query, (h.serves).stands, same_number (sym h.served_is ∙ is), inr (inl (number, (h.brings).0, refl)))
  serves_means (Tick now) served first out new h is = inr (h.query, (h.serves).stands, same_number (sym h.served_is ∙ is), inr (inr (inl (now, refl, ((h.brings).0).due))))

  either_means : (e : Event) (served : Served) (out : List Action) (new : State) → IsIgnored s e served out new ⊎ ServesOpen s e served out new → served ≡ OpenQuery k → Means e served (Some out)
  either_means e served out new (inl h) is = absurd (not_nobody k (sym h.served_is ∙ is))
  either_means e served out new (inr h) is = serves_means e served out out new h is

  ticked_means : (now : ℕ) (served : Served) (out : List Action) (new : State) → IsTicked s now served out new → served ≡ OpenQuery k → Means (Tick now) served (Some out)
  ticked_means now served out new (inl h) is = absurd (not_nobody k (sym h.served_is ∙ is))
  ticked_means now served out new (inr (first, inl h, followed)) is = inr (h.query, (h.due).stands, same_number (sym h.served_is ∙ is), inr (inr (inl (now, refl, (h.due).due))))
  ticked_means now served out new (inr (first, inr h, followed)) is = serves_means (Tick now) served first out new h is

  turn_means : (e : Event) (served : Served) (out : Option (List Action)) (new : State) → IsTurn s e served out new → served ≡ OpenQuery k → Means e served out
  turn_means (Client now client way bytes) served None new (is, left) e = absurd (not_own k (sym is ∙ e))
  turn_means (Datagram now sock from bytes) served None new (q, there, is, meant, left) e = inr (q, there, same_number (sym is ∙ e), inr (inr (inr (refl, meant))))
  turn_means (TcpReply now number bytes) served None new (q, there, is, meant, left) e = inr (q, there, same_number (sym is ∙ e), inr (inr (inr (refl, meant))))
  turn_means (event.TcpFailed now number) served None new (q, there, is, meant, left) e = inr (q, there, same_number (sym is ∙ e), inr (inr (inr (refl, meant))))
  turn_means (Tick now) served None new (q, there, is, meant, left) e = inr (q, there, same_number (sym is ∙ e), inr (inr (inr (refl, meant))))
  turn_means (Client now client way bytes) served (Some out) new (asked, reads, h) e = handled_means now client way bytes served out new asked reads h e
  turn_means (Datagram now sock from bytes) served (Some out) new h e = either_means (Datagram now sock from bytes) served out new h e
  turn_means (TcpReply now number bytes) served (Some out) new h e = either_means (TcpReply now number bytes) served out new h e
  turn_means (event.TcpFailed now number) served (Some out) new h e = either_means (event.TcpFailed now number) served out new h e
  turn_means (Tick now) served (Some out) new h e = ticked_means now served out new h e

pub served_is_meant : ServedIsMeant
served_is_meant site past old t new legal step k is =
    turn_means site past (moved old t.event) (ap (λ (x : Site). x.port) (clock_of_run site past old legal).1) k t.event t.served t.out new step.turn is

-- ---- what is over at once

over_at_once : (s : State) (client : ℕ) (way : Via) (asked : Request Plain) (served : Served) (out : List Action) (new : State) → IsHandled s client way asked served out new → IsOverAtOnce client way asked served out
over_at_once s client way request.Drop served out new (is, none, same) = (is, none)
over_at_once s client way (request.Refuse refusal start echo) served out new (is, refuses, same) = (is, refuses)
over_at_once s client way (request.Query q) served out new (inl (rd, h)) = λ clear. (h.served_is, (h.result, h.action, h.reply, h.out_is))
over_at_once s client way (request.Query q) served out new (inr (rd, h)) = λ clear. absurd (let both = sym rd ∙ clear in cc)

at_hand_comes : (old : State) (now client : ℕ) (way : Via) (bytes : List ℕ) (served : Served) (out : List Action) (new : State) (asked : Request Plain)
    → Step old (Client now client way bytes) served (Some out) new → IsRequest bytes asked → IsOverAtOnce client way asked served out
at_hand_comes old now client way bytes served out new asked step reads =
    let (other, read, h) = step.turn in
    subst (λ (a : Request Plain). IsOverAtOnce client way a served out) (asked_once bytes other asked read reads) (over_at_once (moved old (Client now client way bytes)) client way other served out new h)

pub at_hand_is_replied : AtHandIsReplied
at_hand_is_replied site past old t new legal step now client way bytes out asked comes gives reads =
    at_hand_comes old now client way bytes t.served out new asked
    (subst (λ (o : Option (List Action)). Step old (Client now client way bytes) t.served o new) gives (subst (λ (e : Event). Step old e t.served t.out new) comes step)) reads

-- ---- whom a step asks

pub nobody_failing_is_asked : NobodyFailingIsAsked
nobody_failing_is_asked site past old t new legal step q there is udp = by (step_call old t new step) (step_calls old t new step)
  where
    s : State
    s = moved old t.event

    asked : (call : Call s) (next : Next) → call.next ≡ next → AsksAs s.clock call.new next q → new.stores ≡ call.after
        → is_failed s.clock (failed_ask (q.ask).name (q.ask).kind (q.ask).server) (new.stores).failures ≡ false
    asked call (AskUdp server n u) e (for, path, due) stores =
        let free = asked_did_not_fail (s.site).home s.clock call.input call.old s.stores call.next call.new call.after server n u call.advances e in
        (λ i. is_failed s.clock (failed_ask (for.name i) (for.kind i) (for.server i)) (stores i).failures) ∙ free
    asked call (AskTcp server n u) e (for, (number, path), due) stores = absurd (subst IsUdpPath path udp)
    asked call (Done chain last) e h stores = absurd h
    asked call (Fail c) e h stores = absurd h

    by : (o : Option (Call s)) → IsCallOf s t.served new o → is_failed s.clock (failed_ask (q.ask).name (q.ask).kind (q.ask).server) (new.stores).failures ≡ false
    by None h = absurd (h q there is)
    by (Some call) h = let after = h.1 q there is in asked call call.next refl after.asks after.stores_are

-- ---- what an open query shows

abbrev wait_by : Bool → ℕ
wait_by b = cond b 1000 2000

wait_is : (p : Plan) → (wait_of p ≡ 1000) ⊎ (wait_of p ≡ 2000)
wait_is p = by (nat_le p.given (length p.order))
  where
    by : (b : Bool) → (wait_by b ≡ 1000) ⊎ (wait_by b ≡ 2000)
    by true = inl refl
    by false = inr refl

waits_in : (ss : List Search) → (wait_in ss ≡ 1000) ⊎ (wait_in ss ≡ 2000)
waits_in [] = inl refl
waits_in (s ∷ rest) = wait_is (s.frame).plan

abbrev AreAwaited : ℕ → List Turn → State → Type 0
AreAwaited port run s = (q : Open) → Contains s.queries q → IsAwaited port q run

abbrev WaitsUntil : ℕ → Open → Type 0
WaitsUntil now q = (wait : ℕ) × IsWait (q.ask).path wait × (q.due ≡ now + wait)

waits_until : (s : State) (now : ℕ) → s.clock ≡ now → (q : Open) (job : Job) (next : Next) → AsksAs s.clock job next q → WaitsUntil now q
waits_until s now clock q job (AskUdp server n u) (for, (sock, path), due) =
    (wait_of_job job, subst (λ (p : Path). IsWait p (wait_of_job job)) (sym path) (waits_in job.searches), due ∙ ap (λ (m : ℕ). m + wait_of_job job) clock)
waits_until s now clock q job (AskTcp server n u) (for, (number, path), due) =
    (tcp_wait, subst (λ (p : Path). IsWait p tcp_wait) (sym path) refl, due ∙ ap (λ (m : ℕ). m + tcp_wait) clock)
waits_until s now clock q job (Done chain last) h = absurd h
waits_until s now clock q job (Fail c) h = absurd h

run_awaited : (site : Site) (run : List Turn) (s : State) → Run site run s → AreAwaited site.port run s
run_awaited site [] s new = λ q c. absurd (Contains-nil q (subst (λ (l : List Open). Contains l q) new.queries c))
run_awaited site (t ∷ past) s (old, legal, step) = on (run_awaited site past old legal)
  where
    is : IsStep site.port t old s
    is = one_step site past t old s legal step (run_orderly site past old legal).below

    by : (q : Open) → Contains s.queries q → t.served ≡ OpenQuery q.number → (o : Option (Call (moved old t.event))) → IsCallOf (moved old t.event) t.served s o → WaitsUntil (clock_of (t ∷ past)) q
    by q c e None h = absurd (h q c e)
    by q c e (Some call) h = waits_until (moved old t.event) (clock_of (t ∷ past)) (clock_then site past t old legal) q call.new call.next (h.1 q c e).asks

    on : AreAwaited site.port past old → AreAwaited site.port (t ∷ past) s
    on before q c = elim (is.from_old q c) [
      | inl d ↦ inr (d.1, before q d.0)
      | inr d ↦ inl (d.0, ((d.1).action, ask_given site.port q.ask t.out d.1, (d.1).sent), by q c d.0 (step_call old t s step) (step_calls old t s step))
    ]

pub open_is_of_run : OpenIsOfRun
open_is_of_run site run s legal q there = record {
  came = sound.born;
  wanted = sound.wanted;
  kind = sound.work.kind;
  few = sound.work.few;
  chain = led site.port site.home run (type_number ((q.client_query).query).kind) ((q.client_query).query).name (q.job).chain (q.job).name sound.work.leads;
  searches = four_at_most (q.job).searches (run_short site run s legal q there).nested;
  due = run_awaited site run s legal q there;
  asks = sound.asks;
  look_ups = (run_counted site run s legal).each q there;
}
  where
    sound : IsOpenSound site.port site.home run q
    sound = (run_explained site run s legal).0.queries q there
