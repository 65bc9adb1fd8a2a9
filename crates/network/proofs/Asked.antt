-- Asks over TCP: at most one goes out in a step, under the next number.
use Rattle.std.proofs.Common.{◌≡◌, ℕ, ◌+◌, ◌⊎◌, inl, inr, ⊎_elim, Option, Some, None, List, [], ◌∷◌, ◌++◌, sym, ap, ◌∙◌, subst}
use Rattle.std.specs.Prelude.{Contains}
use Rattle.zone.proofs.LawLists.{none_in, first_in, later_in, in_cases}
use Rattle.front.specs.declared.queries.Request.{Request}
use Rattle.front.specs.declared.queries.Request.TheVariants as request
use Rattle.front.specs.declared.queries.Outcome.{Outcome}
use Rattle.resolution.specs.Jobs.{Stores, Job, Next, AskUdp, AskTcp, Done, Fail}
use Rattle.runs.specs.States.{Endpoint, Event, Client, Datagram, TcpReply, TcpFailed, Tick, Action, Reply, TcpAsk, MoreDue, Served, Plain, ClientQuery, Path, ByUdp, ByTcp, Ask, State, moved}
use Rattle.runs.specs.Messages.{sending, IsSent, IsReply}
use Rattle.runs.specs.Steps.{Ends, Comes, IsOpened, at_once, crowded, admitted, IsHandled, IsIgnored, ServesOpen, IsFollowed, IsTicked, IsLeft, IsTurn, Step}
use Rattle.runs.specs.Runs.{GivesOut}

pub data AsksTcp (s : State) (out : Option (List Action)) (new : State) : Type 0 where
  quiet : ((number : ℕ) (to : Endpoint) (bytes : List ℕ) → GivesOut out (TcpAsk number to bytes) → ⊥) → new.tcp_asks ≡ s.tcp_asks → AsksTcp s out new
  asks : (at : Endpoint) → ((number : ℕ) (to : Endpoint) (bytes : List ℕ) → GivesOut out (TcpAsk number to bytes) → (number ≡ s.tcp_asks) × (to ≡ at)) → new.tcp_asks ≡ s.tcp_asks + 1
      → AsksTcp s out new

-- ---- single actions

one_action : (a b : Action) → Contains (a ∷ []) b → a ≡ b
one_action a b m = ⊎_elim (λ e. e) (λ n. absurd (none_in b n)) (in_cases a b [] m)

pub reply_no_ask : (who : ClientQuery) (o : Outcome Plain) (action : Action) (number : ℕ) (to : Endpoint) (bytes : List ℕ) → IsReply who o action → action ≡ TcpAsk number to bytes → ⊥
reply_no_ask who o action number to bytes (written, are, is) e = let f : Reply who.client who.way written _ ≡ TcpAsk number to bytes = sym is ∙ e in cc

udp_no_ask : (port : ℕ) (a : Ask) (sock : ℕ) (action : Action) (number : ℕ) (to : Endpoint) (bytes : List ℕ) → a.path ≡ ByUdp sock → IsSent port a action → action ≡ TcpAsk number to bytes → ⊥
udp_no_ask port a sock action number to bytes path (written, are, is) e =
    let f : sending port a (ByUdp sock) written ≡ TcpAsk number to bytes = ap (λ (p : Path). sending port a p written) (sym path) ∙ (sym is ∙ e) in cc

tcp_ask : (port : ℕ) (a : Ask) (n : ℕ) (action : Action) (number : ℕ) (to : Endpoint) (bytes : List ℕ) → a.path ≡ ByTcp n → IsSent port a action → action ≡ TcpAsk number to bytes
    → (number ≡ n) × (to ≡ record { address = a.server; port = port })
tcp_ask port a n action number to bytes path (written, are, is) e =
    let f : TcpAsk n (record { address = a.server; port = port }) written ≡ TcpAsk number to bytes = ap (λ (p : Path). sending port a p written) (sym path) ∙ (sym is ∙ e) in
    let same : n ≡ number = cc in
    let there : (record { address = a.server; port = port }) ≡ to = cc in
    (sym same, sym there)

-- ---- by the rules of a step

module _ (s : State) where
  none_asked : (new : State) → new.tcp_asks ≡ s.tcp_asks → AsksTcp s None new
  none_asked new e = quiet (λ number to bytes m. m) e

  empty_asked : (out : List Action) (new : State) → out ≡ [] → new.tcp_asks ≡ s.tcp_asks → AsksTcp s (Some out) new
  empty_asked out new is e = quiet (λ number to bytes m. none_in _ (subst (λ (l : List Action). Contains l (TcpAsk number to bytes)) is m)) e

  reply_asked : (who : ClientQuery) (o : Outcome Plain) (action : Action) (out : List Action) (new : State) → IsReply who o action → out ≡ action ∷ [] → new.tcp_asks ≡ s.tcp_asks → AsksTcp s (Some out) new
  reply_asked who o action out new reply is e =
      quiet (λ number to bytes m. reply_no_ask who o action number to bytes reply (one_action action _ (subst (λ (l : List Action). Contains l (TcpAsk number to bytes)) is m))) e

  ends_asked : (who : ClientQuery) (k : ℕ) (o : Outcome Plain) (stores : Stores) (out : List Action) (new : State) → Ends s who k o stores out new → AsksTcp s (Some out) new
  ends_asked who k o stores out new h = reply_asked who o h.action out new h.reply h.out_is (ap (λ (x : State). x.tcp_asks) h.state)

  comes_asked : (who : ClientQuery) (k opened : ℕ) (next : Next) (job : Job) (stores : Stores) (out : List Action) (new : State) → Comes s who k opened next job stores out new → AsksTcp s (Some out) new
  comes_asked who k opened (AskUdp server n t) job stores out new h =
      quiet (λ number to bytes m. udp_no_ask _ h.ask (h.goes).sock (h.waits).action number to bytes (h.goes).path (h.waits).sent
      (one_action (h.waits).action _ (subst (λ (l : List Action). Contains l (TcpAsk number to bytes)) (h.waits).out_is m))) (ap (λ (x : State). x.tcp_asks) (h.waits).state)
  comes_asked who k opened (AskTcp server n t) job stores out new h =
      asks (record { address = (h.ask).server; port = (s.site).port }) (λ number to bytes m. tcp_ask _ h.ask s.tcp_asks (h.waits).action number to bytes (h.goes).path (h.waits).sent
      (one_action (h.waits).action _ (subst (λ (l : List Action). Contains l (TcpAsk number to bytes)) (h.waits).out_is m))) (ap (λ (x : State). x.tcp_asks) (h.waits).state)
  comes_asked who k opened (Done chain last) job stores out new h = ends_asked who k _ stores out new h
  comes_asked who k opened (Fail c) job stores out new h = ends_asked who k _ stores out new h

  opened_asked : (who : ClientQuery) (next : Next) (job : Job) (stores : Stores) (served : Served) (out : List Action) (new : State) → IsOpened s who next job stores served out new → AsksTcp s (Some out) new
  opened_asked who next job stores served out new (at_once is over comes) = comes_asked who s.opened s.opened next job stores out new comes
  opened_asked who next job stores served out new (crowded is asking many ends) = ends_asked who _ _ stores out new ends
  opened_asked who next job stores served out new (admitted is asking few comes) = comes_asked who s.opened (s.opened + 1) next job stores out new comes

  handled_asked : (client : ℕ) (way : _) (asked : Request Plain) (served : Served) (out : List Action) (new : State) → IsHandled s client way asked served out new → AsksTcp s (Some out) new
  handled_asked client way request.Drop served out new h = empty_asked out new h.1 (ap (λ (x : State). x.tcp_asks) h.2)
  handled_asked client way (request.Refuse refusal start echo) served out new (own, (action, (bytes, written, is), alone), same) =
      quiet (λ number to sent m. refused number to sent (one_action action _ (subst (λ (l : List Action). Contains l (TcpAsk number to sent)) alone m))) (ap (λ (x : State). x.tcp_asks) same)
    where
      refused : (number : ℕ) (to : Endpoint) (sent : List ℕ) → action ≡ TcpAsk number to sent → ⊥
      refused number to sent e = let f : Reply client way bytes None ≡ TcpAsk number to sent = sym is ∙ e in cc
  handled_asked client way (request.Query q) served out new (inl (rd, h)) = reply_asked _ h.result h.action out new h.reply h.out_is (ap (λ (x : State). x.tcp_asks) h.state)
  handled_asked client way (request.Query q) served out new (inr (rd, h)) = opened_asked _ _ _ _ served out new h.opened

  hears_asked : (event : Event) (served : Served) (out : List Action) (new : State) → ServesOpen s event served out new → AsksTcp s (Some out) new
  hears_asked event served out new h = comes_asked _ _ s.opened _ _ _ out new (h.serves).comes

  left_asked : (k : ℕ) (P : Stores → Type 0) (new : State) → IsLeft s k P new → AsksTcp s None new
  left_asked k P new h = none_asked new (ap (λ (x : State). x.tcp_asks) h.state)

  ignored_asked : (event : Event) (served : Served) (out : List Action) (new : State) → IsIgnored s event served out new → AsksTcp s (Some out) new
  ignored_asked event served out new h = empty_asked out new h.out_is (ap (λ (x : State). x.tcp_asks) h.state)

  -- Word that another query is due is no ask.
  told_cases : (first : List Action) (a : Action) → Contains (first ++ MoreDue ∷ []) a → Contains first a ⊎ (MoreDue ≡ a)
  told_cases [] a m = inr (one_action MoreDue a m)
  told_cases (b ∷ first) a m = ⊎_elim
      (λ e. inl (subst (λ x. Contains (b ∷ first) x) e (first_in b first)))
      (λ n. ⊎_elim (λ k. inl (later_in b a first k)) (λ e. inr e) (told_cases first a n))
      (in_cases b a (first ++ MoreDue ∷ []) m)

  told_ask : (first : List Action) (number : ℕ) (to : Endpoint) (bytes : List ℕ) → Contains (first ++ MoreDue ∷ []) (TcpAsk number to bytes) → Contains first (TcpAsk number to bytes)
  told_ask first number to bytes m = ⊎_elim (λ k. k) (λ e. absurd (cc)) (told_cases first (TcpAsk number to bytes) m)

  behind_asked : (first out : List Action) (new : State) → ((number : ℕ) (to : Endpoint) (bytes : List ℕ) → Contains out (TcpAsk number to bytes) → Contains first (TcpAsk number to bytes))
      → AsksTcp s (Some first) new → AsksTcp s (Some out) new
  behind_asked first out new back (quiet none e) = quiet (λ number to bytes m. none number to bytes (back number to bytes m)) e
  behind_asked first out new back (asks at one e) = asks at (λ number to bytes m. one number to bytes (back number to bytes m)) e

  followed_asked : (first out : List Action) (new : State) → IsFollowed first out new → AsksTcp s (Some first) new → AsksTcp s (Some out) new
  followed_asked first out new (inl (is, due)) h =
      behind_asked first out new (λ number to bytes m. told_ask first number to bytes (subst (λ (l : List Action). Contains l (TcpAsk number to bytes)) is m)) h
  followed_asked first out new (inr (is, none)) h = subst (λ (l : List Action). AsksTcp s (Some l) new) (sym is) h

  ticked_asked : (now : ℕ) (served : Served) (out : List Action) (new : State) → IsTicked s now served out new → AsksTcp s (Some out) new
  ticked_asked now served out new (inl h) = ignored_asked _ served out new h
  ticked_asked now served out new (inr (first, inl h, followed)) = followed_asked first out new followed (ends_asked _ _ _ _ first new h.ends)
  ticked_asked now served out new (inr (first, inr h, followed)) = followed_asked first out new followed (hears_asked (Tick now) served first new h)

  turn_asked : (event : Event) (served : Served) (out : Option (List Action)) (new : State) → IsTurn s event served out new → AsksTcp s out new
  turn_asked (Client now client way bytes) served None new h = left_asked _ _ new h.1
  turn_asked (Datagram now sock from bytes) served None new h = left_asked _ _ new h.4
  turn_asked (TcpReply now number bytes) served None new h = left_asked _ _ new h.4
  turn_asked (TcpFailed now number) served None new h = left_asked _ _ new h.4
  turn_asked (Tick now) served None new h = left_asked _ _ new h.4
  turn_asked (Client now client way bytes) served (Some out) new (asked, reads, h) = handled_asked client way asked served out new h
  turn_asked (Datagram now sock from bytes) served (Some out) new (inl h) = ignored_asked _ served out new h
  turn_asked (Datagram now sock from bytes) served (Some out) new (inr h) = hears_asked _ served out new h
  turn_asked (TcpReply now number bytes) served (Some out) new (inl h) = ignored_asked _ served out new h
  turn_asked (TcpReply now number bytes) served (Some out) new (inr h) = hears_asked _ served out new h
  turn_asked (TcpFailed now number) served (Some out) new (inl h) = ignored_asked _ served out new h
  turn_asked (TcpFailed now number) served (Some out) new (inr h) = hears_asked _ served out new h
  turn_asked (Tick now) served (Some out) new h = ticked_asked now served out new h

pub step_asks : (old : State) (event : Event) (served : Served) (out : Option (List Action)) (new : State) → Step old event served out new → AsksTcp old out new
step_asks old event served out new step = by (turn_asked (moved old event) event served out new step.turn)
  where
    by : AsksTcp (moved old event) out new → AsksTcp old out new
    by (quiet none e) = quiet none e
    by (asks at one e) = asks at one e
