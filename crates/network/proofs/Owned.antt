-- A reply of a step in which a client's bytes come is to them; and a query that stays open is recursive.
use Rattle.std.proofs.Common.{◌≡◌, ℕ, ◌+◌, inl, inr, true, Option, Some, None, List, sym, subst, ◌∙◌}
use Rattle.std.specs.Prelude.{Contains}
use Rattle.causes.specs.declared.cause.Cause.{Cause}
use Rattle.wire.specs.declared.via.Via.{Via}
use Rattle.front.specs.Queries.{IsRequest}
use Rattle.front.proofs.Single.{asked_once}
use Rattle.front.specs.declared.queries.Query.{Query}
use Rattle.front.specs.declared.queries.Request.{Request}
use Rattle.front.specs.declared.queries.Request.TheVariants as request
use Rattle.resolution.specs.Jobs.{Stores, Job, Next, AskUdp, AskTcp, Done, Fail}
use Rattle.runs.specs.States.{Client, Action, Reply, Served, Own, OpenQuery, Turn, Plain, ClientQuery, recursive, Open, State, moved}
use Rattle.runs.specs.Steps.{Waits, Comes, IsAsk, IsOpened, at_once, crowded, admitted, IsHandled, IsTurn, Step}
use Rattle.runs.specs.Runs.{Came, GivesOut}
use Rattle.laws.proofs.Actions.{no_reply_sent, own_not_query, only_action}

abbrev pub IsStepOf : Turn → Type 0
IsStepOf t = (old : State) × (new : State) × Step old t.event t.served t.out new

-- ---- replies where a client's bytes come

module _ (client : ℕ) (way : Via) (bytes : List ℕ) (c : Option Cause) where
  waits_silently : {P : Type 0} (s : State) (after : Open) (opened asked : ℕ) (stores : Stores) (out : List Action) (new : State) → Waits s after opened asked stores out new
      → Contains out (Reply client way bytes c) → P
  waits_silently s after opened asked stores out new h m =
      let (sent, written, is) = h.sent in
      no_reply_sent (s.site).port after.ask (after.ask).path bytes sent client way c (sym is ∙ only_action out h.action (Reply client way bytes c) h.out_is m)

  asks_silently : {P : Type 0} (s : State) (who : ClientQuery) (k opened : ℕ) (next : Next) (job : Job) (stores : Stores) (out : List Action) (new : State) → IsAsk next
      → Comes s who k opened next job stores out new → Contains out (Reply client way bytes c) → P
  asks_silently s who k opened (AskUdp server n t) job stores out new asks h m = waits_silently s _ _ _ stores out new h.waits m
  asks_silently s who k opened (AskTcp server n t) job stores out new asks h m = waits_silently s _ _ _ stores out new h.waits m
  asks_silently s who k opened (Done chain last) job stores out new asks h m = absurd asks
  asks_silently s who k opened (Fail cause) job stores out new asks h m = absurd asks

  opened_own : (s : State) (who : ClientQuery) (next : Next) (job : Job) (stores : Stores) (served : Served) (out : List Action) (new : State)
      → IsOpened s who next job stores served out new → Contains out (Reply client way bytes c) → served ≡ Own
  opened_own s who next job stores served out new (at_once is over comes) m = is
  opened_own s who next job stores served out new (crowded is asks many ends) m = is
  opened_own s who next job stores served out new (admitted is asks few comes) m = asks_silently s who s.opened (s.opened + 1) next job stores out new asks comes m

  handled_own : (s : State) (from : ℕ) (by : Via) (asked : Request Plain) (served : Served) (out : List Action) (new : State) → IsHandled s from by asked served out new
      → Contains out (Reply client way bytes c) → served ≡ Own
  handled_own s from by request.Drop served out new (is, none, same) m = is
  handled_own s from by (request.Refuse refusal start echo) served out new (is, reply, same) m = is
  handled_own s from by (request.Query q) served out new (inl (plain, h)) m = h.served_is
  handled_own s from by (request.Query q) served out new (inr (wishes, h)) m = opened_own s _ h.next h.job h.stores served out new h.opened m

  turn_own : (s : State) (now from : ℕ) (by : Via) (said : List ℕ) (served : Served) (out : Option (List Action)) (new : State) → IsTurn s (Client now from by said) served out new
      → GivesOut out (Reply client way bytes c) → served ≡ Own
  turn_own s now from by said served None new h m = absurd m
  turn_own s now from by said served (Some out) new (asked, reads, h) m = handled_own s from by asked served out new h m

pub reply_is_own : (t : Turn) → IsStepOf t → (now from : ℕ) (by : Via) (said : List ℕ) → t.event ≡ Client now from by said → (client : ℕ) (way : Via) (bytes : List ℕ) (c : Option Cause)
    → GivesOut t.out (Reply client way bytes c) → t.served ≡ Own
reply_is_own t (old, new, step) now from by said event client way bytes c m =
    turn_own client way bytes c (moved old t.event) now from by said t.served t.out new (subst (λ e. IsTurn (moved old t.event) e t.served t.out new) event step.turn) m

-- ---- queries that stay open

one_asked : (p q : Query Plain) → request.Query p ≡ request.Query q → p ≡ q
one_asked p q e = cc

module _ (k : ℕ) (q : Query Plain) (served : Served) (is : served ≡ OpenQuery k) where
  handled_recursive : (s : State) (from : ℕ) (by : Via) (asked : Request Plain) (out : List Action) (new : State) → IsHandled s from by asked served out new → asked ≡ request.Query q
      → recursive q ≡ true
  handled_recursive s from by request.Drop out new (own, none, same) e = own_not_query k (sym own ∙ is)
  handled_recursive s from by (request.Refuse refusal start echo) out new (own, reply, same) e = own_not_query k (sym own ∙ is)
  handled_recursive s from by (request.Query p) out new (inl (plain, h)) e = own_not_query k (sym h.served_is ∙ is)
  handled_recursive s from by (request.Query p) out new (inr (wishes, h)) e = subst (λ (x : Query Plain). recursive x ≡ true) (one_asked p q e) wishes

  turn_recursive : (s : State) (now from : ℕ) (by : Via) (said : List ℕ) (out : Option (List Action)) (new : State) → IsTurn s (Client now from by said) served out new
      → IsRequest {A = Plain} said (request.Query q) → recursive q ≡ true
  turn_recursive s now from by said None new h reads = own_not_query k (sym h.0 ∙ is)
  turn_recursive s now from by said (Some out) new (asked, there, h) reads = handled_recursive s from by asked out new h (asked_once said asked (request.Query q) there reads)

pub open_is_recursive : (t : Turn) (past : List Turn) (k : ℕ) (who : ClientQuery) → IsStepOf t → Came (OpenQuery k) who t past → recursive who.query ≡ true
open_is_recursive t past k who (old, new, step) came =
    turn_recursive k who.query t.served came.is_served (moved old t.event) came.moment who.client who.way came.bytes t.out new
    (subst (λ e. IsTurn (moved old t.event) e t.served t.out new) came.event step.turn) came.reads
