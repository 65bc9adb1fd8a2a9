-- From frames that open in one call to those that open in the step which makes it.
use Rattle.std.proofs.Common.{◌≡◌, ℕ, zero, suc, ◌⊎◌, inl, inr, Option, Some, None, List, [], ◌∷◌, ◌++◌, Contains, refl, sym, ap, ◌∙◌, subst}
use Rattle.dname.specs.Labels.{Name}
use Rattle.rdata.specs.declared.addr.Addr.{Addr}
use Rattle.causes.specs.declared.cause.Cause.{Cause}
use Rattle.causes.specs.declared.cause.Cause.TheVariants as cause
use Rattle.wire.specs.declared.via.Via.{Via}
use Rattle.front.specs.declared.queries.Request.{Request}
use Rattle.front.specs.declared.queries.Request.TheVariants as request
use Rattle.frames.specs.Frames.{opened}
use Rattle.resolution.specs.Jobs.{Home, Stores, level_of, Search, search_at, next_server, Job, Start, Next, AskUdp, Fail, Point}
use Rattle.resolution.specs.Rules.{Rule, Rules, MayNotSend}
use Rattle.runs.specs.States.{Event, Client, Datagram, TcpReply, Tick, Action, MoreDue, Served, OpenQuery, Plain, ClientQuery, client_query, Open, Site, State, moved}
use Rattle.runs.specs.States as event
use Rattle.runs.specs.Messages.{IsSent}
use Rattle.runs.specs.Steps.{Comes, Serves, IsAsk, IsOpened, at_once, crowded, admitted, IsHandled, IsIgnored, ServesOpen, IsFollowed, IsTicked, IsTurn}
use Rattle.runs.proofs.Clocks.{clock_of_run}
use Rattle.laws.specs.Laws.{IsOnlyAction}
use Rattle.laws.specs.Calls.{GoesOut, IsGivenOf, Opening, opening_of, StartsSearch}
use Rattle.laws.specs.Opens.{Call, handled_call, hears_call, either_call, ticked_call, turn_call, RulesOpen, Opens, Goes, MayNot, IsOpenedRightly, FramesOpenInSteps}
use Rattle.laws.proofs.Ask.{SameTime, both, rules_keep, enters_keep}
use Rattle.laws.proofs.Calls.{goes_alike}
use Rattle.laws.proofs.FollowedStores.{comes_stores}
use Rattle.laws.proofs.Opened.{frames_open_rightly}
use Rattle.laws.proofs.Served.{IsLeftBy, is_ask, handled_calls, hears_calls}

-- ---- of one call

-- A rule on the way from a to b opens the frame.
record IsOnWay (home : Home) (now : ℕ) (a b : Point) (frame : Opening) : Type 0 where
  pub x : Point
  pub y : Point
  pub before : ℕ
  pub behind : ℕ
  pub to : Rules home now before a x
  pub rule : Rule home now x y
  pub opens : opening_of home now x y rule ≡ Some frame
  pub on : Rules home now behind y b

on_way : (home : Home) (now count : ℕ) (a b : Point) (rules : Rules home now count a b) (frame : Opening) → RulesOpen home now count a b rules frame → IsOnWay home now a b frame
on_way home now zero a b same frame h = absurd h
on_way home now (suc n) a b (mid, more, rule) frame (inl h) =
    let w = on_way home now n a mid more frame h in
    record { x = w.x; y = w.y; before = w.before; behind = suc w.behind; to = w.to; rule = w.rule; opens = w.opens; on = (mid, w.on, rule) }
on_way home now (suc n) a b (mid, more, rule) frame (inr is) =
    record { x = mid; y = b; before = n; behind = zero; to = more; rule = rule; opens = is; on = refl }

-- What a call says of a frame that it opens.
abbrev IsRightIn : (s : State) → Call s → Opening → Type 0
IsRightIn s call frame =
    StartsSearch (s.site).home s.clock frame.name frame.kind call.after frame.cut
    × ((d : Addr) → next_server s.clock (call.after).failures (search_at frame.name frame.kind (opened (level_of call.after) frame.nesting frame.cut)) ≡ Some d
    → GoesOut s.clock call.old (AskUdp d frame.name frame.kind) call.next
    × (IsAsk call.next → (sought : Search) × (rest : List Search) × IsGivenOf (search_at frame.name frame.kind (opened (level_of call.after) frame.nesting frame.cut)) sought × ((call.new).searches ≡ sought ∷ rest)))

right_in : (s : State) (call : Call s) (frame : Opening) → Opens s call frame → IsRightIn s call frame
right_in s call frame h =
    let c = call.advances in
    let w = on_way (s.site).home s.clock c.count c.first c.last c.rules frame h in
    let same : SameTime call.old (w.x).job
    = both call.old (c.first).job (w.x).job (enters_keep s.clock call.input call.old s.stores c.first c.enters) (rules_keep (s.site).home s.clock w.before c.first w.x w.to) in
    let (start, stands, asks) = frames_open_rightly (s.site).home s.clock w.x w.y c.last w.behind call.next call.new call.after w.rule frame w.on c.leaves w.opens in
    (start, λ d due. let (goes, shown) = asks d due in (goes_alike s.clock (w.x).job call.old (AskUdp d frame.name frame.kind) call.next same.deadline same.asks goes, shown))

-- ---- of what comes of it

module _ (site : Site) (s : State) (here : s.site ≡ site) (served : Served) (out : List Action) (new : State) where
  abbrev Sends : Call s → Type 0
  Sends call = (d : Addr) (n : Name) (t : ℕ) → GoesOut s.clock call.old (AskUdp d n t) call.next → Goes site served d n t out new ⊎ MayNot s call out

  abbrev AreRight : Option (Call s) → Type 0
  AreRight made = (call : Call s) → made ≡ Some call → (frame : Opening) → Opens s call frame → IsOpenedRightly site s served out new call frame

  none_right : AreRight None
  none_right call e frame h = absurd (cc)

  -- What the call leaves is shown by the query that is served.
  abbrev Leaves : Call s → Type 0
  Leaves call = (q : Open) → Contains new.queries q → served ≡ OpenQuery q.number → IsLeftBy s call.next call.new call.after new q

  call_right : (call : Call s) → new.stores ≡ call.after → Sends call → Leaves call → AreRight (Some call)
  call_right call stores sends left other e = subst (λ (c : Call s). (frame : Opening) → Opens s c frame → IsOpenedRightly site s served out new c frame) same right
    where
      same : call ≡ other
      same = cc

      right : (frame : Opening) → Opens s call frame → IsOpenedRightly site s served out new call frame
      right frame h =
          let (start, asks) = right_in s call frame h in
          record {
            start = subst (λ (x : Site). StartsSearch x.home s.clock frame.name frame.kind new.stores frame.cut) here
                (subst (λ (x : Stores). StartsSearch (s.site).home s.clock frame.name frame.kind x frame.cut) (sym stores) start);
            first = λ d due. sends d frame.name frame.kind (asks d (due_after d due)).0;
            stands = λ d q due there is.
                let after = left q there is in
                let (sought, rest, of, shown) = (asks d (due_after d due)).1 (is_ask s.clock call.new call.next q after.asks) in (
                  sought,
                  rest,
                  subst (λ (x : Stores). IsGivenOf (search_at frame.name frame.kind (opened (level_of x) frame.nesting frame.cut)) sought) (sym stores) of,
                  ap (λ (j : Job). j.searches) after.job_is ∙ shown,
                );
          }
        where
          due_after : (d : Addr) → next_server s.clock (new.stores).failures (search_at frame.name frame.kind (opened (level_of new.stores) frame.nesting frame.cut)) ≡ Some d
              → next_server s.clock (call.after).failures (search_at frame.name frame.kind (opened (level_of call.after) frame.nesting frame.cut)) ≡ Some d
          due_after d = subst (λ (x : Stores). next_server s.clock x.failures (search_at frame.name frame.kind (opened (level_of x) frame.nesting frame.cut)) ≡ Some d) stores

  -- The query's ask goes out, under its number.
  goes : (who : ClientQuery) (k opened : ℕ) (next : Next) (job : Job) (stores : Stores) (first : List Action) (d : Addr) (n : Name) (t : ℕ)
      → served ≡ OpenQuery k → ((action : Action) → first ≡ action ∷ [] → IsOnlyAction action out) → next ≡ AskUdp d n t → Comes s who k opened next job stores first new → Goes site served d n t out new
  goes who k opened next job stores first d n t is behind e comes =
      let c = subst (λ (x : Next). Comes s who k opened x job stores first new) e comes in
      let w = c.waits in
      record {
        query = _;
        there = (w.queries).is;
        number = is;
        for = c.for;
        path = ((c.goes).sock, (c.goes).path);
        action = w.action;
        sent = subst (λ (x : Site). IsSent x.port c.ask w.action) here w.sent;
        alone = behind w.action w.out_is;
      }

  hears_right : (e : Event) (first : List Action) → ((action : Action) → first ≡ action ∷ [] → IsOnlyAction action out) → (h : ServesOpen s e served first new) → AreRight (hears_call s e served first new h)
  hears_right e first behind h = call_right _ (comes_stores s _ _ _ v.next v.job v.stores first new v.comes) sends (hears_calls s e served first new h).1
    where
      v : Serves s h.query h.input first new
      v = h.serves

      sends : Sends (record { client_query = (h.query).client_query; input = h.input; old = (h.query).job; next = v.next; new = v.job; after = v.stores; advances = v.advances })
      sends d n t (inl (may, is)) = inl (goes _ _ _ v.next v.job v.stores first d n t h.served_is behind is v.comes)
      sends d n t (inr (c, refused, is)) =
          let ends = subst (λ (x : Next). Comes s (h.query).client_query (h.query).number s.opened x v.job v.stores first new) is v.comes in
          inr (record { c = c; may_not = inl refused; action = ends.action; reply = ends.reply; alone = behind ends.action ends.out_is })

  either_right : (e : Event) → (h : IsIgnored s e served out new ⊎ ServesOpen s e served out new) → AreRight (either_call s e served out new h)
  either_right e (inl h) = none_right
  either_right e (inr h) = hears_right e out (λ action is. inl is) h

  ticked_right : (now : ℕ) → (h : IsTicked s now served out new) → AreRight (ticked_call s now served out new h)
  ticked_right now (inl h) = none_right
  ticked_right now (inr (first, inl h, followed)) = none_right
  ticked_right now (inr (first, inr h, followed)) = hears_right (Tick now) first (behind followed) h
    where
      behind : IsFollowed first out new → (action : Action) → first ≡ action ∷ [] → IsOnlyAction action out
      behind (inl (e, due)) action f = inr (e ∙ ap (λ (l : List Action). l ++ MoreDue ∷ []) f)
      behind (inr (e, none)) action f = inl (e ∙ f)

  handled_right : (client : ℕ) (way : Via) (asked : Request Plain) → (h : IsHandled s client way asked served out new) → AreRight (handled_call s client way asked served out new h)
  handled_right client way request.Drop h = none_right
  handled_right client way (request.Refuse refusal start echo) h = none_right
  handled_right client way (request.Query q) (inl h) = none_right
  handled_right client way (request.Query q) (inr (rd, h)) =
      call_right call (stores h.opened) (sends h.opened) (handled_calls s client way (request.Query q) served out new (inr (rd, h))).1
    where
      who : ClientQuery
      who = client_query client way q

      call : Call s
      call = record { client_query = who; input = Start; old = _; next = h.next; new = h.job; after = h.stores; advances = h.advances }

      stores : IsOpened s who h.next h.job h.stores served out new → new.stores ≡ h.stores
      stores (at_once is over comes) = comes_stores s _ _ _ h.next h.job h.stores out new comes
      stores (crowded is asking many e) = ap (λ (x : State). x.stores) e.state
      stores (admitted is asking few comes) = comes_stores s _ _ _ h.next h.job h.stores out new comes

      fails : (k opened : ℕ) (c : Cause) → Comes s who k opened h.next h.job h.stores out new → h.next ≡ Fail c
          → MayNotSend s.clock call.old c → MayNot s call out
      fails k opened c comes is refused =
          let ends = subst (λ (x : Next). Comes s who k opened x h.job h.stores out new) is comes in
          record { c = c; may_not = inl refused; action = ends.action; reply = ends.reply; alone = inl ends.out_is }

      sends : IsOpened s who h.next h.job h.stores served out new → Sends call
      sends (at_once is over comes) d n t (inl (may, e)) = absurd (over (subst IsAsk (sym e) tt))
      sends (at_once is over comes) d n t (inr (c, refused, e)) = inr (fails _ _ c comes e refused)
      sends (crowded is asking many ends) d n t x = inr (record { c = cause.TooManyOpen; may_not = inr (refl, refl, many); action = ends.action; reply = ends.reply; alone = inl ends.out_is })
      sends (admitted is asking few comes) d n t (inl (may, e)) = inl (goes _ _ _ h.next h.job h.stores out d n t is (λ action f. inl f) e comes)
      sends (admitted is asking few comes) d n t (inr (c, refused, e)) = inr (fails _ _ c comes e refused)

  turn_right : (e : Event) → (turn : IsTurn s e served (Some out) new) → AreRight (turn_call s e served (Some out) new turn)
  turn_right (Client now client way bytes) (asked, reads, h) = handled_right client way asked h
  turn_right (Datagram now sock from bytes) h = either_right (Datagram now sock from bytes) h
  turn_right (TcpReply now number bytes) h = either_right (TcpReply now number bytes) h
  turn_right (event.TcpFailed now number) h = either_right (event.TcpFailed now number) h
  turn_right (Tick now) h = ticked_right now h

-- ---- of a step

pub frames_open_in_steps : FramesOpenInSteps
frames_open_in_steps site past old t new legal step out call frame fed made opens = by t.out fed step.turn made
  where
    s : State
    s = moved old t.event

    by : (o : Option (List Action)) → o ≡ Some out → (turn : IsTurn s t.event t.served o new) → turn_call s t.event t.served o new turn ≡ Some call
        → IsOpenedRightly site s t.served out new call frame
    by o e = subst (λ (x : Option (List Action)). (turn : IsTurn s t.event t.served x new) → turn_call s t.event t.served x new turn ≡ Some call → IsOpenedRightly site s t.served out new call frame) (sym e)
        (λ turn is. turn_right site s (clock_of_run site past old legal).1 t.served out new t.event turn call is frame opens)
