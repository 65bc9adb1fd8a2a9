-- What becomes of the open queries in a step.
use Rattle.std.proofs.Common.{◌≡◌, ◌≢◌, ℕ, ◌+◌, ◌<◌, ◌⊎◌, inl, inr, Bool, true, false, cond, min, nat_le, length, Option, Some, None, List, [], ◌∷◌, ◌++◌, Contains, refl, sym, ap, ◌∙◌, subst, arith}
use Rattle.rdata.specs.declared.addr.Addr.{Addr}
use Rattle.wire.specs.declared.via.Via.{Via}
use Rattle.front.specs.Queries.{IsRequest}
use Rattle.front.specs.declared.queries.Request.{Request}
use Rattle.front.specs.declared.queries.Request.TheVariants as request
use Rattle.front.specs.declared.queries.Outcome.{Outcome}
use Rattle.retry.specs.Plans.{Plan, wait_of}
use Rattle.resolution.specs.Jobs.{Stores, Search, Job, wait_in, wait_of_job, Input, Start, Next, AskUdp, AskTcp, Done, Fail}
use Rattle.runs.specs.States.{Event, Client, Datagram, TcpReply, TcpFailed, Tick, Action, MoreDue, Served, Nobody, Own, OpenQuery, Plain, ClientQuery, Path, ByUdp, ByTcp, Ask, Open, open_query, due_moment, job_for, State, word_of, word_taken}
use Rattle.runs.specs.Messages.{sending, IsSent, IsReply}
use Rattle.runs.specs.Steps.{IsUdpAsk, AreOthers, AreWith, Ends, Comes, Serves, IsAsk, IsOpened, at_once, crowded, admitted, Resolves, IsHandled, IsIgnored, ServesOpen, IsFollowed, IsTicked, IsLeft, IsTurn}
use Rattle.runs.specs.Runs.{is_ask}
use Rattle.laws.specs.Laws.{is_reply, IsOnlyAction, GivesOne, IsLine}
use Rattle.laws.specs.Words.{IsByWord}
use Rattle.laws.proofs.Ask.{OneMore, call_asks}

-- A reply alone goes out.
pub record IsOneReply (out : Option (List Action)) : Type 0 where
  pub actions : List Action
  pub action : Action
  pub out_is : out ≡ Some actions
  pub alone : IsOnlyAction action actions
  pub reply : is_reply action ≡ true

-- This ask alone goes out.
pub record IsOneAsk (port : ℕ) (a : Ask) (out : Option (List Action)) : Type 0 where
  pub actions : List Action
  pub action : Action
  pub out_is : out ≡ Some actions
  pub alone : IsOnlyAction action actions
  pub sent : IsSent port a action

-- A query that waits was open already, or is new.
abbrev pub IsFrom : State → Open → State → Type 0
IsFrom s after new =
    ((q : Open) × Contains s.queries q × (q.number ≡ after.number) × (new.opened ≡ s.opened) × OneMore s.clock q.job after.job)
    ⊎ ((after.number ≡ s.opened) × (new.opened ≡ s.opened + 1) × ((after.job).asks ≡ 1))

-- A client's query came in this event.
abbrev pub IsComing : Event → Type 0
IsComing event = (moment : ℕ) × (who : ClientQuery) × (bytes : List ℕ) × (event ≡ Client moment who.client who.way bytes) × IsRequest {A = Plain} bytes (request.Query who.query)

-- Its deadline is what it was, or ten seconds from now where it comes now.
abbrev pub IsDated : State → Event → Open → Type 0
IsDated s event after =
    ((q : Open) × Contains s.queries q × (q.number ≡ after.number) × ((after.job).deadline ≡ (q.job).deadline))
    ⊎ (IsComing event × ((after.job).deadline ≡ s.clock + 10000))

-- No other open ask is like its ask.
abbrev pub IsAlike : State → Open → Type 0
IsAlike s after = (p : Open) (sock : ℕ) (server : Addr) (id : ℕ) → Contains s.queries p → p.number ≢ after.number → IsLine p sock server id → IsLine after sock server id → ⊥

-- No word of the generator is taken, or where memory was wanting one was.
abbrev pub KeepsWords : State → Option (List Action) → State → Type 0
KeepsWords s out new = (new.generator ≡ s.generator) ⊎ ((out ≡ None) × (new.generator ≡ word_taken s.generator))

-- A word is taken for an ask.
abbrev pub TakesWord : State → Open → State → Type 0
TakesWord s after new = (new.generator ≡ word_taken s.generator) × IsByWord s after.number after.ask (word_of s.generator)

pub data Fate (s : State) (event : Event) (served : Served) (out : Option (List Action)) (new : State) : Type 0 where
  -- No query that was open is served.
  passes : (served ≡ Nobody) ⊎ (served ≡ Own) → ((actions : List Action) → out ≡ Some actions → GivesOne event served actions) → AreOthers s.opened s.queries new.queries
      → new.opened ≡ s.opened → KeepsWords s out new → Fate s event served out new
  -- An open query is over.
  ends : (q : Open) → Contains s.queries q → served ≡ OpenQuery q.number → AreOthers q.number s.queries new.queries → new.opened ≡ s.opened → (out ≡ None) ⊎ IsOneReply out
      → KeepsWords s out new → Fate s event served out new
  -- A query waits for the answer to an ask.
  waits : (after : Open) → served ≡ OpenQuery after.number → AreWith after s.queries new.queries → IsFrom s after new → IsAlike s after → IsOneAsk (s.site).port after.ask out
      → s.clock < due_moment after → TakesWord s after new → IsDated s event after → Fate s event served out new

abbrev pub AreBelow : State → Type 0
AreBelow s = (q : Open) → Contains s.queries q → q.number < s.opened

-- ---- single actions

pub reply_is : (who : ClientQuery) (o : Outcome Plain) (action : Action) → IsReply who o action → is_reply action ≡ true
reply_is who o action (bytes, written, is) = ap is_reply is

pub ask_is : (port : ℕ) (a : Ask) (action : Action) → IsSent port a action → is_ask action ≡ true
ask_is port a action (bytes, written, is) = by a.path (ap is_ask is)
  where
    by : (path : Path) → is_ask action ≡ is_ask (sending port a path bytes) → is_ask action ≡ true
    by (ByUdp sock) e = e
    by (ByTcp number) e = e

-- ---- nothing is served

pub unchanged : (s new : State) → AreBelow s → new ≡ s → AreOthers s.opened s.queries new.queries
unchanged s new below e = subst (λ (x : State). AreOthers s.opened s.queries x.queries) (sym e)
    (record { stay = λ q there apart. there; only = λ q there. (there, λ is. apart (below q there) is) })
  where
    apart : {m n : ℕ} → m < n → m ≡ n → ⊥
    apart lt is = omega arith

ignored_fate : (s : State) (event : Event) (served : Served) (out : List Action) (new : State) → AreBelow s → IsIgnored s event served out new → Fate s event served (Some out) new
ignored_fate s event served out new below h =
    passes (inl h.served_is) gives (unchanged s new below h.state) (ap (λ (x : State). x.opened) h.state) (inl (ap (λ (x : State). x.generator) h.state))
  where
    gives : (actions : List Action) → Some out ≡ Some actions → GivesOne event served actions
    gives actions e = let is : actions ≡ [] = let o = h.out_is in cc in subst (λ (v : Served). GivesOne event v actions) (sym h.served_is) is

-- ---- what comes of a query

abbrev IsBehind : List Action → List Action → Type 0
IsBehind first out = (action : Action) → first ≡ action ∷ [] → IsOnlyAction action out

alone_behind : (out : List Action) → IsBehind out out
alone_behind out action e = inl e

followed_behind : (first out : List Action) (new : State) → IsFollowed first out new → IsBehind first out
followed_behind first out new (inl (is, due)) action e = inr (is ∙ ap (λ (l : List Action). l ++ MoreDue ∷ []) e)
followed_behind first out new (inr (is, none)) action e = inl (is ∙ e)

ended_reply : (s : State) (who : ClientQuery) (k : ℕ) (o : Outcome Plain) (stores : Stores) (first out : List Action) (new : State) → Ends s who k o stores first new → IsBehind first out → IsOneReply (Some out)
ended_reply s who k o stores first out new h behind =
    record { actions = out; action = h.action; out_is = refl; alone = behind h.action h.out_is; reply = reply_is who o h.action h.reply }

udp_alike : (s : State) (after : Open) → IsUdpAsk s after.number after.ask → IsAlike s after
udp_alike s after goes p sock server id there apart (path, to, under) (own_path, own_to, own_under) =
    (goes.id).free (p, there, apart, path ∙ ap ByUdp same, to ∙ sym own_to, under ∙ sym own_under)
  where
    same : sock ≡ goes.sock
    same = let e : ByUdp sock ≡ ByUdp goes.sock = sym own_path ∙ goes.path in cc

tcp_alike : (s : State) (after : Open) (number : ℕ) → (after.ask).path ≡ ByTcp number → IsAlike s after
tcp_alike s after number e p sock server id there apart line (own_path, own_to, own_under) = let f : ByTcp number ≡ ByUdp sock = sym e ∙ own_path in absurd (cc)

-- A query that waits is not due: it waits for a second at least, and its time is not up.
later : (now wait : ℕ) (old new : Job) → OneMore now old new → 0 < wait → now < min (now + wait) new.deadline
later now wait old new more some = let early = more.early in let same = more.deadline in omega arith

some_wait : (p : Plan) → 0 < wait_of p
some_wait p = by (nat_le p.given (length p.order))
  where
    by : (b : Bool) → 0 < cond b 1000 2000
    by true = omega arith
    by false = omega arith

some_wait_in : (ss : List Search) → 0 < wait_in ss
some_wait_in [] = omega arith
some_wait_in (s ∷ rest) = some_wait (s.frame).plan

-- An open query that is served.
serves_fate : (s : State) (event : Event) (served : Served) (q : Open) (input : Input) (first out : List Action) (new : State) → served ≡ OpenQuery q.number → Serves s q input first new → IsBehind first out
    → Fate s event served (Some out) new
serves_fate s event served q input first out new is h behind = by h.next refl h.comes
  where
    more : IsAsk h.next → OneMore s.clock q.job h.job
    more asking = call_asks (s.site).home s.clock input q.job s.stores h.next h.job h.stores h.advances asking

    by : (next : Next) → h.next ≡ next → Comes s q.client_query q.number s.opened next h.job h.stores first new → Fate s event served (Some out) new
    by (AskUdp server n t) e c =
        let w = c.waits in
        waits (open_query q.number q.client_query h.job c.ask (s.clock + wait_of_job h.job)) is w.queries
        (inl (q, h.stands, refl, ap (λ (x : State). x.opened) w.state, more (subst IsAsk (sym e) tt)))
        (udp_alike s (open_query q.number q.client_query h.job c.ask (s.clock + wait_of_job h.job)) c.goes)
        (record { actions = out; action = w.action; out_is = refl; alone = behind w.action w.out_is; sent = w.sent })
        (later s.clock (wait_of_job h.job) q.job h.job (more (subst IsAsk (sym e) tt)) (some_wait_in (h.job).searches)) (ap (λ (x : State). x.generator) w.state, inl ((c.goes).sock, (c.goes).sock_is, (c.goes).path, (c.goes).id))
        (inl (q, h.stands, refl, (more (subst IsAsk (sym e) tt)).deadline))
    by (AskTcp server n t) e c =
        let w = c.waits in
        waits (open_query q.number q.client_query h.job c.ask (s.clock + 3000)) is w.queries
        (inl (q, h.stands, refl, ap (λ (x : State). x.opened) w.state, more (subst IsAsk (sym e) tt)))
        (tcp_alike s (open_query q.number q.client_query h.job c.ask (s.clock + 3000)) s.tcp_asks (c.goes).path)
        (record { actions = out; action = w.action; out_is = refl; alone = behind w.action w.out_is; sent = w.sent })
        (later s.clock 3000 q.job h.job (more (subst IsAsk (sym e) tt)) (omega arith)) (ap (λ (x : State). x.generator) w.state, inr (s.tcp_asks, (c.goes).path, (c.goes).id))
        (inl (q, h.stands, refl, (more (subst IsAsk (sym e) tt)).deadline))
    by (Done chain last) e c = ends q h.stands is c.queries (ap (λ (x : State). x.opened) c.state) (inr (ended_reply s q.client_query q.number _ h.stores first out new c behind)) (inl (ap (λ (x : State). x.generator) c.state))
    by (Fail cause) e c = ends q h.stands is c.queries (ap (λ (x : State). x.opened) c.state) (inr (ended_reply s q.client_query q.number _ h.stores first out new c behind)) (inl (ap (λ (x : State). x.generator) c.state))

-- ---- a client's query

own_reply : (s : State) (event : Event) (served : Served) (who : ClientQuery) (o : Outcome Plain) (stores : Stores) (out : List Action) (new : State) → served ≡ Own → Ends s who s.opened o stores out new
    → Fate s event served (Some out) new
own_reply s event served who o stores out new is h = passes (inr is) gives h.queries (ap (λ (x : State). x.opened) h.state) (inl (ap (λ (x : State). x.generator) h.state))
  where
    gives : (actions : List Action) → Some out ≡ Some actions → GivesOne event served actions
    gives actions e = let same : actions ≡ h.action ∷ [] = let f = h.out_is in cc in
        subst (λ (v : Served). GivesOne event v actions) (sym is) (inr (h.action, reply_is who o h.action h.reply, same))

opened_fate : (s : State) (event : Event) (served : Served) (who : ClientQuery) (out : List Action) (new : State) → IsComing event → Resolves s who served out new → Fate s event served (Some out) new
opened_fate s event served who out new came r = by r.opened
  where
    more : IsAsk r.next → OneMore s.clock (job_for s.clock who.query) r.job
    more asking = call_asks (s.site).home s.clock Start (job_for s.clock who.query) s.stores r.next r.job r.stores r.advances asking

    over : (next : Next) → (IsAsk next → ⊥) → served ≡ Own → Comes s who s.opened s.opened next r.job r.stores out new → Fate s event served (Some out) new
    over (AskUdp server n t) none is c = absurd (none tt)
    over (AskTcp server n t) none is c = absurd (none tt)
    over (Done chain last) none is c = own_reply s event served who _ r.stores out new is c
    over (Fail cause) none is c = own_reply s event served who _ r.stores out new is c

    new_one : (next : Next) → r.next ≡ next → IsAsk next → served ≡ OpenQuery s.opened → Comes s who s.opened (s.opened + 1) next r.job r.stores out new → Fate s event served (Some out) new
    new_one (AskUdp server n t) e asking is c =
        let w = c.waits in
        waits (open_query s.opened who r.job c.ask (s.clock + wait_of_job r.job)) is w.queries (inr (refl, ap (λ (x : State). x.opened) w.state, (more (subst IsAsk (sym e) asking)).asks)) (udp_alike s (open_query s.opened who r.job c.ask (s.clock + wait_of_job r.job)) c.goes)
        (record { actions = out; action = w.action; out_is = refl; alone = inl w.out_is; sent = w.sent })
        (later s.clock (wait_of_job r.job) (job_for s.clock who.query) r.job (more (subst IsAsk (sym e) asking)) (some_wait_in (r.job).searches)) (ap (λ (x : State). x.generator) w.state, inl ((c.goes).sock, (c.goes).sock_is, (c.goes).path, (c.goes).id))
        (inr (came, (more (subst IsAsk (sym e) asking)).deadline))
    new_one (AskTcp server n t) e asking is c =
        let w = c.waits in
        waits (open_query s.opened who r.job c.ask (s.clock + 3000)) is w.queries (inr (refl, ap (λ (x : State). x.opened) w.state, (more (subst IsAsk (sym e) asking)).asks)) (tcp_alike s (open_query s.opened who r.job c.ask (s.clock + 3000)) s.tcp_asks (c.goes).path)
        (record { actions = out; action = w.action; out_is = refl; alone = inl w.out_is; sent = w.sent })
        (later s.clock 3000 (job_for s.clock who.query) r.job (more (subst IsAsk (sym e) asking)) (omega arith)) (ap (λ (x : State). x.generator) w.state, inr (s.tcp_asks, (c.goes).path, (c.goes).id))
        (inr (came, (more (subst IsAsk (sym e) asking)).deadline))
    new_one (Done chain last) e asking is c = absurd asking
    new_one (Fail cause) e asking is c = absurd asking

    by : IsOpened s who r.next r.job r.stores served out new → Fate s event served (Some out) new
    by (at_once is none c) = over r.next none is c
    by (crowded is asking many e) = own_reply s event served who _ r.stores out new is e
    by (admitted is asking few c) = new_one r.next refl asking is c

own_gives : (event : Event) (served : Served) (out : List Action) → served ≡ Own → GivesOne event Own out → (actions : List Action) → Some out ≡ Some actions → GivesOne event served actions
own_gives event served out is h actions e =
    let same : out ≡ actions = cc in
    subst (λ (v : Served). GivesOne event v actions) (sym is) (subst (GivesOne event Own) same h)

client_fate : (s : State) (now client : ℕ) (way : Via) (bytes : List ℕ) (served : Served) (out : List Action) (new : State) (asked : Request Plain) → AreBelow s → IsRequest bytes asked
    → IsHandled s client way asked served out new → Fate s (Client now client way bytes) served (Some out) new
client_fate s now client way bytes served out new request.Drop below reads (is, none, same) =
    passes (inr is) (own_gives (Client now client way bytes) served out is (inl (reads, none))) (unchanged s new below same) (ap (λ (x : State). x.opened) same) (inl (ap (λ (x : State). x.generator) same))
client_fate s now client way bytes served out new (request.Refuse refusal start echo) below reads (is, (action, refuses, only), same) =
    passes (inr is) (own_gives (Client now client way bytes) served out is (inr (action, ap is_reply refuses.2, only))) (unchanged s new below same) (ap (λ (x : State). x.opened) same) (inl (ap (λ (x : State). x.generator) same))
client_fate s now client way bytes served out new (request.Query q) below reads (inl (rd, h)) =
    passes (inr h.served_is) (own_gives (Client now client way bytes) served out h.served_is (inr (h.action, reply_is _ h.result h.action h.reply, h.out_is))) (unchanged s new below h.state)
    (ap (λ (x : State). x.opened) h.state) (inl (ap (λ (x : State). x.generator) h.state))
client_fate s now client way bytes served out new (request.Query q) below reads (inr (rd, h)) = opened_fate s (Client now client way bytes) served (record { client = client; way = way; query = q }) out new (now, record { client = client; way = way; query = q }, bytes, refl, reads) h

-- ---- other events

hears_fate : (s : State) (event : Event) (served : Served) (first out : List Action) (new : State) → ServesOpen s event served first new → IsBehind first out → Fate s event served (Some out) new
hears_fate s event served first out new h behind = serves_fate s event served h.query h.input first out new h.served_is h.serves behind

left_own : (s : State) (event : Event) (served : Served) (P : Stores → Type 0) (new : State) → served ≡ Own → IsLeft s s.opened P new → Fate s event served None new
left_own s event served P new is h = passes (inr is) (λ actions e. absurd (cc)) h.queries (ap (λ (x : State). x.opened) h.state) (left_word h.generator)
  where
    left_word : (new.generator ≡ s.generator) ⊎ (new.generator ≡ word_taken s.generator) → KeepsWords s None new
    left_word (inl e) = inl e
    left_word (inr e) = inr (refl, e)

left_open : (s : State) (event : Event) (served : Served) (q : Open) (P : Stores → Type 0) (new : State) → Contains s.queries q → served ≡ OpenQuery q.number → IsLeft s q.number P new → Fate s event served None new
left_open s event served q P new there is h = ends q there is h.queries (ap (λ (x : State). x.opened) h.state) (inl refl) (left_word h.generator)
  where
    left_word : (new.generator ≡ s.generator) ⊎ (new.generator ≡ word_taken s.generator) → KeepsWords s None new
    left_word (inl e) = inl e
    left_word (inr e) = inr (refl, e)

either_fate : (s : State) (event : Event) (served : Served) (out : List Action) (new : State) → AreBelow s → IsIgnored s event served out new ⊎ ServesOpen s event served out new → Fate s event served (Some out) new
either_fate s event served out new below (inl h) = ignored_fate s event served out new below h
either_fate s event served out new below (inr h) = hears_fate s event served out out new h (alone_behind out)

ticked_fate : (s : State) (now : ℕ) (served : Served) (out : List Action) (new : State) → AreBelow s → IsTicked s now served out new → Fate s (Tick now) served (Some out) new
ticked_fate s now served out new below (inl h) = ignored_fate s (Tick now) served out new below h
ticked_fate s now served out new below (inr (first, inl h, followed)) =
    let e = h.ends in
    ends h.query (h.due).stands h.served_is e.queries (ap (λ (x : State). x.opened) e.state)
    (inr (ended_reply s _ _ _ s.stores first out new e (followed_behind first out new followed))) (inl (ap (λ (x : State). x.generator) e.state))
ticked_fate s now served out new below (inr (first, inr h, followed)) = hears_fate s (Tick now) served first out new h (followed_behind first out new followed)

pub turn_fate : (s : State) (event : Event) (served : Served) (out : Option (List Action)) (new : State) → AreBelow s → IsTurn s event served out new → Fate s event served out new
turn_fate s (Client now client way bytes) served None new below h = left_own s _ served _ new h.0 h.1
turn_fate s (Datagram now sock from bytes) served None new below (q, there, is, meant, h) = left_open s _ served q _ new there is h
turn_fate s (TcpReply now number bytes) served None new below (q, there, is, meant, h) = left_open s _ served q _ new there is h
turn_fate s (TcpFailed now number) served None new below (q, there, is, meant, h) = left_open s _ served q _ new there is h
turn_fate s (Tick now) served None new below (q, there, is, meant, h) = left_open s _ served q _ new there is h
turn_fate s (Client now client way bytes) served (Some out) new below (asked, reads, h) = client_fate s now client way bytes served out new asked below reads h
turn_fate s (Datagram now sock from bytes) served (Some out) new below h = either_fate s _ served out new below h
turn_fate s (TcpReply now number bytes) served (Some out) new below h = either_fate s _ served out new below h
turn_fate s (TcpFailed now number) served (Some out) new below h = either_fate s _ served out new below h
turn_fate s (Tick now) served (Some out) new below h = ticked_fate s now served out new below h
