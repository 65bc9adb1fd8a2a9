-- From one call of a query's work to the step of the run that makes it.
use Rattle.std.proofs.Common.{◌≡◌, ℕ, ◌≤◌, ◌<◌, ◌⊎◌, false, inl, inr, Option, Some, List, [], ◌∷◌, ◌++◌, Contains, refl, sym, ap, ◌∙◌, subst, arith}
use Rattle.rdata.specs.declared.addr.Addr.{Addr}
use Rattle.zone.specs.Links.{Alias}
use Rattle.causes.specs.declared.cause.Cause.{Cause}
use Rattle.front.specs.declared.queries.Outcome.{Outcome}
use Rattle.message_grammar.specs.Messages.{Message}
use Rattle.message_grammar.proofs.Single.{message_one}
use Rattle.classify.specs.Classes as class
use Rattle.classify.specs.Classes.{class_of}
use Rattle.referral.specs.Cuts.{Cut}
use Rattle.frames.specs.Frames.{opened, taken_addresses}
use Rattle.resolution.specs.Jobs.{Stores, level_of, with_answer, with_frame, fails_now, next_server, IsCutOf, Search, Taken, received_link, Job, Input, Told, TimedOut, Next, AskUdp, AskTcp, Done, Fail}
use Rattle.resolution.specs.Jobs as jobs
use Rattle.runs.specs.States.{Event, Client, Datagram, TcpReply, TcpFailed, Tick, Action, MoreDue, Served, OpenQuery, Turn, Plain, via_of, Open, Site, State}
use Rattle.runs.specs.Messages.{IsSent, Brings}
use Rattle.runs.specs.Steps.{Ends, Comes, Serves, IsInput, ServesOpen, IsFollowed, IsTurn}
use Rattle.runs.proofs.Clocks.{clock_of_run}
use Rattle.laws.specs.Laws.{IsOnlyAction}
use Rattle.laws.proofs.Discipline.{open_by_run, fresh_number}
use Rattle.laws.proofs.Orders.{run_orderly}
use Rattle.laws.specs.Calls as call
use Rattle.laws.specs.Calls.{GoesOut, HasLink}
use Rattle.laws.specs.Steps.{Attends, at_moment, EndsInVain, Replies, IsSentByUdp, IsTcp, AsksServer, LostIsAskedOn, TruncatedIsAskedAgain, ReferralIsAsked, AnswerIsReplied, AliasIsKept}
use Rattle.laws.proofs.Calls.{next_is_asked, truncated_is_repeated}
use Rattle.laws.proofs.FollowedAnswered.{referral_is_followed, answer_is_used, alias_stays}
use Rattle.laws.proofs.FollowedStores.{comes_stores, low_run}

-- ---- whom a step serves

-- The step takes up this input for the query.
pub record TakesUp (site : Site) (s : State) (event : Event) (q : Open) (out : List Action) (new : State) : Type 0 where
  pub input : Input
  pub first : List Action
  pub brings : IsInput s event q input
  pub serves : Serves s q input first new
  pub behind : (action : Action) → first ≡ action ∷ [] → IsOnlyAction action out

heard_for : (site : Site) (s : State) (event : Event) (served : Served) (q : Open) (first out : List Action) (new : State)
    → ((p : Open) → Contains s.queries p → p.number ≡ q.number → p ≡ q) → served ≡ OpenQuery q.number → ServesOpen s event served first new
    → ((action : Action) → first ≡ action ∷ [] → IsOnlyAction action out) → TakesUp site s event q out new
heard_for site s event served q first out new one is h behind =
    let number : (h.query).number ≡ q.number = same_number (sym h.served_is ∙ is) in
    let same : h.query ≡ q = one h.query (h.serves).stands number in
    record {
      input = h.input;
      first = first;
      brings = subst (λ (x : Open). IsInput s event x h.input) same h.brings;
      serves = subst (λ (x : Open). Serves s x h.input first new) same h.serves;
      behind = behind;
    }
  where
    same_number : {k n : ℕ} → OpenQuery k ≡ OpenQuery n → k ≡ n
    same_number e = cc

takes_turn : (site : Site) (s : State) (event : Event) (served : Served) (q : Open) (out : List Action) (new : State)
    → ((p : Open) → Contains s.queries p → p.number ≡ q.number → p ≡ q) → q.number < s.opened → served ≡ OpenQuery q.number
    → IsTurn s event served (Some out) new → TakesUp site s event q out new ⊎ (((now : ℕ) × (event ≡ Tick now)) × ((q.job).deadline ≤ s.clock))
takes_turn site s (Client now client way bytes) served q out new one below is turn =
    let same = fresh_number s now client way bytes q.number (Some out) new (subst (λ (v : Served). IsTurn s (Client now client way bytes) v (Some out) new) is turn) in absurd (omega arith)
takes_turn site s (Datagram now sock from bytes) served q out new one below is (inl h) = let e = h.served_is in absurd (cc)
takes_turn site s (Datagram now sock from bytes) served q out new one below is (inr h) = inl (heard_for site s _ served q out out new one is h (λ action e. inl e))
takes_turn site s (TcpReply now number bytes) served q out new one below is (inl h) = let e = h.served_is in absurd (cc)
takes_turn site s (TcpReply now number bytes) served q out new one below is (inr h) = inl (heard_for site s _ served q out out new one is h (λ action e. inl e))
takes_turn site s (TcpFailed now number) served q out new one below is (inl h) = let e = h.served_is in absurd (cc)
takes_turn site s (TcpFailed now number) served q out new one below is (inr h) = inl (heard_for site s _ served q out out new one is h (λ action e. inl e))
takes_turn site s (Tick now) served q out new one below is (inl h) = let e = h.served_is in absurd (cc)
takes_turn site s (Tick now) served q out new one below is (inr (first, inr h, followed)) = inl (heard_for site s _ served q first out new one is h (behind followed))
  where
    behind : IsFollowed first out new → (action : Action) → first ≡ action ∷ [] → IsOnlyAction action out
    behind (inl (e, due)) action f = inr (e ∙ ap (λ (l : List Action). l ++ MoreDue ∷ []) f)
    behind (inr (e, none)) action f = inl (e ∙ f)
takes_turn site s (Tick now) served q out new one below is (inr (first, inl h, followed)) =
    let number : (h.query).number ≡ q.number = same_number (sym h.served_is ∙ is) in
    let same : h.query ≡ q = one h.query (h.due).stands number in
    inr ((now, refl), subst (λ (x : Open). (x.job).deadline ≤ s.clock) same h.late)
  where
    same_number : {k n : ℕ} → OpenQuery k ≡ OpenQuery n → k ≡ n
    same_number e = cc

module _ (site : Site) (past : List Turn) (old : State) (t : Turn) (out : List Action) (new : State) (q : Open) (sought : Search) (others : List Search)
    (a : Attends site past old t out new q sought others) where
  abbrev s : State
  s = at_moment old t

  pub here : s.site ≡ site
  here = (clock_of_run site past old a.legal).1

  pub taken_up : TakesUp site s t.event q out new ⊎ (((now : ℕ) × (t.event ≡ Tick now)) × ((q.job).deadline ≤ s.clock))
  taken_up = takes_turn site s t.event t.served q out new
      (λ p c e. (open_by_run site past old a.legal).one p q c a.there e) ((run_orderly site past old a.legal).below q a.there) a.served
      (subst (λ (o : Option (List Action)). IsTurn s t.event t.served o new) a.fed (a.step).turn)

  -- What the step brings is what the query's work is told.
  told_by : (m : Message) → Brings site.port q.ask t.event m → (first : List Action) × Serves s q (Told (via_of (q.ask).path) (q.ask).server m) first new × ((action : Action) → first ≡ action ∷ [] → IsOnlyAction action out)
  told_by m brings = by taken_up
    where
      port : (s.site).port ≡ site.port
      port = ap (λ (x : Site). x.port) here

      input_is : (event : Event) (input : Input) → Brings site.port q.ask event m → IsInput s event q input → input ≡ Told (via_of (q.ask).path) (q.ask).server m
      input_is (Client now client way bytes) input b i = absurd b
      input_is (Datagram now sock from bytes) input (path, to, is, answers) (n, (path_so, to_so, was, answers_so), e) = e ∙ ap (Told (via_of (q.ask).path) (q.ask).server) (message_one bytes n m was is)
      input_is (TcpReply now number bytes) input (path, is, answers) (inl (n, (path_so, was, answers_so), e)) = e ∙ ap (Told (via_of (q.ask).path) (q.ask).server) (message_one bytes n m was is)
      input_is (TcpReply now number bytes) input (path, is, answers) (inr (line, none, e)) = absurd (none m (path, is, answers))
      input_is (TcpFailed now number) input b i = absurd b
      input_is (Tick now) input b i = absurd b

      no_tick : (event : Event) (now : ℕ) → event ≡ Tick now → Brings site.port q.ask event m → ⊥
      no_tick event now e b = subst (λ (x : Event). Brings site.port q.ask x m) e b

      by : TakesUp site s t.event q out new ⊎ (((now : ℕ) × (t.event ≡ Tick now)) × ((q.job).deadline ≤ s.clock))
          → (first : List Action) × Serves s q (Told (via_of (q.ask).path) (q.ask).server m) first new × ((action : Action) → first ≡ action ∷ [] → IsOnlyAction action out)
      by (inl h) = (h.first, subst (λ (i : Input). Serves s q i h.first new) (input_is t.event h.input brings h.brings) h.serves, h.behind)
      by (inr ((now, tick), late)) = absurd (no_tick t.event now tick brings)

  hears_class : (c : class.Class) (m : Message) → class_of (sought.frame).zone sought.name sought.kind (via_of (q.ask).path) m ≡ c
      → call.AcceptsReply q.job (Told (via_of (q.ask).path) (q.ask).server m) sought others (q.ask).server c
  hears_class c m is = record { searches = a.searches; via = via_of (q.ask).path; message = m; told = refl; is_class = is }

  -- ---- what goes out

  replies : (o : Outcome Plain) (stores : Stores) (first : List Action) → ((action : Action) → first ≡ action ∷ [] → IsOnlyAction action out) → Ends s q.client_query q.number o stores first new → Replies q o out
  replies o stores first behind e = (e.action, e.reply, behind e.action e.out_is)

  pub sends_udp : (input : Input) (first : List Action) (server : Addr) (v : Serves s q input first new) → ((action : Action) → first ≡ action ∷ [] → IsOnlyAction action out)
      → GoesOut s.clock q.job (AskUdp server sought.name sought.kind) v.next → AsksServer IsSentByUdp site s q server sought out new
  sends_udp input first server v behind (inl (may, is)) =
      let c = subst (λ (k : Next). Comes s q.client_query q.number s.opened k v.job v.stores first new) is v.comes in
      let w = c.waits in
      inl (record {
        after = _;
        there = (w.queries).is;
        number = refl;
        for = c.for;
        path = ((c.goes).sock, (c.goes).path);
        action = w.action;
        sent = subst (λ (x : Site). IsSent x.port c.ask w.action) here w.sent;
        alone = behind w.action w.out_is;
      })
  sends_udp input first server v behind (inr (c, refused, is)) =
      inr (c, refused, replies _ v.stores first behind (subst (λ (k : Next). Comes s q.client_query q.number s.opened k v.job v.stores first new) is v.comes))

  pub sends_tcp : (input : Input) (first : List Action) (server : Addr) (v : Serves s q input first new) → ((action : Action) → first ≡ action ∷ [] → IsOnlyAction action out)
      → GoesOut s.clock q.job (AskTcp server sought.name sought.kind) v.next → AsksServer IsTcp site s q server sought out new
  sends_tcp input first server v behind (inl (may, is)) =
      let c = subst (λ (k : Next). Comes s q.client_query q.number s.opened k v.job v.stores first new) is v.comes in
      let w = c.waits in
      inl (record {
        after = _;
        there = (w.queries).is;
        number = refl;
        for = c.for;
        path = (s.tcp_asks, (c.goes).path);
        action = w.action;
        sent = subst (λ (x : Site). IsSent x.port c.ask w.action) here w.sent;
        alone = behind w.action w.out_is;
      })
  sends_tcp input first server v behind (inr (c, refused, is)) =
      inr (c, refused, replies _ v.stores first behind (subst (λ (k : Next). Comes s q.client_query q.number s.opened k v.job v.stores first new) is v.comes))

  -- ---- asks that ended in vain

  -- The stores are those of the call.
  stores_are : (input : Input) (first : List Action) (v : Serves s q input first new) → new.stores ≡ v.stores
  stores_are input first v = comes_stores s _ _ _ v.next v.job v.stores first new v.comes

  asks_on : (input : Input) (first : List Action) (server : Addr) → Serves s q input first new → ((action : Action) → first ≡ action ∷ [] → IsOnlyAction action out)
      → call.IsLost q.job input sought others → next_server s.clock (new.stores).failures sought ≡ Some server → AsksServer IsSentByUdp site s q server sought out new
  asks_on input first server v behind lost due =
      sends_udp input first server v behind (next_is_asked (s.site).home s.clock input q.job s.stores v.next v.job v.stores sought others server v.advances lost
      (subst (λ (x : Stores). next_server s.clock x.failures sought ≡ Some server) (stores_are input first v) due))

  lost_input : (event : Event) (input : Input) → IsInput s event q input → ((now : ℕ) × (event ≡ Tick now)) ⊎ (((now : ℕ) × (number : ℕ) × (event ≡ TcpFailed now number))
      ⊎ ((now : ℕ) × (number : ℕ) × (bytes : List ℕ) × (event ≡ TcpReply now number bytes) × ((m : Message) → Brings (s.site).port q.ask event m → ⊥)))
      → (input ≡ TimedOut (q.ask).server) ⊎ (input ≡ jobs.TcpFailed (q.ask).server)
  lost_input (Client now client way bytes) input i vain = absurd i
  lost_input (Datagram now sock from bytes) input i (inl (x, e)) = absurd (cc)
  lost_input (Datagram now sock from bytes) input i (inr (inl (x, n, e))) = absurd (cc)
  lost_input (Datagram now sock from bytes) input i (inr (inr (x, n, b, e, none))) = absurd (cc)
  lost_input (TcpReply now number bytes) input (inl (m, brings, e)) (inl (x, f)) = absurd (cc)
  lost_input (TcpReply now number bytes) input (inl (m, brings, e)) (inr (inl (x, n, f))) = absurd (cc)
  lost_input (TcpReply now number bytes) input (inl (m, brings, e)) (inr (inr (x, n, b, f, none))) = absurd (none m brings)
  lost_input (TcpReply now number bytes) input (inr (line, none, e)) vain = inr e
  lost_input (TcpFailed now number) input (line, e) vain = inr e
  lost_input (Tick now) input (due, early, e) vain = inl e

  lost_by : ((now : ℕ) × (t.event ≡ Tick now) × (s.clock < (q.job).deadline)) ⊎ (((now : ℕ) × (number : ℕ) × (t.event ≡ TcpFailed now number))
      ⊎ ((now : ℕ) × (number : ℕ) × (bytes : List ℕ) × (t.event ≡ TcpReply now number bytes) × ((m : Message) → Brings (s.site).port q.ask t.event m → ⊥)))
      → (input : Input) × (first : List Action) × Serves s q input first new × ((action : Action) → first ≡ action ∷ [] → IsOnlyAction action out) × call.IsLost q.job input sought others
  lost_by vain = by taken_up
    where
      plain : ((now : ℕ) × (t.event ≡ Tick now)) ⊎ (((now : ℕ) × (number : ℕ) × (t.event ≡ TcpFailed now number))
          ⊎ ((now : ℕ) × (number : ℕ) × (bytes : List ℕ) × (t.event ≡ TcpReply now number bytes) × ((m : Message) → Brings (s.site).port q.ask t.event m → ⊥)))
      plain = elim vain [ inl x ↦ inl (x.0, x.1) | inr x ↦ inr x ]

      not_late : (now : ℕ) → t.event ≡ Tick now → (q.job).deadline ≤ s.clock → ⊥
      not_late now tick late = elim vain [
        | inl x ↦ let early = x.2 in omega arith
        | inr x ↦ elim x [ inl y ↦ let e = y.2 in cc | inr y ↦ let e = y.3 in cc ]
      ]

      by : TakesUp site s t.event q out new ⊎ (((now : ℕ) × (t.event ≡ Tick now)) × ((q.job).deadline ≤ s.clock))
          → (input : Input) × (first : List Action) × Serves s q input first new × ((action : Action) → first ≡ action ∷ [] → IsOnlyAction action out) × call.IsLost q.job input sought others
      by (inl h) = (
        h.input,
        h.first,
        h.serves,
        h.behind,
        record {
          searches = a.searches;
          server = (q.ask).server;
          lost = elim (lost_input t.event h.input h.brings plain) [ inl e ↦ inl e | inr e ↦ inr (inl e) ];
        },
      )
      by (inr ((now, tick), late)) = absurd (not_late now tick late)

pub lost_is_asked_on : LostIsAskedOn
lost_is_asked_on site past old t new out q sought others server a vain due = by vain
  where
    on : ((now : ℕ) × (t.event ≡ Tick now) × ((at_moment old t).clock < (q.job).deadline)) ⊎ (((now : ℕ) × (number : ℕ) × (t.event ≡ TcpFailed now number))
        ⊎ ((now : ℕ) × (number : ℕ) × (bytes : List ℕ) × (t.event ≡ TcpReply now number bytes) × ((m : Message) → Brings ((at_moment old t).site).port q.ask t.event m → ⊥)))
        → AsksServer IsSentByUdp site (at_moment old t) q server sought out new
    on x = let (input, first, v, behind, lost) = lost_by site past old t out new q sought others a x in asks_on site past old t out new q sought others a input first server v behind lost due

    by : EndsInVain site (at_moment old t) t q sought → AsksServer IsSentByUdp site (at_moment old t) q server sought out new
    by (inl x) = on (inl x)
    by (inr (inl x)) = on (inr (inl x))
    by (inr (inr (inl (now, number, bytes, e, none)))) =
        let port : site.port ≡ ((at_moment old t).site).port = ap (λ (x : Site). x.port) (sym (here site past old t out new q sought others a)) in
        on (inr (inr (now, number, bytes, e, subst (λ (n : ℕ). (m : Message) → Brings n q.ask t.event m → ⊥) port none)))
    by (inr (inr (inr (f, x)))) =
        let (first, v, behind) = told_by site past old t out new q sought others a x.message x.brings in
        asks_on site past old t out new q sought others a (Told (via_of (q.ask).path) (q.ask).server x.message) first server v behind
        (record {
          searches = a.searches;
          server = (q.ask).server;
          lost = inr (inr (f, hears_class site past old t out new q sought others a (class.Failed f) x.message x.is_class));
        }) due

pub truncated_is_asked_again : TruncatedIsAskedAgain
truncated_is_asked_again site past old t new out q sought others a short =
    let (first, v, behind) = told_by site past old t out new q sought others a short.message short.brings in
    sends_tcp site past old t out new q sought others a _ first (q.ask).server v behind
    (truncated_is_repeated ((at_moment old t).site).home (at_moment old t).clock _ q.job (at_moment old t).stores v.next v.job v.stores sought others (q.ask).server v.advances
    (hears_class site past old t out new q sought others a class.Truncated short.message short.is_class))

pub answer_is_replied : AnswerIsReplied
answer_is_replied site past old t new out q sought l a answer ends fresh =
    let (first, v, behind) = told_by site past old t out new q sought [] a answer.message answer.brings in
    let s : State = at_moment old t in
    let is : v.next ≡ Done (q.job).chain (received_link sought.name l s.clock)
    = answer_is_used (s.site).home s.clock _ q.job s.stores v.next v.job v.stores sought (q.ask).server l v.advances (hears_class site past old t out new q sought [] a (class.Answer l) answer.message answer.is_class) ends fresh in
    replies site past old t out new q sought [] a _ v.stores first behind (subst (λ (k : Next). Comes s q.client_query q.number s.opened k v.job v.stores first new) is v.comes)

pub alias_is_kept : AliasIsKept
alias_is_kept site past old t new out q sought r a answer fresh = by (told_by site past old t out new q sought [] a answer.message answer.brings)
  where
    s : State
    s = at_moment old t

    l : Taken
    l = received_link sought.name (Alias r) s.clock

    kept : (v_next : Next) (job : Job) (stores : Stores) (first : List Action) → ((action : Action) → first ≡ action ∷ [] → IsOnlyAction action out) → Comes s q.client_query q.number s.opened v_next job stores first new
        → HasLink v_next job l ⊎ ((c : Cause) × (v_next ≡ Fail c))
        → ((after : Open) × Contains new.queries after × (after.number ≡ q.number) × Contains (after.job).chain l) ⊎ ((o : Outcome Plain) × Replies q o out)
    kept (AskUdp server n k) job stores first behind c (inl has) = inl (_, ((c.waits).queries).is, refl, has)
    kept (AskUdp server n k) job stores first behind c (inr (x, e)) = absurd (cc)
    kept (AskTcp server n k) job stores first behind c (inl has) = inl (_, ((c.waits).queries).is, refl, has)
    kept (AskTcp server n k) job stores first behind c (inr (x, e)) = absurd (cc)
    kept (Done chain last) job stores first behind c has = inr (_, replies site past old t out new q sought [] a _ stores first behind c)
    kept (Fail x) job stores first behind c has = inr (_, replies site past old t out new q sought [] a _ stores first behind c)

    by : (first : List Action) × Serves s q (Told (via_of (q.ask).path) (q.ask).server answer.message) first new × ((action : Action) → first ≡ action ∷ [] → IsOnlyAction action out)
        → ((after : Open) × Contains new.queries after × (after.number ≡ q.number) × Contains (after.job).chain l) ⊎ ((o : Outcome Plain) × Replies q o out)
    by (first, v, behind) = kept v.next v.job v.stores first behind v.comes
        (alias_stays (s.site).home s.clock (Told (via_of (q.ask).path) (q.ask).server answer.message) q.job s.stores v.next v.job v.stores sought (q.ask).server r v.advances
        (hears_class site past old t out new q sought [] a (class.Answer (Alias r)) answer.message answer.is_class) fresh)

pub referral_is_asked : ReferralIsAsked
referral_is_asked site past old t new out q sought others at ns glue ttl a referral = by (told_by site past old t out new q sought others a referral.message referral.brings)
  where
    s : State
    s = at_moment old t

    same : {first : List Action} (v : Serves s q (Told (via_of (q.ask).path) (q.ask).server referral.message) first new) → new.stores ≡ v.stores
    same {first} v = stores_are site past old t out new q sought others a (Told (via_of (q.ask).path) (q.ask).server referral.message) first v

    by : (first : List Action) × Serves s q (Told (via_of (q.ask).path) (q.ask).server referral.message) first new × ((action : Action) → first ≡ action ∷ [] → IsOnlyAction action out)
        → (c : Cut) × IsCutOf at ns glue c
        × ((d : Addr) → next_server s.clock (new.stores).failures (with_frame sought (opened (level_of (with_answer s.stores (q.ask).server)) (sought.frame).nesting c)) ≡ Some d → AsksServer IsSentByUdp site s q d sought out new)
        × ((b : Addr) → Contains (taken_addresses c) b → fails_now s.clock (new.stores).failures sought b ≡ false → (d : Addr) × Contains (taken_addresses c) d × AsksServer IsSentByUdp site s q d sought out new)
    by (first, v, behind) =
        let (c, is_cut, by_plan, by_taken) = referral_is_followed (s.site).home s.clock (Told (via_of (q.ask).path) (q.ask).server referral.message) q.job s.stores v.next v.job v.stores sought others (q.ask).server at ns glue ttl v.advances
        (hears_class site past old t out new q sought others a (class.Referral at ns glue ttl) referral.message referral.is_class) in (
          c,
          is_cut,
          (λ d due. sends_udp site past old t out new q sought others a (Told (via_of (q.ask).path) (q.ask).server referral.message) first d v behind
              (by_plan d (subst (λ (x : Stores). next_server s.clock x.failures (with_frame sought (opened (level_of (with_answer s.stores (q.ask).server)) (sought.frame).nesting c)) ≡ Some d) (same v) due)).1),
          (λ b taken free. let (d, among, goes) = by_taken (low_run site past old a.legal) b taken (subst (λ (x : Stores). fails_now s.clock x.failures sought b ≡ false) (same v) free) in
              (d, among, sends_udp site past old t out new q sought others a (Told (via_of (q.ask).path) (q.ask).server referral.message) first d v behind goes)),
        )
