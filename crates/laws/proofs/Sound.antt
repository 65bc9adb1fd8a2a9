-- What is true of a run's stores and open queries stays true in each step, and so its replies are right.
use Rattle.std.proofs.Common.{◌≡◌, ◌≢◌, ℕ, ◌+◌, ◌<◌, Option, Some, None, List, [], ◌∷◌, inl, inr, refl, sym, ◌∙◌, ap, subst, arith}
use Rattle.std.specs.Prelude.{Contains}
use Rattle.dname.specs.Labels.{Name}
use Rattle.rdata.specs.Types.{type_number}
use Rattle.rdata.specs.declared.addr.Addr.{Addr}
use Rattle.message_grammar.specs.Messages.{Message, folded_question}
use Rattle.causes.specs.declared.cause.Cause.{Cause}
use Rattle.causes.specs.declared.cause.Cause.TheVariants as cause
use Rattle.wire.specs.declared.via.Via.{Via}
use Rattle.front.specs.Queries.{IsRequest}
use Rattle.front.specs.Laws.{question_of}
use Rattle.front.proofs.Echoes.{echo_is_question}
use Rattle.front.proofs.Single.{asked_once}
use Rattle.front.specs.Openings.{Opening}
use Rattle.front.specs.declared.queries.Refusal.{Refusal}
use Rattle.message_grammar.specs.Messages as wire
use Rattle.front.specs.declared.queries.Query.{Query}
use Rattle.front.specs.declared.queries.Request.{Request}
use Rattle.front.specs.declared.queries.Request.TheVariants as request
use Rattle.front.specs.declared.queries.Outcome.{Outcome}
use Rattle.front.specs.declared.queries.Outcome.TheVariants as outcome
use Rattle.world_truth.specs.Worlds.{World, IsWorld}
use Rattle.world_truth.specs.Serving.{MayServe}
use Rattle.world_truth.specs.Frames.{MayAsk}
use Rattle.front.specs.Replies.{reply_of}
use Rattle.resolution.specs.Jobs.{wait_of_job, Stores, Job, bytes_of, Input, Start, Next, AskUdp, AskTcp, Done, Fail}
use Rattle.resolution.specs.Stops.{Stops}
use Rattle.resolution.proofs.Keeping.{stops_bring}
use Rattle.runs.specs.States.{Event, Client, Datagram, TcpReply, TcpFailed, Tick, Action, Reply, MoreDue, Served, Nobody, Own, OpenQuery, Turn, Plain, ClientQuery, client_query, recursive, job_for, Ask, IsFor, Open, open_query, Site, State}
use Rattle.runs.specs.Messages.{AreWritten, IsSent, Brings, outcome_of, IsRefusal}
use Rattle.runs.specs.Steps.{AreOthers, Ends, Waits, Comes, IsAsk, IsOpened, at_once, crowded, admitted, Resolves, IsHandled, IsInput, IsIgnored, ServesOpen, IsLate, IsFollowed, IsTicked, IsLeft, IsTurn}
use Rattle.runs.specs.Runs.{Earlier, GivesOut, Accepts, Came}
use Rattle.runs.specs.Replies.{IsServedFor}
use Rattle.laws.specs.Headline.{IsHomeIn, IsRightReply, IsRightAnswer, RepliesAreRight}
use Rattle.laws.specs.Truthful.{AreTrueStores, IsTrueJob, AsksTruly, IsTrueOpen, HoldsTruth}
use Rattle.laws.proofs.Actions.{IsNoClient, IsNoQuery, false_not_true, more_is_no_reply, no_action, no_reply_sent, nobody_not_query, one_query, only_action, own_not_query, reply_parts, there}
use Rattle.laws.proofs.RightLists.{front_in, both_cases, only_one}
use Rattle.laws.proofs.RightPoints.{IsTrueInput, IsTold, IsTrueNext, advances_true, stops_true}
use Rattle.laws.proofs.Replies.{fail_right, chain_right}

module _ (W : World) (w : IsWorld W) (site : Site) (ours : IsHomeIn W site.home) (t : Turn) (past : List Turn) (s : State) (at : s.site ≡ site) (sound : HoldsTruth W site.port past s)
    (honest : (k : ℕ) (a : Ask) (m : Message) → Accepts site.port k a m t past → MayServe W (a.server).0 a.name a.kind m) where
  -- No query but k is served.
  abbrev Only : ℕ → Type 0
  Only k = (n : ℕ) → n ≢ k → t.served ≢ OpenQuery n

  only_query : (k : ℕ) → t.served ≡ OpenQuery k → Only k
  only_query k is n other e = other (one_query n k (sym e ∙ is))

  only_own : (k : ℕ) → t.served ≡ Own → Only k
  only_own k is n other e = own_not_query n (sym is ∙ e)

  goes_on : (q : Open) → Contains s.queries q → t.served ≢ OpenQuery q.number → IsTrueOpen W site.port (t ∷ past) q
  goes_on q m other =
      let h = sound.queries q m in
      record { echo = h.echo; came = inr h.came; only = λ who came. only_then who h.only came; job = h.job; ask = inr (other, h.ask); asks = h.asks }
    where
      only_then : (who : ClientQuery) → ((x : ClientQuery) → Earlier (Came (OpenQuery q.number) x) past → x ≡ q.client_query) → Earlier (Came (OpenQuery q.number) who) (t ∷ past) → who ≡ q.client_query
      only_then who before (inl now) = absurd (other now.is_served)
      only_then who before (inr old) = before who old

  -- No query is opened.
  abbrev NoneCame : Type 0
  NoneCame = (k : ℕ) (who : ClientQuery) → Came (OpenQuery k) who t past → ⊥

  numbers_stay : (new : State) → new.opened ≡ s.opened → NoneCame → (k : ℕ) (who : ClientQuery) → Earlier (Came (OpenQuery k) who) (t ∷ past) → k < new.opened
  numbers_stay new is none k who (inl now) = absurd (none k who now)
  numbers_stay new is none k who (inr old) = subst (λ (n : ℕ). k < n) (sym is) (sound.numbers k who old)

  own_none : t.served ≡ Own → NoneCame
  own_none is k who now = own_not_query k (sym is ∙ now.is_served)

  nobody_none : t.served ≡ Nobody → NoneCame
  nobody_none is k who now = nobody_not_query k (sym is ∙ now.is_served)

  -- Where nothing changed.
  same_sound : (new : State) → new ≡ s → ((n : ℕ) → t.served ≢ OpenQuery n) → HoldsTruth W site.port (t ∷ past) new
  same_sound new is none = subst (HoldsTruth W site.port (t ∷ past)) (sym is) (record {
    stores = sound.stores;
    queries = λ q m. goes_on q m (none q.number);
    numbers = numbers_stay s refl (λ k who now. none k now.is_served);
  })

  others_sound : (k : ℕ) (new : State) → Only k → AreOthers k s.queries new.queries → (q : Open) → Contains new.queries q → IsTrueOpen W site.port (t ∷ past) q
  others_sound k new only others q m = let (old, other) = others.only q m in goes_on q old (only q.number other)

  ends_sound : (who : ClientQuery) (k : ℕ) (o : Outcome Plain) (stores : Stores) (out : List Action) (new : State) → Only k → NoneCame → AreTrueStores W stores → Ends s who k o stores out new
      → HoldsTruth W site.port (t ∷ past) new
  ends_sound who k o stores out new only none all ends = record {
    stores = subst (AreTrueStores W) (sym (ap (λ (x : State). x.stores) ends.state)) all;
    queries = others_sound k new only ends.queries;
    numbers = numbers_stay new (ap (λ (x : State). x.opened) ends.state) none;
  }

  -- What is so of the number of a query that waits: it was opened by this client, before or now.
  pub record IsNumbered (who : ClientQuery) (k opened : ℕ) : Type 0 where
    pub served : t.served ≡ OpenQuery k
    pub came : Earlier (Came (OpenQuery k) who) (t ∷ past)
    pub only : (other : ClientQuery) → Earlier (Came (OpenQuery k) other) (t ∷ past) → other ≡ who
    pub numbers : (n : ℕ) (other : ClientQuery) → Earlier (Came (OpenQuery n) other) (t ∷ past) → n < opened

  waits_sound : (who : ClientQuery) (k opened asked due : ℕ) (job : Job) (ask : Ask) (server : Addr) (n : Name) (u : ℕ) (stores : Stores) (out : List Action) (new : State)
      → IsNumbered who k opened → ((a : Action) → Contains out a → GivesOut t.out a)
      → folded_question (who.query).echo ≡ question_of who.query → AsksTruly W server n u job
      → IsTrueJob W (who.query).name (type_number (who.query).kind) job → AreTrueStores W stores → IsFor server n u ask
      → Waits s (open_query k who job ask due) opened asked stores out new → HoldsTruth W site.port (t ∷ past) new
  waits_sound who k opened asked due job ask server n u stores out new number out_in echo asks true_job all for waits = record {
    stores = subst (AreTrueStores W) (sym (ap (λ (x : State). x.stores) waits.state)) all;
    queries = λ q m. elim ((waits.queries).only q m) as (λ x. IsTrueOpen W site.port (t ∷ past) q) [
      | inl same ↦ subst (IsTrueOpen W site.port (t ∷ past)) (sym same) here
      | inr other ↦ goes_on q other.0 (only_query k number.served q.number other.1)
    ];
    numbers = λ m other came. subst (λ (x : ℕ). m < x) (sym (ap (λ (x : State). x.opened) waits.state)) (number.numbers m other came);
  }
    where
      here : IsTrueOpen W site.port (t ∷ past) (open_query k who job ask due)
      here = record {
        echo = echo;
        came = number.came;
        only = number.only;
        job = true_job;
        ask = inl (number.served, (waits.action, out_in waits.action (there out waits.action waits.out_is), subst (λ (x : Site). IsSent x.port ask waits.action) at waits.sent));
        asks = record {
          search = asks.search;
          rest = asks.rest;
          searches = asks.searches;
          name = for.name ∙ asks.name;
          kind = for.kind ∙ asks.kind;
          may = subst (λ (x : Addr). MayAsk W (bytes_of x) ((asks.search).frame).zone (asks.search).name) (sym for.server) asks.may;
        };
      }

  comes_sound : (who : ClientQuery) (k opened : ℕ) (next : Next) (job : Job) (stores : Stores) (out : List Action) (new : State) → Only k → (IsAsk next → IsNumbered who k opened)
      → ((IsAsk next → ⊥) → NoneCame) → ((a : Action) → Contains out a → GivesOut t.out a) → folded_question (who.query).echo ≡ question_of who.query
      → IsTrueNext W (who.query).name (type_number (who.query).kind) next job → AreTrueStores W stores → Comes s who k opened next job stores out new → HoldsTruth W site.port (t ∷ past) new
  comes_sound who k opened (AskUdp server n u) job stores out new only number none out_in echo (asks, true_job) all h =
      waits_sound who k opened s.tcp_asks (s.clock + wait_of_job job) job h.ask server n u stores out new (number tt) out_in echo asks true_job all h.for h.waits
  comes_sound who k opened (AskTcp server n u) job stores out new only number none out_in echo (asks, true_job) all h =
      waits_sound who k opened (s.tcp_asks + 1) (s.clock + 3000) job h.ask server n u stores out new (number tt) out_in echo asks true_job all h.for h.waits
  comes_sound who k opened (Done chain last) job stores out new only number none out_in echo ends all h = ends_sound who k _ stores out new only (none (λ a. a)) all h
  comes_sound who k opened (Fail c) job stores out new only number none out_in echo ends all h = ends_sound who k _ stores out new only (none (λ a. a)) all h

  -- ---- replies

  -- A reply to this client that is right for its query.
  abbrev IsRightTo : ClientQuery → ℕ → Via → List ℕ → Type 0
  IsRightTo who client way bytes = (who.client ≡ client) × (who.way ≡ way) × IsRightReply W who.way (who.query).name (type_number (who.query).kind) bytes

  ends_right : (who : ClientQuery) (k : ℕ) (o : Outcome Plain) (stores : Stores) (out : List Action) (new : State)
      → ((bytes : List ℕ) → AreWritten bytes (reply_of who.way who.query o).0 → IsRightReply W who.way (who.query).name (type_number (who.query).kind) bytes)
      → Ends s who k o stores out new → (client : ℕ) (way : Via) (bytes : List ℕ) (c : Option Cause) → Contains out (Reply client way bytes c) → IsRightTo who client way bytes
  ends_right who k o stores out new right ends client way bytes c m =
      let (written, are, is) = ends.reply in
      let (one, two, three) = reply_parts (sym is ∙ only_action out ends.action (Reply client way bytes c) ends.out_is m) in
      (one, two, subst (IsRightReply W who.way (who.query).name (type_number (who.query).kind)) three (right written are))

  fail_ends : (who : ClientQuery) (k : ℕ) (why : Cause) (stores : Stores) (out : List Action) (new : State) → folded_question (who.query).echo ≡ question_of who.query
      → Ends s who k (outcome.Fail why) stores out new → (client : ℕ) (way : Via) (bytes : List ℕ) (c : Option Cause) → Contains out (Reply client way bytes c) → IsRightTo who client way bytes
  fail_ends who k why stores out new echo ends = ends_right who k (outcome.Fail why) stores out new (λ bytes written. inl (fail_right W who.query echo who.way why bytes written)) ends

  comes_right : (who : ClientQuery) (k opened : ℕ) (next : Next) (job : Job) (stores : Stores) (out : List Action) (new : State) → folded_question (who.query).echo ≡ question_of who.query
      → IsTrueNext W (who.query).name (type_number (who.query).kind) next job → Comes s who k opened next job stores out new
      → (client : ℕ) (way : Via) (bytes : List ℕ) (c : Option Cause) → Contains out (Reply client way bytes c) → (IsAsk next → ⊥) × IsRightTo who client way bytes
  comes_right who k opened (AskUdp server n u) job stores out new echo is h client way bytes c m =
      let (sent, are, sending_is) = (h.waits).sent in
      no_reply_sent (s.site).port h.ask (h.ask).path bytes sent client way c (sym sending_is ∙ only_action out (h.waits).action (Reply client way bytes c) (h.waits).out_is m)
  comes_right who k opened (AskTcp server n u) job stores out new echo is h client way bytes c m =
      let (sent, are, sending_is) = (h.waits).sent in
      no_reply_sent (s.site).port h.ask (h.ask).path bytes sent client way c (sym sending_is ∙ only_action out (h.waits).action (Reply client way bytes c) (h.waits).out_is m)
  comes_right who k opened (Done chain last) job stores out new echo is h client way bytes c m =
      (λ none. none, ends_right who k (outcome_of s.clock chain last) stores out new (λ b written. chain_right W who.query echo s.clock chain last is who.way b written) h client way bytes c m)
  comes_right who k opened (Fail why) job stores out new echo is h client way bytes c m = (λ none. none, fail_ends who k why stores out new echo h client way bytes c m)

  -- ---- an open query that is served

  brought : (q : Open) (m : Message) → Contains s.queries q → t.served ≡ OpenQuery q.number → Brings (s.site).port q.ask t.event m → IsTold W (q.ask).server m (q.job).searches
  brought q m stands served brings =
      let h = sound.queries q stands in
      let serve = honest q.number q.ask m (record { served = served; ask = h.ask; brings = subst (λ (x : Site). Brings x.port q.ask t.event m) at brings }) in
      let asks = h.asks in
      subst (IsTold W (q.ask).server m) (sym asks.searches)
      (asks.may, subst (λ (x : Name × ℕ). MayServe W (bytes_of (q.ask).server) x.0 x.1 m) (λ i. (asks.name i, asks.kind i)) serve)

  told_true : (q : Open) (event : Event) (input : Input) → t.event ≡ event → Contains s.queries q → t.served ≡ OpenQuery q.number → IsInput s event q input → IsTrueInput W q.job input
  told_true q (Client now client way bytes) input is stands served none = absurd none
  told_true q (Datagram now sock from bytes) input is stands served (m, brings, e) =
      subst (IsTrueInput W q.job) (sym e) (brought q m stands served (subst (λ (x : Event). Brings (s.site).port q.ask x m) (sym is) brings))
  told_true q (TcpReply now number bytes) input is stands served (inl (m, brings, e)) =
      subst (IsTrueInput W q.job) (sym e) (brought q m stands served (subst (λ (x : Event). Brings (s.site).port q.ask x m) (sym is) brings))
  told_true q (TcpReply now number bytes) input is stands served (inr (of, unfit, e)) = subst (IsTrueInput W q.job) (sym e) tt
  told_true q (TcpFailed now number) input is stands served (of, e) = subst (IsTrueInput W q.job) (sym e) tt
  told_true q (Tick now) input is stands served (first, early, e) = subst (IsTrueInput W q.job) (sym e) tt

  home_here : IsHomeIn W (s.site).home
  home_here = subst (λ (x : Site). IsHomeIn W x.home) (sym at) ours

  -- What a step makes: a sound state, and right replies.
  abbrev IsFine : List Action → State → Type 0
  IsFine out new = HoldsTruth W site.port (t ∷ past) new
      × ((client : ℕ) (way : Via) (bytes : List ℕ) (c : Option Cause) → Contains out (Reply client way bytes c) → IsRightAnswer W t past client way bytes c)

  -- A reply that is right for the one query that the step serves.
  answer_for : (who : ClientQuery) (client : ℕ) (way : Via) (bytes : List ℕ) (c : Option Cause) → IsServedFor who t past → ((other : ClientQuery) → IsServedFor other t past → other ≡ who)
      → IsRightTo who client way bytes → IsRightAnswer W t past client way bytes c
  answer_for who client way bytes c serves only (one, two, right) = record {
    to = inr (who, one, two, serves);
    right = λ other served rd. subst (λ (x : ClientQuery). IsRightReply W x.way (x.query).name (type_number (x.query).kind) bytes) (sym (only other served)) right;
  }

  -- The query of an open one that is served.
  one_served : (q : Open) → Contains s.queries q → t.served ≡ OpenQuery q.number → (other : ClientQuery) → IsServedFor other t past → other ≡ q.client_query
  one_served q stands served other (inl own) = own_not_query q.number (sym own.is_served ∙ served)
  one_served q stands served other (inr (k, is, came)) =
      let same : k ≡ q.number = one_query k q.number (sym is ∙ served) in
      (sound.queries q stands).only other (subst (λ (n : ℕ). Earlier (Came (OpenQuery n) other) past) same came)

  -- An event that an open query is served by is no client's.
  no_client : (event : Event) → IsNoClient event → t.event ≡ event → NoneCame
  no_client event other is k who came = subst IsNoClient (sym is ∙ came.event) other

  input_no_client : (q : Open) (event : Event) (input : Input) → IsInput s event q input → IsNoClient event
  input_no_client q (Client now client way bytes) input none = none
  input_no_client q (Datagram now sock from bytes) input brings = tt
  input_no_client q (TcpReply now number bytes) input brings = tt
  input_no_client q (TcpFailed now number) input brings = tt
  input_no_client q (Tick now) input brings = tt

  still_numbered : (q : Open) → Contains s.queries q → t.served ≡ OpenQuery q.number → NoneCame → IsNumbered q.client_query q.number s.opened
  still_numbered q stands served none =
      let h = sound.queries q stands in
      record { served = served; came = inr h.came; only = λ other e. only_then other h.only e; numbers = numbers_stay s refl none }
    where
      only_then : (other : ClientQuery) → ((x : ClientQuery) → Earlier (Came (OpenQuery q.number) x) past → x ≡ q.client_query) → Earlier (Came (OpenQuery q.number) other) (t ∷ past) → other ≡ q.client_query
      only_then other before (inl now) = absurd (none q.number other now)
      only_then other before (inr old) = before other old

  hears_fine : (event : Event) (out : List Action) (new : State) → t.event ≡ event → ((a : Action) → Contains out a → GivesOut t.out a) → ServesOpen s event t.served out new → IsFine out new
  hears_fine event out new is out_in h =
      let q = h.query in
      let served = h.served_is in
      let stands = (h.serves).stands in
      let open_true = sound.queries q stands in
      let none = no_client event (input_no_client q event h.input h.brings) is in
      let told = told_true q event h.input is stands served h.brings in
      let both = advances_true W w (s.site).home home_here s.clock ((q.client_query).query).name (type_number ((q.client_query).query).kind) h.input q.job s.stores (h.serves).next (h.serves).job (h.serves).stores
      told open_true.job sound.stores (h.serves).advances in (
        comes_sound q.client_query q.number s.opened (h.serves).next (h.serves).job (h.serves).stores out new (only_query q.number served) (λ asks. still_numbered q stands served none)
            (λ over. none) out_in open_true.echo both.0 both.1 (h.serves).comes,
        λ client way bytes c m. answer_for q.client_query client way bytes c (inr (q.number, served, open_true.came)) (one_served q stands served)
            (comes_right q.client_query q.number s.opened (h.serves).next (h.serves).job (h.serves).stores out new open_true.echo both.0 (h.serves).comes client way bytes c m).1,
      )

  late_fine : (now : ℕ) (out : List Action) (new : State) → t.event ≡ Tick now → IsLate s t.served out new → IsFine out new
  late_fine now out new is h =
      let q = h.query in
      let open_true = sound.queries q (h.due).stands in (
        ends_sound q.client_query q.number _ s.stores out new (only_query q.number h.served_is) (no_client (Tick now) tt is) sound.stores h.ends,
        λ client way bytes c m. answer_for q.client_query client way bytes c (inr (q.number, h.served_is, open_true.came)) (one_served q (h.due).stands h.served_is)
            (fail_ends q.client_query q.number cause.DeadlineOver s.stores out new open_true.echo h.ends client way bytes c m),
      )

  ignored_fine : (event : Event) (out : List Action) (new : State) → IsIgnored s event t.served out new → IsFine out new
  ignored_fine event out new h = (
    same_sound new h.state (λ n e. nobody_not_query n (sym h.served_is ∙ e)),
    λ client way bytes c m. no_action out (Reply client way bytes c) h.out_is m,
  )

  -- ---- a client's query

  -- What a client's bytes ask is one thing, and so one query at most comes in a step.
  module _ (now client : ℕ) (way : Via) (bytes : List ℕ) (event : t.event ≡ Client now client way bytes) where
    client_parts : {m c : ℕ} {v : Via} {b : List ℕ} → Client now client way bytes ≡ Client m c v b → (client ≡ c) × (way ≡ v) × (bytes ≡ b)
    client_parts e = (cc, cc, cc)

    one_asked : (x y : Query Plain) → request.Query x ≡ request.Query y → x ≡ y
    one_asked x y e = cc

    one_came : (served : Served) (q : Query Plain) (other : ClientQuery) → IsRequest {A = Plain} bytes (request.Query q) → Came served other t past → other ≡ client_query client way q
    one_came served q other reads came =
        let (one, two, three) = client_parts (sym event ∙ came.event) in
        let there = subst (λ (b : List ℕ). IsRequest {A = Plain} b (request.Query other.query)) (sym three) came.reads in
        let same = one_asked other.query q (asked_once bytes (request.Query other.query) (request.Query q) there reads) in
        λ i. record { client = sym one i; way = sym two i; query = same i }

    no_query : (refusal : Refusal) (start : Opening) (echo : Option wire.Question) (other : ClientQuery) (served : Served) → IsRequest {A = Plain} bytes (request.Refuse refusal start echo) → Came served other t past → ⊥
    no_query refusal start echo other served reads came =
        let (one, two, three) = client_parts (sym event ∙ came.event) in
        let there = subst (λ (b : List ℕ). IsRequest {A = Plain} b (request.Query other.query)) (sym three) came.reads in
        subst IsNoQuery (asked_once bytes (request.Refuse refusal start echo) (request.Query other.query) reads there) tt

    own_served : (q : Query Plain) → IsRequest {A = Plain} bytes (request.Query q) → t.served ≡ Own → (other : ClientQuery) → IsServedFor other t past → other ≡ client_query client way q
    own_served q reads served other (inl own) = one_came Own q other reads own
    own_served q reads served other (inr (k, is, came)) = own_not_query k (sym served ∙ is)

    resolved_fine : (q : Query Plain) (out : List Action) (new : State) → IsRequest {A = Plain} bytes (request.Query q) → ((a : Action) → Contains out a → GivesOut t.out a)
        → Resolves s (client_query client way q) t.served out new → IsFine out new
    resolved_fine q out new reads out_in h = by h.opened
      where
        who : ClientQuery
        who = client_query client way q

        echo : folded_question q.echo ≡ question_of q
        echo = (echo_is_question bytes q reads).echo

        came : (k : Served) → t.served ≡ k → Came k (client_query client way q) t past
        came k served = record { is_served = served; moment = now; bytes = bytes; event = event; reads = reads }

        start : IsTrueJob W q.name (type_number q.kind) (job_for s.clock q)
        start = record { kind = refl; leads = refl; few = omega arith; searches = tt }

        both : IsTrueNext W q.name (type_number q.kind) h.next h.job × AreTrueStores W h.stores
        both = advances_true W w (s.site).home home_here s.clock q.name (type_number q.kind) Start (job_for s.clock q) s.stores h.next h.job h.stores refl start sound.stores h.advances

        fresh : t.served ≡ OpenQuery s.opened → (other : ClientQuery) → Earlier (Came (OpenQuery s.opened) other) (t ∷ past) → other ≡ client_query client way q
        fresh served other (inl here) = one_came (OpenQuery s.opened) q other reads here
        fresh served other (inr old) = let less = sound.numbers s.opened other old in absurd (omega (arith, less))

        counted : t.served ≡ OpenQuery s.opened → (n : ℕ) (other : ClientQuery) → Earlier (Came (OpenQuery n) other) (t ∷ past) → n < s.opened + 1
        counted served n other (inl here) = let same : s.opened ≡ n = one_query s.opened n (sym served ∙ here.is_served) in omega (arith, same)
        counted served n other (inr old) = let less = sound.numbers n other old in omega (arith, less)

        numbered : t.served ≡ OpenQuery s.opened → IsNumbered (client_query client way q) s.opened (s.opened + 1)
        numbered served = record { served = served; came = inl (came (OpenQuery s.opened) served); only = fresh served; numbers = counted served }

        by : IsOpened s (client_query client way q) h.next h.job h.stores t.served out new → IsFine out new
        by (at_once served over comes) = (
          comes_sound (client_query client way q) s.opened s.opened h.next h.job h.stores out new (only_own s.opened served) (λ asks. absurd (over asks)) (λ none. own_none served) out_in echo both.0 both.1 comes,
          λ c v b x m. answer_for (client_query client way q) c v b x (inl (came Own served)) (own_served q reads served)
              (comes_right (client_query client way q) s.opened s.opened h.next h.job h.stores out new echo both.0 comes c v b x m).1,
        )
        by (crowded served asks many ends) = (
          ends_sound (client_query client way q) s.opened _ h.stores out new (only_own s.opened served) (own_none served) both.1 ends,
          λ c v b x m. answer_for (client_query client way q) c v b x (inl (came Own served)) (own_served q reads served)
              (fail_ends (client_query client way q) s.opened cause.TooManyOpen h.stores out new echo ends c v b x m),
        )
        by (admitted served asks few comes) = (
          comes_sound (client_query client way q) s.opened (s.opened + 1) h.next h.job h.stores out new (only_query s.opened served) (λ a. numbered served) (λ over. absurd (over asks)) out_in echo both.0 both.1 comes,
          λ c v b x m. absurd ((comes_right (client_query client way q) s.opened (s.opened + 1) h.next h.job h.stores out new echo both.0 comes c v b x m).0 asks),
        )

  -- Out of memory.
  left_sound : (k : ℕ) (IsOnTheWay : Stores → Type 0) (new : State) → Only k → NoneCame → ((stores : Stores) → IsOnTheWay stores → AreTrueStores W stores) → IsLeft s k IsOnTheWay new → HoldsTruth W site.port (t ∷ past) new
  left_sound k IsOnTheWay new only none way h = record {
    stores = elim h.stores as (λ x. AreTrueStores W new.stores) [ inl same ↦ subst (AreTrueStores W) (sym same) sound.stores | inr on ↦ way new.stores on ];
    queries = others_sound k new only h.queries;
    numbers = numbers_stay new (ap (λ (x : State). x.opened) h.state) none;
  }

  meant_sound : (event : Event) (q : Open) (new : State) → t.event ≡ event → IsNoClient event → Contains s.queries q → t.served ≡ OpenQuery q.number
      → IsLeft s q.number (λ stores. (input : Input) × IsInput s event q input × Stops (s.site).home s.clock input q.job s.stores stores) new → HoldsTruth W site.port (t ∷ past) new
  meant_sound event q new is other stands served left = left_sound q.number _ new (only_query q.number served) (no_client event other is)
      (λ stores on. stops_true W w (s.site).home home_here s.clock on.0 q.job s.stores stores (told_true q event on.0 is stands served on.1) sound.stores (stops_bring _ _ _ _ _ _ on.2)) left

  -- What the start of the work on a query leaves.
  start_stops : (q : Query Plain) (stores : Stores) → Stops (s.site).home s.clock Start (job_for s.clock q) s.stores stores → AreTrueStores W stores
  start_stops q stores stops = stops_true W w (s.site).home home_here s.clock Start (job_for s.clock q) s.stores stores refl sound.stores (stops_bring _ _ _ _ _ _ stops)

  -- ---- the step

  abbrev IsDone : State → Type 0
  IsDone new = HoldsTruth W site.port (t ∷ past) new × RepliesAreRight W t past

  fine_done : (out : List Action) (new : State) → t.out ≡ Some out → IsFine out new → IsDone new
  fine_done out new is fine = (fine.0, λ client way bytes c gives. fine.1 client way bytes c (subst (λ (o : Option (List Action)). GivesOut o (Reply client way bytes c)) is gives))

  in_out : (out : List Action) → t.out ≡ Some out → (a : Action) → Contains out a → GivesOut t.out a
  in_out out is a m = subst (λ (o : Option (List Action)). GivesOut o a) (sym is) m

  starved_done : (new : State) → t.out ≡ None → HoldsTruth W site.port (t ∷ past) new → IsDone new
  starved_done new is h = (h, λ client way bytes c gives. absurd (subst (λ (o : Option (List Action)). GivesOut o (Reply client way bytes c)) is gives))

  handled_done : (now client : ℕ) (way : Via) (bytes : List ℕ) (asked : Request Plain) (out : List Action) (new : State) → t.event ≡ Client now client way bytes → t.out ≡ Some out
      → IsRequest {A = Plain} bytes asked → IsHandled s client way asked t.served out new → IsDone new
  handled_done now client way bytes request.Drop out new event is reads (served, none, same) = fine_done out new is (
    same_sound new same (λ n e. own_not_query n (sym served ∙ e)),
    λ c v b x m. no_action out (Reply c v b x) none m,
  )
  handled_done now client way bytes (request.Refuse refusal start echo) out new event is reads (served, (action, refused, only), same) = (
    same_sound new same (λ n e. own_not_query n (sym served ∙ e)),
    λ c v b x gives.
        let m = subst (λ (o : Option (List Action)). GivesOut o (Reply c v b x)) is gives in
        record {
          to = inl (record {
            moment = now;
            client = client;
            way = way;
            bytes = bytes;
            refusal = refusal;
            start = start;
            echo = echo;
            event = event;
            reads = reads;
            reply = subst (IsRefusal client way refusal start echo) (only_action out action (Reply c v b x) only m) refused;
          });
          right = λ other serves rd. absurd (nobody_asked other serves);
        },
  )
    where
      nobody_asked : (other : ClientQuery) → IsServedFor other t past → ⊥
      nobody_asked other (inl own) = no_query now client way bytes event refusal start echo other Own reads own
      nobody_asked other (inr (k, asked, came)) = own_not_query k (sym served ∙ asked)
  handled_done now client way bytes (request.Query q) out new event is reads (inl (rd, h)) = fine_done out new is (
    same_sound new h.state (λ n e. own_not_query n (sym h.served_is ∙ e)),
    λ c v b x m.
        let (written, are, sent) = h.reply in
        let (one, two, three) = reply_parts (sym sent ∙ only_action out h.action (Reply c v b x) h.out_is m) in
        record {
          to = inr (client_query client way q, one, two, inl (record { is_served = h.served_is; moment = now; bytes = bytes; event = event; reads = reads }));
          right = λ other serves yes.
              let same = own_served now client way bytes event q reads h.served_is other serves in
              false_not_true (sym rd ∙ (ap (λ (y : ClientQuery). recursive y.query) (sym same) ∙ yes));
        },
  )
  handled_done now client way bytes (request.Query q) out new event is reads (inr (rd, h)) = fine_done out new is (resolved_fine now client way bytes event q out new reads (in_out out is) h)

  followed : (first out : List Action) (new : State) → IsFollowed first out new → ((a : Action) → Contains first a → Contains out a)
      × ((client : ℕ) (way : Via) (bytes : List ℕ) (c : Option Cause) → Contains out (Reply client way bytes c) → Contains first (Reply client way bytes c))
  followed first out new (inl (is, due)) = (
    λ a m. subst (λ (l : List Action). Contains l a) (sym is) (front_in first (MoreDue ∷ []) a m),
    λ client way bytes c m. elim (both_cases first (MoreDue ∷ []) (Reply client way bytes c) (subst (λ (l : List Action). Contains l (Reply client way bytes c)) is m)) as (λ x. Contains first (Reply client way bytes c)) [
      | inl here ↦ here
      | inr more ↦ more_is_no_reply client way bytes c (only_one MoreDue (Reply client way bytes c) more)
    ],
  )
  followed first out new (inr (is, none)) = (λ a m. subst (λ (l : List Action). Contains l a) (sym is) m, λ client way bytes c m. subst (λ (l : List Action). Contains l (Reply client way bytes c)) is m)

  ticked_done : (now : ℕ) (out : List Action) (new : State) → t.event ≡ Tick now → t.out ≡ Some out → IsTicked s now t.served out new → IsDone new
  ticked_done now out new event is (inl h) = fine_done out new is (ignored_fine (Tick now) out new h)
  ticked_done now out new event is (inr (first, h, more)) =
      let incl = followed first out new more in
      let fine = elim h as (λ x. IsFine first new) [ inl late ↦ late_fine now first new event late | inr hears ↦ hears_fine (Tick now) first new event (λ a m. in_out out is a (incl.0 a m)) hears ] in
      fine_done out new is (fine.0, λ client way bytes c m. fine.1 client way bytes c (incl.1 client way bytes c m))

  pub turn_done : (event : Event) (out : Option (List Action)) (new : State) → t.event ≡ event → t.out ≡ out → IsTurn s event t.served out new → IsDone new
  turn_done (Client now client way bytes) None new event is (served, left) =
      starved_done new is (left_sound s.opened _ new (only_own s.opened served) (own_none served) (λ stores on. start_stops on.0 stores on.3) left)
  turn_done (Datagram now sock from bytes) None new event is (q, stands, served, meant, left) = starved_done new is (meant_sound _ q new event tt stands served left)
  turn_done (TcpReply now number bytes) None new event is (q, stands, served, meant, left) = starved_done new is (meant_sound _ q new event tt stands served left)
  turn_done (TcpFailed now number) None new event is (q, stands, served, meant, left) = starved_done new is (meant_sound _ q new event tt stands served left)
  turn_done (Tick now) None new event is (q, stands, served, meant, left) = starved_done new is (meant_sound _ q new event tt stands served left)
  turn_done (Client now client way bytes) (Some out) new event is (asked, reads, h) = handled_done now client way bytes asked out new event is reads h
  turn_done (Datagram now sock from bytes) (Some out) new event is (inl h) = fine_done out new is (ignored_fine _ out new h)
  turn_done (Datagram now sock from bytes) (Some out) new event is (inr h) = fine_done out new is (hears_fine _ out new event (in_out out is) h)
  turn_done (TcpReply now number bytes) (Some out) new event is (inl h) = fine_done out new is (ignored_fine _ out new h)
  turn_done (TcpReply now number bytes) (Some out) new event is (inr h) = fine_done out new is (hears_fine _ out new event (in_out out is) h)
  turn_done (TcpFailed now number) (Some out) new event is (inl h) = fine_done out new is (ignored_fine _ out new h)
  turn_done (TcpFailed now number) (Some out) new event is (inr h) = fine_done out new is (hears_fine _ out new event (in_out out is) h)
  turn_done (Tick now) (Some out) new event is h = ticked_done now out new event is h
