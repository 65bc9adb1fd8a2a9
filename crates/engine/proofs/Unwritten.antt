-- What is left where the action of a step cannot be written is what a step out of memory leaves.
use Rattle.std.proofs.Common.{◌≡◌, ◌≢◌, ℕ, ◌+◌, ◌<◌, ◌⊎◌, inl, inr, Bool, Option, Some, None, Result, Ok, Err, OnErr, List, [], ◌∷◌, ◌++◌, Contains, refl, sym, ◌∙◌, ap, subst, arith}
use Rattle.std.specs.Prelude.{IsOk, MatchOption}
use Rattle.causes.specs.declared.cause.Cause.{Cause}
use Rattle.message_grammar.specs.Messages.{Question, IsMessage, encoding, folded_message}
use Rattle.wire.specs.declared.via.Via.{Via}
use Rattle.front.specs.Openings.{Opening}
use Rattle.front.specs.declared.queries.Refusal.{Refusal}
use Rattle.front.specs.declared.queries.Request.{Request}
use Rattle.front.specs.declared.queries.Request.TheVariants as request
use Rattle.front.specs.declared.queries.Outcome.{Outcome}
use Rattle.resolution.specs.Jobs.{Stores, Job, Start, Input, Next, AskUdp, AskTcp, Done, Fail}
use Rattle.resolution.specs.Stops.{Stops}
use Rattle.resolution.proofs.Keeping.{advances_stop}
use Rattle.rand_chacha.specs.ChaCha.{ChaCha}
use Rattle.runs.specs.States.{Endpoint, endpoint, Event, Client, Datagram, TcpReply, TcpFailed, Tick, Action, Reply, Send, TcpAsk, MoreDue, Served, OpenQuery, Plain, ClientQuery, client_query, Path, ByUdp, ByTcp, Ask, Open, State, job_for, word_taken}
use Rattle.runs.specs.Messages.{id_in, asking_message, sending}
use Rattle.runs.specs.Steps.{AreOthers, AreWith, Ends, Waits, Comes, IsOpened, at_once, crowded, admitted, IsHandled, IsInput, ServesOpen, IsFollowed, IsLeft, IsTurn}
use Rattle.events.specs.Laws.{IdIsInMessage}
use Rattle.events.specs.Plain.{plain_outcome}
use Rattle.events.specs.Views.{due_listed}
use Rattle.typed.specs.Actions.{replied, refused, asked}
use Rattle.typed.specs.Views.{said_listed}
use Rattle.typed.specs.declared.action.TypedAction.{TypedAction}
use Rattle.typed.specs.declared.action.TypedAction.TheVariants as said
use Rattle.open_queries.specs.Lookups.{IsTaken}
use Rattle.engine.specs.ResolverStates.{IsSound}
use Rattle.engine.specs.Moves.{IsLike, IsAskUndone, IsUndone}
use Rattle.engine.specs.Turns.{Turns}
use Rattle.engine.specs.Calls.{IsGone}
use Rattle.engine.proofs.Called.{lost_same, lost_work, turns_gone}

-- ---- lists of one

abbrev IsFirst : Action → List Action → Type 0
IsFirst x out = (a : Action) → out ≡ a ∷ [] → a ≡ x

head_of : (a x : Action) (rest : List Action) → a ∷ [] ≡ x ∷ rest → a ≡ x
head_of a x rest same = cc

heads : (a x : Action) (rest more : List Action) → a ∷ more ≡ x ∷ rest → a ≡ x
heads a x rest more same = cc

not_none : {C : Type 0} (x : Action) (rest out : List Action) → out ≡ [] → out ≡ x ∷ rest → C
not_none x rest out none is = let clash : [] ≡ x ∷ rest = sym none ∙ is in absurd (cc)

first_of : (x : Action) (rest out : List Action) → out ≡ x ∷ rest → IsFirst x out
first_of x rest out is a one = head_of a x rest (sym one ∙ is)

first_ticked : (x : Action) (rest first out : List Action) (new : State) → IsFollowed first out new → out ≡ x ∷ rest → IsFirst x first
first_ticked x rest first out new (inl (more, due)) is a one = heads a x rest (MoreDue ∷ []) (sym (more ∙ ap (λ (l : List Action). l ++ MoreDue ∷ []) one) ∙ is)
first_ticked x rest first out new (inr (alone, none)) is a one = head_of a x rest (sym (alone ∙ one) ∙ is)

-- ---- a state without its query

record IsBare (s : State) (k : ℕ) (stores : Stores) (new : State) : Type 0 where
  queries : AreOthers k s.queries new.queries
  stores_is : new.stores ≡ stores
  generator : (new.generator ≡ s.generator) ⊎ (new.generator ≡ word_taken s.generator)
  state : new ≡ record s { stores = new.stores; queries = new.queries; generator = new.generator }

as_it_is : (s new : State) (stores : Stores) (g : ChaCha) → new ≡ record s { stores = stores; queries = new.queries; generator = g }
    → new ≡ record s { stores = new.stores; queries = new.queries; generator = new.generator }
as_it_is s new stores g e = e ∙ (λ i. record s { stores = sym (ap (λ (z : State). z.stores) e) i; queries = new.queries; generator = sym (ap (λ (z : State). z.generator) e) i })

left : (s : State) (k : ℕ) (stores : Stores) (P : Stores → Type 0) (new : State) → IsBare s k stores new → P stores → IsLeft s k P new
left s k stores P new h is = record { queries = h.queries; stores = inr (subst P (sym h.stores_is) is); generator = h.generator; state = h.state }

module _ (s mid new : State) (x : Action) where
  -- For a reply nothing is taken back.
  abbrev KeepsReply : Type 0
  KeepsReply = (client : ℕ) (way : Via) (bytes : List ℕ) (cause : Option Cause) → x ≡ Reply client way bytes cause → new ≡ mid

  -- For an ask its query is, where no other one is like it.
  abbrev TakesAskBack : Type 0
  TakesAskBack =
      (after : Open) (opened tcp_asks : ℕ) (stores : Stores) (out : List Action) → Waits s after opened tcp_asks stores out mid → IsFirst x out
      → ((q : Open) → Contains s.queries q → q.number ≢ after.number → IsLike after.ask q → ⊥) → IsBare s after.number stores new

  module _ (sound : IsSound s) (reply : KeepsReply) (ask : TakesAskBack) where
    ends_bare : (who : ClientQuery) (k : ℕ) (o : Outcome Plain) (stores : Stores) (out : List Action) → Ends s who k o stores out mid → IsFirst x out → IsBare s k stores new
    ends_bare who k o stores out h first =
        let same : new ≡ mid = reply who.client who.way h.reply.0 _ (sym (first h.action h.out_is) ∙ h.reply.2) in
        subst (IsBare s k stores) (sym same) (record {
          queries = h.queries;
          stores_is = ap (λ (z : State). z.stores) h.state;
          generator = inl (ap (λ (z : State). z.generator) h.state);
          state = as_it_is s mid stores s.generator h.state;
        })

    comes_bare : (who : ClientQuery) (k opened : ℕ) (next : Next) (job : Job) (stores : Stores) (out : List Action) → Comes s who k opened next job stores out mid → IsFirst x out → IsBare s k stores new
    comes_bare who k opened (AskUdp server n t) job stores out h first =
        ask _ opened s.tcp_asks stores out h.waits first
        (λ q there other like. let path = (h.goes).path in let both = like.1 (h.goes).sock path in ((h.goes).id).free (q, there, other, like.0 ∙ path, both.0, both.1))
    comes_bare who k opened (AskTcp server n t) job stores out h first =
        ask _ opened (s.tcp_asks + 1) stores out h.waits first
        (λ q there other like. let less : s.tcp_asks < s.tcp_asks = sound.asked q there s.tcp_asks (like.0 ∙ (h.goes).path) in absurd (omega arith))
    comes_bare who k opened (Done chain last) job stores out h first = ends_bare who k _ stores out h first
    comes_bare who k opened (Fail c) job stores out h first = ends_bare who k _ stores out h first

    opened_bare : (who : ClientQuery) (next : Next) (job : Job) (stores : Stores) (served : Served) (out : List Action) → IsOpened s who next job stores served out mid → IsFirst x out → IsBare s s.opened stores new
    opened_bare who next job stores served out (at_once is over h) first = comes_bare who s.opened s.opened next job stores out h first
    opened_bare who next job stores served out (crowded is asks full h) first = ends_bare who s.opened _ stores out h first
    opened_bare who next job stores served out (admitted is asks room h) first = comes_bare who s.opened (s.opened + 1) next job stores out h first

    handled_gone : (client : ℕ) (way : Via) (request : Request Plain) (served : Served) (out rest : List Action) → IsHandled s client way request served out mid → out ≡ x ∷ rest → IsGone s request new
    handled_gone client way request.Drop served out rest h is = not_none x rest out h.1 is
    handled_gone client way (request.Refuse refusal start echo) served out rest h is =
        let (action, refuses, one) = h.1 in
        lost_same s new _ sound (reply client way refuses.0 None (sym (first_of x rest out is action one) ∙ refuses.2) ∙ h.2)
    handled_gone client way (request.Query q) served out rest (inl (rd, h)) is =
        lost_same s new _ sound (reply client way h.reply.0 _ (sym (first_of x rest out is h.action h.out_is) ∙ h.reply.2) ∙ h.state)
    handled_gone client way (request.Query q) served out rest (inr (rd, h)) is =
        lost_work s q new rd (left s s.opened h.stores (Stops (s.site).home s.clock Start (job_for s.clock q) s.stores) new
        (opened_bare (client_query client way q) h.next h.job h.stores served out h.opened (first_of x rest out is))
        (advances_stop (s.site).home s.clock Start (job_for s.clock q) s.stores h.next h.job h.stores h.advances))

    abbrev IsLostFor : Event → Open → Type 0
    IsLostFor e q = IsLeft s q.number (λ stores. (input : Input) × IsInput s e q input × Stops (s.site).home s.clock input q.job s.stores stores) new

    served_lost : (e : Event) (served : Served) (out : List Action) → (h : ServesOpen s e served out mid) → IsFirst x out → IsLostFor e h.query
    served_lost e served out h first =
        let v = h.serves in
        left s (h.query).number v.stores (λ stores. (input : Input) × IsInput s e h.query input × Stops (s.site).home s.clock input (h.query).job s.stores stores) new
        (comes_bare (h.query).client_query (h.query).number s.opened v.next v.job v.stores out v.comes first)
        (h.input, h.brings, advances_stop (s.site).home s.clock h.input (h.query).job s.stores v.next v.job v.stores v.advances)

    turn_lost : IdIsInMessage → (e : Event) (served : Served) (out rest : List Action) → IsTurn s e served (Some out) mid → out ≡ x ∷ rest → Turns s e None new
    turn_lost ids (Client now client way bytes) served out rest (request, reads, h) is = turns_gone s now client way bytes request new reads (handled_gone client way request served out rest h is)
    turn_lost ids (Datagram now sock from bytes) served out rest (inl h) is = not_none x rest out h.out_is is
    turn_lost ids (Datagram now sock from bytes) served out rest (inr h) is =
        let (m, (path, to, message, answers), told) = h.brings in
        record {
          served = OpenQuery (h.query).number;
          turn = (
            h.query,
            (h.serves).stands,
            refl,
            (ap (λ (p : Endpoint). p.port) to, (path, sym (ap (λ (p : Endpoint). p.address) to), sym answers.id ∙ ids bytes m message)),
            served_lost (Datagram now sock from bytes) served out h (first_of x rest out is),
          );
        }
    turn_lost ids (TcpReply now number bytes) served out rest (inl h) is = not_none x rest out h.out_is is
    turn_lost ids (TcpReply now number bytes) served out rest (inr h) is = record {
      served = OpenQuery (h.query).number;
      turn = (
        h.query,
        (h.serves).stands,
        refl,
        elim h.brings [ inl told ↦ told.1.0 | inr failed ↦ failed.0 ],
        served_lost (TcpReply now number bytes) served out h (first_of x rest out is),
      );
    }
    turn_lost ids (TcpFailed now number) served out rest (inl h) is = not_none x rest out h.out_is is
    turn_lost ids (TcpFailed now number) served out rest (inr h) is = record {
      served = OpenQuery (h.query).number;
      turn = (h.query, (h.serves).stands, refl, (h.brings).0, served_lost (TcpFailed now number) served out h (first_of x rest out is));
    }
    turn_lost ids (Tick now) served out rest (inl h) is = not_none x rest out h.out_is is
    turn_lost ids (Tick now) served out rest (inr (first, inl h, followed)) is =
        let bare = ends_bare (h.query).client_query (h.query).number _ s.stores first h.ends (first_ticked x rest first out mid followed is) in
        record {
          served = OpenQuery (h.query).number;
          turn = (h.query, (h.due).stands, refl, h.due, record { queries = bare.queries; stores = inl bare.stores_is; generator = bare.generator; state = bare.state });
        }
    turn_lost ids (Tick now) served out rest (inr (first, inr h, followed)) is = record {
      served = OpenQuery (h.query).number;
      turn = (h.query, (h.serves).stands, refl, (h.brings).0, served_lost (Tick now) served first h (first_ticked x rest first out mid followed is));
    }

-- ---- a reply that is not written

pub reply_unwritten : (s mid : State) (e : Event) (served : Served) (out rest : List Action) (client : ℕ) (way : Via) (bytes : List ℕ) (cause : Option Cause)
    → IsSound s → IdIsInMessage → IsTurn s e served (Some out) mid → out ≡ Reply client way bytes cause ∷ rest → Turns s e None mid
reply_unwritten s mid e served out rest client way bytes cause sound ids turn is =
    turn_lost s mid mid (Reply client way bytes cause) sound (λ c w b x same. refl) (λ after opened tcp_asks stores o w first own. absurd (no_reply w first)) ids e served out rest turn is
  where
    is_ask : (port : ℕ) (a : Ask) (path : Path) (b : List ℕ) → sending port a path b ≡ Reply client way bytes cause → ⊥
    is_ask port a (ByUdp sock) b same = cc
    is_ask port a (ByTcp number) b same = cc

    no_reply : {after : Open} {opened tcp_asks : ℕ} {stores : Stores} {o : List Action} → Waits s after opened tcp_asks stores o mid → IsFirst (Reply client way bytes cause) o → ⊥
    no_reply {after} w first = is_ask (s.site).port after.ask (after.ask).path (w.sent).0 (sym (w.sent).2 ∙ first w.action w.out_is)

-- ---- an ask that is not written

record AreLike (a b : Ask) : Type 0 where
  path : a.path ≡ b.path
  server : a.server ≡ b.server
  id : a.id ≡ b.id

same_send : (sock n : ℕ) (to from : Endpoint) (b c : List ℕ) → Send sock to b ≡ Send n from c → (sock ≡ n) × (to ≡ from) × (b ≡ c)
same_send sock n to from b c same = (cc, cc, cc)

same_tcp : (k n : ℕ) (to from : Endpoint) (b c : List ℕ) → TcpAsk k to b ≡ TcpAsk n from c → (k ≡ n) × (to ≡ from) × (b ≡ c)
same_tcp k n to from b c same = (cc, cc, cc)

module _ (ids : IdIsInMessage) (port to : ℕ) (a b : Ask) (bytes : List ℕ) (read : IsMessage bytes (folded_message (asking_message b))) (id : id_in (encoding (asking_message a)) ≡ a.id) where
  same_id : encoding (asking_message a) ≡ bytes → a.id ≡ b.id
  same_id same = sym id ∙ ap id_in same ∙ sym (ids bytes (folded_message (asking_message b)) read)

  on_path : (p q : Path) → a.path ≡ p → b.path ≡ q → sending port a p (encoding (asking_message a)) ≡ sending to b q bytes → AreLike a b
  on_path (ByUdp sock) (ByUdp n) at by same =
      let (line, ends, whole) = same_send sock n (endpoint a.server port) (endpoint b.server to) _ bytes same in
      record { path = at ∙ ap ByUdp line ∙ sym by; server = ap (λ (p : Endpoint). p.address) ends; id = same_id whole }
  on_path (ByUdp sock) (ByTcp n) at by same = absurd (cc)
  on_path (ByTcp k) (ByUdp n) at by same = absurd (cc)
  on_path (ByTcp k) (ByTcp n) at by same =
      let (line, ends, whole) = same_tcp k n (endpoint a.server port) (endpoint b.server to) _ bytes same in
      record { path = at ∙ ap ByTcp line ∙ sym by; server = ap (λ (p : Endpoint). p.address) ends; id = same_id whole }

  are_like : asked port a ≡ sending to b b.path bytes → AreLike a b
  unfolding asked
  are_like same = on_path a.path b.path refl refl same

module _ (s mid new : State) (sound : IsSound s) (ids : IdIsInMessage) (port : ℕ) (a : Ask) (undone : IsAskUndone a s.opened s.tcp_asks mid new) where
  others : (after : Open) (k : ℕ) (between : List Open) → AreWith after s.queries mid.queries → k ≡ after.number → AreOthers k mid.queries between → AreOthers after.number s.queries between
  others after k between with_it number h = record {
    stay = λ q there other. h.stay q (with_it.stay q there other) (λ e. other (e ∙ number));
    only = λ q there. let was = h.only q there in elim (with_it.only q was.0) [
      | inl same ↦ absurd (was.1 (ap (λ (o : Open). o.number) same ∙ sym number))
      | inr before ↦ before
    ];
  }

  takes_back : TakesAskBack s mid new (asked port a)
  takes_back after opened tcp_asks stores out w first own = elim undone.drops [
    | inl none ↦ absurd (none.0 after (w.queries).is (sym like.path, λ sock udp. (sym like.server, sym like.id)))
    | inr some ↦ taken some.0 some.1 some.2 some.3
  ]
    where
      like : AreLike a after.ask
      like = are_like ids port (s.site).port a after.ask (w.sent).0 ((w.sent).1).1 undone.id (sym (first w.action w.out_is) ∙ (w.sent).2)

      taken : (q : Open) → IsLike a q → IsTaken mid.queries q.number q (undone.between).queries → undone.between ≡ record mid { queries = (undone.between).queries } → IsBare s after.number stores new
      taken q alike gone state =
          let same : q ≡ after = elim ((w.queries).only q (gone.one).stands) as (λ _. q ≡ after) [
            | inl e ↦ e
            | inr was ↦ absurd (own q was.0 was.1 (alike.0 ∙ like.path, λ sock udp. let both = alike.1 sock (like.path ∙ udp) in (both.0 ∙ like.server, both.1 ∙ like.id)))
          ] in
          let is : new ≡ record s { stores = stores; queries = (undone.between).queries; generator = word_taken s.generator } =
          undone.state ∙ ap (λ (z : State). record z { opened = s.opened; tcp_asks = s.tcp_asks }) (state ∙ ap (λ (z : State). record z { queries = (undone.between).queries }) w.state) in
          let qs : new.queries ≡ (undone.between).queries = ap (λ (z : State). z.queries) is in
          record {
            queries = subst (AreOthers after.number s.queries) (sym qs) (others after q.number (undone.between).queries w.queries (ap (λ (o : Open). o.number) same) gone.others);
            stores_is = ap (λ (z : State). z.stores) is;
            generator = inr (ap (λ (z : State). z.generator) is);
            state = as_it_is s new stores (word_taken s.generator) (is ∙ (λ i. record s { stores = stores; queries = sym qs i; generator = word_taken s.generator }));
          }

  no_ask : (client : ℕ) (way : Via) (bytes : List ℕ) (cause : Option Cause) (p : Path) → sending port a p (encoding (asking_message a)) ≡ Reply client way bytes cause → ⊥
  no_ask client way bytes cause (ByUdp sock) same = cc
  no_ask client way bytes cause (ByTcp number) same = cc

  keeps_reply : KeepsReply s mid new (asked port a)
  unfolding asked
  keeps_reply client way bytes cause same = absurd (no_ask client way bytes cause a.path same)

  pub ask_unwritten : (e : Event) (served : Served) (out rest : List Action) → IsTurn s e served (Some out) mid → out ≡ asked port a ∷ rest → Turns s e None new
  ask_unwritten e served out rest turn is = turn_lost s mid new (asked port a) sound keeps_reply takes_back ids e served out rest turn is

-- ---- what a step gives, written or not

pub as_written : (s mid new : State) (e : Event) (out a : List Action) → a ≡ out → new ≡ mid → Turns s e (Some out) mid → Turns s e (Some a) new
as_written s mid new e out a is same h = subst (λ (z : State). Turns s e (Some a) z) (sym same) (subst (λ (o : List Action). Turns s e (Some o) mid) (sym is) h)

pub is_ok : {T E : Type 0} (r : Result T E) (P : Type 0) → OnErr r P → (P → ⊥) → IsOk r
is_ok (Ok x) P h never = refl
is_ok (Err e) P h never = absurd (never h)

pub none_gone : {A : Type 0} (first : Option (TypedAction A)) (P : TypedAction A → Type 0) → first ≡ None → MatchOption first ⊥ P → ⊥
none_gone None P none h = h
none_gone (Some a) P none h = absurd (cc)

module _ (s mid new : State) (sound : IsSound s) (ids : IdIsInMessage) (e : Event) where
  reply_gone : (who : ClientQuery) (o : Outcome Plain) (rest : List Action) → Turns s e (Some (replied who o ∷ rest)) mid → new ≡ mid → Turns s e None new
  unfolding replied
  reply_gone who o rest turns same = subst (Turns s e None) (sym same) (reply_unwritten s mid e turns.served _ rest who.client who.way _ _ sound ids turns.turn refl)

  refusal_gone : (client : ℕ) (way : Via) (refusal : Refusal) (start : Opening) (echo : Option Question) (rest : List Action) → Turns s e (Some (refused client way refusal start echo ∷ rest)) mid → new ≡ mid
      → Turns s e None new
  unfolding refused
  refusal_gone client way refusal start echo rest turns same = subst (Turns s e None) (sym same) (reply_unwritten s mid e turns.served _ rest client way _ None sound ids turns.turn refl)

  pub unwritten : {A : Type 0} (first : Option (TypedAction A)) (more : Bool) → Turns s e (Some (said_listed first more)) mid → MatchOption first ⊥ (λ a. IsUndone a s.opened s.tcp_asks mid new) → Turns s e None new
  unwritten None more turns h = absurd h
  unwritten (Some (said.Reply who o)) more turns same = reply_gone who (plain_outcome o) (due_listed more) turns same
  unwritten (Some (said.Refusal client way refusal start echo)) more turns same = refusal_gone client way refusal start echo (due_listed more) turns same
  unwritten (Some (said.Ask port a)) more turns undone = ask_unwritten s mid new sound ids port a undone e turns.served _ (due_listed more) turns.turn refl
