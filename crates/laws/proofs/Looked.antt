-- What a step accepts as an answer is what it keeps.
use Rattle.std.proofs.Common.{◌≡◌, ◌≢◌, ℕ, ◌⊎◌, inl, inr, Option, Some, None, List, ◌∷◌, Contains, refl, sym, ap, ◌∙◌, subst}
use Rattle.rdata.specs.declared.addr.Addr.{Addr}
use Rattle.zone.specs.Links.{Link}
use Rattle.message_grammar.specs.Messages.{Message}
use Rattle.message_grammar.proofs.Single.{message_one}
use Rattle.wire.specs.declared.via.Via.{Via}
use Rattle.front.specs.declared.queries.Request.{Request}
use Rattle.front.specs.declared.queries.Request.TheVariants as request
use Rattle.classify.specs.Classes as class
use Rattle.classify.specs.Classes.{class_of}
use Rattle.resolution.specs.Jobs.{Stores, Search, Job, Input, Start, Told, TimedOut, TcpFailed, Point}
use Rattle.resolution.specs.Rules.{Enters}
use Rattle.runs.specs.States.{Event, Client, Datagram, TcpReply, Tick, Action, Served, OpenQuery, Turn, Plain, via_of, Open, Site, State, moved}
use Rattle.runs.specs.States as event
use Rattle.runs.specs.Messages.{Brings}
use Rattle.runs.specs.Steps.{IsInput, IsIgnored, ServesOpen, IsHandled, IsTurn}
use Rattle.runs.specs.Runs.{Run}
use Rattle.runs.proofs.Clocks.{clock_of_run}
use Rattle.laws.specs.Uses.{KeptAnswer}
use Rattle.laws.specs.Looks.{accepted_by, enters_accepted, handled_looks, hears_looks, either_looks, turn_looks, AcceptsLink, kept_of, AcceptedIsLooked}
use Rattle.laws.proofs.Discipline.{open_by_run}
use Rattle.laws.proofs.OrderlyLists.{same_number}
use Rattle.laws.proofs.TimelyOpens.{not_nobody}

-- ---- what is accepted is kept

enters_keeps : (now : ℕ) (input : Input) (j : Job) (stores : Stores) (p : Point) → (h : Enters now input j stores p) → (via : Via) (server : Addr) (m : Message) (sought : Search) (others : List Search) (l : Link)
    → input ≡ Told via server m → j.searches ≡ sought ∷ others → class_of (sought.frame).zone sought.name sought.kind via m ≡ class.Answer l
    → enters_accepted now input j stores p h ≡ Some (kept_of sought l now)
enters_keeps now Start j stores p h via server m sought others l told searches is = absurd (cc)
enters_keeps now (Told v a n) j stores p (inl (none, h)) via server m sought others l told searches is = absurd (cc)
enters_keeps now (Told v a n) j stores p (inr (s, rest, top, h)) via server m sought others l told searches is =
    let same : s ≡ sought = cc in
    let way : v ≡ via = cc in
    let message : n ≡ m = cc in
    (λ i. accepted_by now (same i) (class_of ((same i).frame).zone (same i).name (same i).kind (way i) (message i))) ∙ ap (accepted_by now sought) is
enters_keeps now (TimedOut a) j stores p h via server m sought others l told searches is = absurd (cc)
enters_keeps now (TcpFailed a) j stores p h via server m sought others l told searches is = absurd (cc)

pub told_is : (s : State) (port : ℕ) (e : Event) (q : Open) (input : Input) (m : Message) → (s.site).port ≡ port → IsInput s e q input → Brings port q.ask e m → input ≡ Told (via_of (q.ask).path) (q.ask).server m
told_is s port (Client now client way bytes) q input m here i b = absurd b
told_is s port (Datagram now sock from bytes) q input m here (n, (path_so, to_so, was, answers_so), e) (path, to, is, answers) = e ∙ ap (Told (via_of (q.ask).path) (q.ask).server) (message_one bytes n m was is)
told_is s port (TcpReply now number bytes) q input m here (inl (n, (path_so, was, answers_so), e)) (path, is, answers) = e ∙ ap (Told (via_of (q.ask).path) (q.ask).server) (message_one bytes n m was is)
told_is s port (TcpReply now number bytes) q input m here (inr (line, none, e)) b = absurd (none m b)
told_is s port (event.TcpFailed now number) q input m here i b = absurd b
told_is s port (Tick now) q input m here i b = absurd b

module _ (s : State) (port : ℕ) (here : (s.site).port ≡ port) where
  hears_keeps : (e : Event) (served : Served) (out : List Action) (new : State) → (h : ServesOpen s e served out new) → (q : Open) (sought : Search) (others : List Search) (l : Link) (m : Message)
      → h.query ≡ q → (q.job).searches ≡ sought ∷ others → Brings port q.ask e m → class_of (sought.frame).zone sought.name sought.kind (via_of (q.ask).path) m ≡ class.Answer l
      → (hears_looks s e served out new h).accepted ≡ Some (kept_of sought l s.clock)
  hears_keeps e served out new h q sought others l m same searches brings is =
      let a = (h.serves).advances in
      enters_keeps s.clock h.input (h.query).job s.stores a.first a.enters (via_of ((h.query).ask).path) ((h.query).ask).server m sought others l
      (told_is s port e h.query h.input m here h.brings (subst (λ (x : Open). Brings port x.ask e m) (sym same) brings))
      (ap (λ (x : Open). (x.job).searches) same ∙ searches)
      (ap (λ (x : Open). class_of (sought.frame).zone sought.name sought.kind (via_of (x.ask).path) m) same ∙ is)

  turn_keeps : (e : Event) (served : Served) (out : List Action) (new : State) → (turn : IsTurn s e served (Some out) new) → (q : Open) (sought : Search) (others : List Search) (l : Link) (m : Message)
      → ((p : Open) → Contains s.queries p → p.number ≡ q.number → p ≡ q) → served ≡ OpenQuery q.number → (q.job).searches ≡ sought ∷ others → Brings port q.ask e m
      → class_of (sought.frame).zone sought.name sought.kind (via_of (q.ask).path) m ≡ class.Answer l → (turn_looks s e served (Some out) new turn).accepted ≡ Some (kept_of sought l s.clock)
  turn_keeps (Client now client way bytes) served out new turn q sought others l m one is searches b class = absurd b
  turn_keeps (Datagram now sock from bytes) served out new (inl h) q sought others l m one is searches b class = absurd (not_nobody q.number (sym h.served_is ∙ is))
  turn_keeps (Datagram now sock from bytes) served out new (inr h) q sought others l m one is searches b class =
      hears_keeps (Datagram now sock from bytes) served out new h q sought others l m (one h.query (h.serves).stands (same_number (sym h.served_is ∙ is))) searches b class
  turn_keeps (TcpReply now number bytes) served out new (inl h) q sought others l m one is searches b class = absurd (not_nobody q.number (sym h.served_is ∙ is))
  turn_keeps (TcpReply now number bytes) served out new (inr h) q sought others l m one is searches b class =
      hears_keeps (TcpReply now number bytes) served out new h q sought others l m (one h.query (h.serves).stands (same_number (sym h.served_is ∙ is))) searches b class
  turn_keeps (event.TcpFailed now number) served out new turn q sought others l m one is searches b class = absurd b
  turn_keeps (Tick now) served out new turn q sought others l m one is searches b class = absurd b

-- ---- what is kept was accepted

-- An answer that is kept is one of a search.
abbrev IsKeptOf : ℕ → Via → Message → Job → KeptAnswer → Type 0
IsKeptOf now via m j a =
    (sought : Search) × (others : List Search) × (l : Link) × (j.searches ≡ sought ∷ others) × (class_of (sought.frame).zone sought.name sought.kind via m ≡ class.Answer l) × (a ≡ kept_of sought l now)

module _ (now : ℕ) (j : Job) (stores : Stores) (p : Point) (a : KeptAnswer) where
  class_kept : (via : Via) (m : Message) (s : Search) (rest : List Search) → j.searches ≡ s ∷ rest → (c : class.Class) → class_of (s.frame).zone s.name s.kind via m ≡ c → accepted_by now s c ≡ Some a → IsKeptOf now via m j a
  class_kept via m s rest top (class.Answer l) e is = let same : kept_of s l now ≡ a = cc in (s, rest, l, top, e, sym same)
  class_kept via m s rest top (class.Referral at ns glue ttl) e is = absurd (cc)
  class_kept via m s rest top class.Truncated e is = absurd (cc)
  class_kept via m s rest top (class.Failed f) e is = absurd (cc)

  told_kept : (via : Via) (server : Addr) (m : Message) → (h : Enters now (Told via server m) j stores p) → enters_accepted now (Told via server m) j stores p h ≡ Some a → IsKeptOf now via m j a
  told_kept via server m (inl nothing) is = absurd (cc)
  told_kept via server m (inr (s, rest, top, h)) is = class_kept via m s rest top (class_of (s.frame).zone s.name s.kind via m) refl is

  input_kept : (input : Input) (via : Via) (server : Addr) (m : Message) → input ≡ Told via server m → (h : Enters now input j stores p) → enters_accepted now input j stores p h ≡ Some a → IsKeptOf now via m j a
  input_kept input via server m e =
      subst (λ (i : Input). (h : Enters now i j stores p) → enters_accepted now i j stores p h ≡ Some a → IsKeptOf now via m j a) (sym e) (told_kept via server m)

  lost_kept : (input : Input) (server : Addr) → (input ≡ TimedOut server) ⊎ (input ≡ TcpFailed server) → (h : Enters now input j stores p) → enters_accepted now input j stores p h ≡ Some a → ⊥
  lost_kept input server (inl e) = subst (λ (i : Input). (h : Enters now i j stores p) → enters_accepted now i j stores p h ≡ Some a → ⊥) (sym e) (λ h is. cc)
  lost_kept input server (inr e) = subst (λ (i : Input). (h : Enters now i j stores p) → enters_accepted now i j stores p h ≡ Some a → ⊥) (sym e) (λ h is. cc)

module _ (s : State) (port : ℕ) (here : (s.site).port ≡ port) (a : KeptAnswer) where
  -- What was accepted, and for whom.
  abbrev IsAcceptedIn : Event → Served → Type 0
  IsAcceptedIn e served =
      (q : Open) × (sought : Search) × (others : List Search) × (l : Link) × (m : Message) × Contains s.queries q × (served ≡ OpenQuery q.number) × ((q.job).searches ≡ sought ∷ others) × Brings port q.ask e m
      × (class_of (sought.frame).zone sought.name sought.kind (via_of (q.ask).path) m ≡ class.Answer l) × (a ≡ kept_of sought l s.clock)

  heard_kept : (e : Event) (served : Served) (out : List Action) (new : State) → (h : ServesOpen s e served out new) → (m : Message) → Brings (s.site).port (h.query).ask e m
      → h.input ≡ Told (via_of ((h.query).ask).path) ((h.query).ask).server m → (hears_looks s e served out new h).accepted ≡ Some a → IsAcceptedIn e served
  heard_kept e served out new h m brings told is =
      let call = (h.serves).advances in
      let (sought, others, l, searches, class, same) = input_kept s.clock (h.query).job s.stores call.first a h.input (via_of ((h.query).ask).path) ((h.query).ask).server m told call.enters is in
      (h.query, sought, others, l, m, (h.serves).stands, h.served_is, searches, subst (λ (n : ℕ). Brings n (h.query).ask e m) here brings, class, same)

  lost_in : (e : Event) (served : Served) (out : List Action) (new : State) → (h : ServesOpen s e served out new) → (h.input ≡ TimedOut ((h.query).ask).server) ⊎ (h.input ≡ TcpFailed ((h.query).ask).server)
      → (hears_looks s e served out new h).accepted ≡ Some a → ⊥
  lost_in e served out new h which is = let call = (h.serves).advances in lost_kept s.clock (h.query).job s.stores call.first a h.input ((h.query).ask).server which call.enters is

  hears_kept : (e : Event) (served : Served) (out : List Action) (new : State) → (h : ServesOpen s e served out new) → (hears_looks s e served out new h).accepted ≡ Some a → IsAcceptedIn e served
  hears_kept (Client now client way bytes) served out new h is = absurd h.brings
  hears_kept (Datagram now sock from bytes) served out new h is = let (m, brings, told) = h.brings in heard_kept (Datagram now sock from bytes) served out new h m brings told is
  hears_kept (TcpReply now number bytes) served out new h is = elim h.brings [
    | inl b ↦ heard_kept (TcpReply now number bytes) served out new h b.0 b.1 b.2 is
    | inr b ↦ absurd (lost_in (TcpReply now number bytes) served out new h (inr b.2) is)
  ]
  hears_kept (event.TcpFailed now number) served out new h is = absurd (lost_in (event.TcpFailed now number) served out new h (inr (h.brings).1) is)
  hears_kept (Tick now) served out new h is = absurd (lost_in (Tick now) served out new h (inl (h.brings).2) is)

  either_kept : (e : Event) (served : Served) (out : List Action) (new : State) → (h : IsIgnored s e served out new ⊎ ServesOpen s e served out new) → (either_looks s e served out new h).accepted ≡ Some a → IsAcceptedIn e served
  either_kept e served out new (inl h) is = absurd (cc)
  either_kept e served out new (inr h) is = hears_kept e served out new h is

  handled_kept : (client : ℕ) (way : Via) (asked : Request Plain) (served : Served) (out : List Action) (new : State) → (h : IsHandled s client way asked served out new)
      → (handled_looks s client way asked served out new h).accepted ≡ Some a → ⊥
  handled_kept client way request.Drop served out new h is = cc
  handled_kept client way (request.Refuse refusal start echo) served out new h is = cc
  handled_kept client way (request.Query q) served out new (inl h) is = cc
  handled_kept client way (request.Query q) served out new (inr (rd, h)) is = cc

  turn_kept : (e : Event) (served : Served) (out : List Action) (new : State) → (turn : IsTurn s e served (Some out) new) → (turn_looks s e served (Some out) new turn).accepted ≡ Some a → IsAcceptedIn e served
  turn_kept (Client now client way bytes) served out new (asked, reads, h) is = absurd (handled_kept client way asked served out new h is)
  turn_kept (Datagram now sock from bytes) served out new h is = either_kept (Datagram now sock from bytes) served out new h is
  turn_kept (TcpReply now number bytes) served out new h is = either_kept (TcpReply now number bytes) served out new h is
  turn_kept (event.TcpFailed now number) served out new h is = either_kept (event.TcpFailed now number) served out new h is
  turn_kept (Tick now) served out new (inl h) is = absurd (cc)
  turn_kept (Tick now) served out new (inr (first, inl h, followed)) is = absurd (cc)
  turn_kept (Tick now) served out new (inr (first, inr h, followed)) is = hears_kept (Tick now) served first new h is

-- ---- the law

module _ (site : Site) (past : List Turn) (old : State) (t : Turn) (new : State) (legal : Run site past old) where
  abbrev s : State
  s = moved old t.event

  here : (s.site).port ≡ site.port
  here = ap (λ (x : Site). x.port) (clock_of_run site past old legal).1

  abbrev Both : (o : Option (List Action)) → IsTurn s t.event t.served o new → Type 0
  Both o turn =
      ((q : Open) (sought : Search) (others : List Search) (l : Link) → AcceptsLink site.port old t q sought others l → (turn_looks s t.event t.served o new turn).accepted ≡ Some (kept_of sought l s.clock))
      × ((a : KeptAnswer) → (turn_looks s t.event t.served o new turn).accepted ≡ Some a
      → (q : Open) × (sought : Search) × (others : List Search) × (l : Link) × AcceptsLink site.port old t q sought others l × (a ≡ kept_of sought l s.clock))

  both : (o : Option (List Action)) → o ≢ None → (turn : IsTurn s t.event t.served o new) → Both o turn
  both None some turn = absurd (some refl)
  both (Some out) some turn = (
    λ q sought others l h. turn_keeps s site.port here t.event t.served out new turn q sought others l h.message (λ p c e. (open_by_run site past old legal).one p q c h.there e) h.served h.searches h.brings h.is_class,
    λ a is.
        let (q, sought, others, l, m, there, served, searches, brings, class, same) = turn_kept s site.port here a t.event t.served out new turn is in
        (q, sought, others, l, record { there = there; served = served; searches = searches; message = m; brings = brings; is_class = class }, same),
  )

pub accepted_is_looked : AcceptedIsLooked
accepted_is_looked site past old t new legal step fed = both site past old t new legal t.out fed step.turn
