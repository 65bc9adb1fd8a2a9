-- Two steps of one state by one event are one.
use Rattle.std.proofs.Common.{◌≡◌, ◌≢◌, ℕ, ◌+◌, ◌%◌, ◌<◌, ◌≤◌, ◌⊎◌, inl, inr, true, false, Option, Some, None, List, [], ◌∷◌, ◌++◌, Contains, refl, sym, ap, ◌∙◌, subst, arith}
use Rattle.dname.specs.Labels.{Name, root}
use Rattle.rdata.specs.Records.{Record}
use Rattle.rdata.specs.Types.{type_number}
use Rattle.rdata.specs.declared.addr.Addr.{Addr}
use Rattle.zone.specs.Zones.{Zone}
use Rattle.zone.specs.Look as local
use Rattle.zone.specs.Look.{cut_of, local_of, denial_of}
use Rattle.zone.proofs.LawExists.{cut_of_is}
use Rattle.authority.specs.Catalogs.{looked, looked_in, said_by_zone, zone_over}
use Rattle.message_grammar.specs.Messages.{Message, Question}
use Rattle.message_grammar.proofs.Single.{message_one}
use Rattle.wire.specs.declared.via.Via.{Via}
use Rattle.front.specs.Openings.{Opening}
use Rattle.front.specs.Replies.{reply_of, refusal_reply}
use Rattle.front.proofs.Single.{asked_once, answer_once}
use Rattle.front.specs.declared.queries.Request.{Request}
use Rattle.front.specs.declared.queries.Request.TheVariants as request
use Rattle.front.specs.declared.queries.Refusal.{Refusal}
use Rattle.front.specs.declared.queries.Outcome.{Outcome}
use Rattle.front.specs.declared.queries.Outcome.TheVariants as outcome
use Rattle.causes.specs.declared.cause.Cause.TheVariants as cause
use Rattle.lru_laws.specs.Orders.{HasSame}
use Rattle.referral.specs.Cuts.{Cut}
use Rattle.resolution.specs.Jobs.{Home, Stores, Job, wait_of_job, Input, Start, Told, Next, AskUdp, AskTcp, Done, Fail}
use Rattle.resolution.specs.Jobs as jobs
use Rattle.resolution.specs.Rules.{Says, Advances}
use Rattle.runs.specs.States.{Event, Client, Datagram, TcpReply, TcpFailed, Tick, Action, Reply, MoreDue, Served, OpenQuery, Turn, Plain, ClientQuery, client_query, ByUdp, via_of, Ask, IsFor, Open, open_query, due_moment, Site, State, moved, word_of, low_half}
use Rattle.runs.specs.Messages.{AreWritten, IsSent, sending, asking_message, Brings, IsReply, IsRefusal}
use Rattle.runs.specs.Steps.{IsInUse, IsRaised, IsUdpAsk, IsTcpAsk, AreOthers, AreWith, Ends, Waits, WaitsByUdp, WaitsByTcp, Comes, Serves, IsAsk, IsOpened, at_once, crowded, admitted, Resolves, AnswersAtHand, IsHandled, IsFirstDue, IsInput, IsIgnored, ServesOpen, IsLate, SomeDue, IsFollowed, IsTicked, IsTurn, Step}
use Rattle.runs.specs.Runs.{Run}
use Rattle.runs.proofs.Clocks.{clock_of_run}
use Rattle.runs.proofs.Heard.{accepted_is_heard, tcp_is_heard}
use Rattle.laws.specs.Determined.{AreNamed, IsSameState, OneStep}
use Rattle.laws.specs.Spent.{MayStart}
use Rattle.laws.proofs.OneChoice.{are_ordered}
use Rattle.laws.proofs.OneCall.{referral_named, one_call}
use Rattle.laws.proofs.Discipline.{open_by_run}
use Rattle.laws.proofs.OrderlyLists.{same_number}
use Rattle.laws.proofs.Runs.{run_explained}
use Rattle.laws.proofs.States.{turn_of}
use Rattle.laws.proofs.TimelyOpens.{not_nobody}

-- ---- delegations stand under names

cut_named : (z : Zone) (q c : Name) → cut_of z q ≡ Some c → c ≢ []
cut_named z q c e none = let m = cut_of_is z q c e in let both : [] ≡ m.first ∷ m.rest = sym none ∙ m.is in cc

module _ (q : Name) (t : ℕ) (at : Name) (ns glue : List Record) where
  by_cut_named : (soa : Record) (z : Zone) (o : Option Name) → cut_of z q ≡ o → local_of soa z q t o ≡ local.Cut at ns glue → at ≢ []
  by_cut_named soa z None e is none = cc
  by_cut_named soa z (Some c) e is none = let same : c ≡ at = cc in cut_named z q c e (same ∙ none)

  by_zone_named : (z : Zone) (o : Option Record) → said_by_zone q t z o ≡ local.Cut at ns glue → at ≢ []
  by_zone_named z None is none = cc
  by_zone_named z (Some soa) is none = by_cut_named soa z (cut_of z q) refl is none

  local_named : (o : Option Zone) → looked_in q t o ≡ local.Cut at ns glue → at ≢ []
  local_named None is none = cc
  local_named (Some z) is none = by_zone_named z (denial_of z) is none

first_named : (home : Home) (c : Cut) → (c ≡ jobs.root_cut home) ⊎ ((n : Name) × (t : ℕ) × (at : Name) × (ns : List Record) × (glue : List Record) × Says home n t (local.Cut at ns glue) × jobs.IsCutOf at ns glue c) → c.owner ≢ []
first_named home c (inl e) none = let both : root ≡ [] = sym (ap (λ (x : Cut). x.owner) e) ∙ none in cc
first_named home c (inr (n, t, at, ns, glue, says, is)) none = local_named n t at ns glue (zone_over home.zones n) says.0 (sym is.owner ∙ none)

start_named : (port : ℕ) (home : Home) (run : List Turn) (c : Cut) → MayStart port home run c → c.owner ≢ []
start_named port home [] c start = first_named home c start
start_named port home (turn ∷ past) c (inl start) = start_named port home past c start
start_named port home (turn ∷ past) c (inr (z, start, (k, ask, m, at, ns, glue, ttl, accepts, is, cut))) =
    subst (λ (x : Name). x ≢ []) (sym cut.owner) (referral_named z.owner ask.name ask.kind (via_of ask.path) m at ns glue ttl is)

pub run_named : (site : Site) (run : List Turn) (s : State) → Run site run s → AreNamed (s.stores).delegations
run_named site run s legal n k there =
    let (owner, (c, start, same)) = ((run_explained site run s legal).0).told.0.cuts n k there in
    subst (λ (x : Name). x ≢ []) (sym (owner ∙ ap (λ (x : Cut). x.owner) same)) (start_named site.port site.home run c start)

-- ---- asks and replies

written_one : (bytes more : List ℕ) (m : Message) → AreWritten bytes m → AreWritten more m → bytes ≡ more
written_one bytes more m a b = a.0 ∙ sym b.0

reply_one : (who : ClientQuery) (o : Outcome Plain) (a b : Action) → IsReply who o a → IsReply who o b → a ≡ b
reply_one who o a b (bytes, written, is) (more, wrote, so) =
    is ∙ (ap (λ (x : List ℕ). Reply who.client who.way x (reply_of who.way who.query o).1) (written_one bytes more (reply_of who.way who.query o).0 written wrote) ∙ sym so)

refusal_one : (client : ℕ) (way : Via) (refusal : Refusal) (start : Opening) (echo : Option Question) (a b : Action) → IsRefusal client way refusal start echo a → IsRefusal client way refusal start echo b → a ≡ b
refusal_one client way refusal start echo a b (bytes, written, is) (more, wrote, so) =
    is ∙ (ap (λ (x : List ℕ). Reply client way x None) (written_one bytes more (refusal_reply refusal start echo) written wrote) ∙ sym so)

sent_one : (port : ℕ) (a : Ask) (x y : Action) → IsSent port a x → IsSent port a y → x ≡ y
sent_one port a x y (bytes, written, is) (more, wrote, so) = is ∙ (ap (sending port a a.path) (written_one bytes more (asking_message a) written wrote) ∙ sym so)

raised_one : (taken : ℕ → Type 0) (from id other : ℕ) → IsRaised taken from id → IsRaised taken from other → id ≡ other
raised_one taken from id other a b = by (are_ordered a.steps b.steps)
  where
    by : (a.steps ≡ b.steps) ⊎ ((a.steps < b.steps) ⊎ (b.steps < a.steps)) → id ≡ other
    by (inl e) = a.is ∙ (ap (λ (n : ℕ). (from + n) % 65536) e ∙ sym b.is)
    by (inr (inl lt)) = absurd (a.free (subst taken (sym a.is) (b.first a.steps lt)))
    by (inr (inr lt)) = absurd (b.free (subst taken (sym b.is) (a.first b.steps lt)))

ask_is : (a b : Ask) → a.path ≡ b.path → a.server ≡ b.server → a.id ≡ b.id → a.name ≡ b.name → a.kind ≡ b.kind → a ≡ b
ask_is a b path server id name kind = λ i. record { path = path i; server = server i; id = id i; name = name i; kind = kind i }

udp_ask_one : (s : State) (k : ℕ) (to : Addr) (n : Name) (t : ℕ) (a b : Ask) → IsFor to n t a → IsFor to n t b → IsUdpAsk s k a → IsUdpAsk s k b → a ≡ b
udp_ask_one s k to n t a b for_a for_b goes went =
    let sock : goes.sock ≡ went.sock = goes.sock_is ∙ sym went.sock_is in
    let server : a.server ≡ b.server = for_a.server ∙ sym for_b.server in
    let raised : IsRaised (IsInUse s.queries k goes.sock a.server) (low_half (word_of s.generator)) b.id
    = subst (λ (x : Addr). IsRaised (IsInUse s.queries k goes.sock x) (low_half (word_of s.generator)) b.id) (sym server)
    (subst (λ (x : ℕ). IsRaised (IsInUse s.queries k x b.server) (low_half (word_of s.generator)) b.id) (sym sock) went.id) in
    ask_is a b (goes.path ∙ (ap ByUdp sock ∙ sym went.path)) server (raised_one (IsInUse s.queries k goes.sock a.server) (low_half (word_of s.generator)) a.id b.id goes.id raised)
    (for_a.name ∙ sym for_b.name) (for_a.kind ∙ sym for_b.kind)

tcp_ask_one : (s : State) (to : Addr) (n : Name) (t : ℕ) (a b : Ask) → IsFor to n t a → IsFor to n t b → IsTcpAsk s a → IsTcpAsk s b → a ≡ b
tcp_ask_one s to n t a b for_a for_b goes went =
    ask_is a b (goes.path ∙ sym went.path) (for_a.server ∙ sym for_b.server) (goes.id ∙ sym went.id) (for_a.name ∙ sym for_b.name) (for_a.kind ∙ sym for_b.kind)

-- ---- states

abbrev Alike : List Action → List Action → State → State → Type 0
Alike out given new also = (given ≡ out) × IsSameState new also

state_is : (s new also : State) → new ≡ s → also ≡ s → IsSameState new also
state_is s new also a b = record {
  queries = let e : new.queries ≡ also.queries = ap (λ (x : State). x.queries) (a ∙ sym b) in subst (HasSame new.queries) e (λ x c. c, λ x c. c);
  others = let e : new ≡ also = a ∙ sym b in sym e ∙ ap (λ (x : State). record new { queries = x.queries }) e;
}

others_same : (k : ℕ) (old new also : List Open) → AreOthers k old new → AreOthers k old also → HasSame new also
others_same k old new also a b = (λ q c. let (d, apart) = b.only q c in a.stay q d apart, λ q c. let (d, apart) = a.only q c in b.stay q d apart)

with_same : (after : Open) (old new also : List Open) → AreWith after old new → AreWith after old also → HasSame new also
with_same after old new also a b = (
  λ q c. elim (b.only q c) [ inl is ↦ subst (Contains new) (sym is) a.is | inr d ↦ a.stay q d.0 d.1 ],
  λ q c. elim (a.only q c) [ inl is ↦ subst (Contains also) (sym is) b.is | inr d ↦ b.stay q d.0 d.1 ],
)

only_one : (a b : Action) (out given : List Action) → out ≡ a ∷ [] → given ≡ b ∷ [] → a ≡ b → given ≡ out
only_one a b out given is so e = so ∙ (ap (λ (x : Action). x ∷ []) (sym e) ∙ sym is)

module _ (s : State) (out given : List Action) (new also : State) where
  ends_one : (who : ClientQuery) (k : ℕ) (o : Outcome Plain) (stores : Stores) → Ends s who k o stores out new → Ends s who k o stores given also → Alike out given new also
  ends_one who k o stores a b = (
    only_one a.action b.action out given a.out_is b.out_is (reply_one who o a.action b.action a.reply b.reply),
    record {
      queries = others_same k s.queries new.queries also.queries a.queries b.queries;
      others = b.state ∙ sym (ap (λ (x : State). record x { queries = also.queries }) a.state);
    },
  )

  waits_one : (after : Open) (opened tcp_asks : ℕ) (stores : Stores) → Waits s after opened tcp_asks stores out new → Waits s after opened tcp_asks stores given also → Alike out given new also
  waits_one after opened tcp_asks stores a b = (
    only_one a.action b.action out given a.out_is b.out_is (sent_one (s.site).port after.ask a.action b.action a.sent b.sent),
    record {
      queries = with_same after s.queries new.queries also.queries a.queries b.queries;
      others = b.state ∙ sym (ap (λ (x : State). record x { queries = also.queries }) a.state);
    },
  )

  comes_one : (who : ClientQuery) (k opened : ℕ) (next : Next) (job : Job) (stores : Stores) → Comes s who k opened next job stores out new → Comes s who k opened next job stores given also → Alike out given new also
  comes_one who k opened (AskUdp server n t) job stores a b =
      let e = udp_ask_one s k server n t b.ask a.ask b.for a.for b.goes a.goes in
      waits_one (open_query k who job a.ask (s.clock + wait_of_job job)) opened s.tcp_asks stores a.waits
      (subst (λ (x : Ask). Waits s (open_query k who job x (s.clock + wait_of_job job)) opened s.tcp_asks stores given also) e b.waits)
  comes_one who k opened (AskTcp server n t) job stores a b =
      let e = tcp_ask_one s server n t b.ask a.ask b.for a.for b.goes a.goes in
      waits_one (open_query k who job a.ask _) opened (s.tcp_asks + 1) stores a.waits
      (subst (λ (x : Ask). Waits s (open_query k who job x _) opened (s.tcp_asks + 1) stores given also) e b.waits)
  comes_one who k opened (Done chain last) job stores a b = ends_one who k _ stores a b
  comes_one who k opened (Fail c) job stores a b = ends_one who k _ stores a b

  -- A job that does not wait is not looked at.
  any_job : (who : ClientQuery) (k opened : ℕ) (next : Next) (job other : Job) (stores : Stores) → (IsAsk next → other ≡ job) → Comes s who k opened next other stores given also → Comes s who k opened next job stores given also
  any_job who k opened (AskUdp server n t) job other stores e h = subst (λ (x : Job). WaitsByUdp s who k opened server n t x stores given also) (e tt) h
  any_job who k opened (AskTcp server n t) job other stores e h = subst (λ (x : Job). WaitsByTcp s who k opened server n t x stores given also) (e tt) h
  any_job who k opened (Done chain last) job other stores e h = h
  any_job who k opened (Fail c) job other stores e h = h

  -- ---- one call, and what comes of it

  module _ (named : AreNamed (s.stores).delegations) (input : Input) (old : Job) (next other : Next) (job instead : Job) (after left : Stores)
      (call : Advances (s.site).home s.clock input old s.stores next job after) (again : Advances (s.site).home s.clock input old s.stores other instead left) where
    call_is : (other ≡ next) × (left ≡ after) × (IsAsk next → instead ≡ job)
    call_is = let (e, f, g, looks) = one_call (s.site).home s.clock input old s.stores next other job instead after left named call again in (e, f, g)

    -- What the second call gives is what the first one does.
    as_first : (P : Next → Job → Stores → Type 0) → ((j : Job) → (IsAsk next → j ≡ job) → P next j after → P next job after) → P other instead left → P next job after
    as_first P any h =
        any instead (call_is.2) (subst (λ (x : Next). P x instead after) call_is.0 (subst (λ (x : Stores). P other instead x) call_is.1 h))

  called_one : (named : AreNamed (s.stores).delegations) (input : Input) (old : Job) (next other : Next) (job instead : Job) (after left : Stores)
      → Advances (s.site).home s.clock input old s.stores next job after → Advances (s.site).home s.clock input old s.stores other instead left
      → (who : ClientQuery) (k opened : ℕ) → Comes s who k opened next job after out new → Comes s who k opened other instead left given also → Alike out given new also
  called_one named input old next other job instead after left call again who k opened a b =
      comes_one who k opened next job after a
      (as_first named input old next other job instead after left call again (λ n j st. Comes s who k opened n j st given also) (λ j e h. any_job who k opened next job j after e h) b)

-- ---- a client's query

module _ (s : State) (named : AreNamed (s.stores).delegations) (out given : List Action) (new also : State) where
  abbrev Same : Served → Served → Type 0
  Same served instead = (instead ≡ served) × Alike out given new also

  module _ (who : ClientQuery) (served instead : Served) where
    opened_one : (next : Next) (job other : Job) (stores : Stores) → (IsAsk next → other ≡ job) → IsOpened s who next job stores served out new → IsOpened s who next other stores instead given also → Same served instead
    opened_one next job other stores e (at_once is never comes) (at_once so none came) =
        (so ∙ sym is, comes_one s out given new also who s.opened s.opened next job stores comes (any_job s out given new also who s.opened s.opened next job other stores e came))
    opened_one next job other stores e (at_once is never comes) (crowded so asks many ends) = absurd (never asks)
    opened_one next job other stores e (at_once is never comes) (admitted so asks few came) = absurd (never asks)
    opened_one next job other stores e (crowded is asks many ends) (at_once so never came) = absurd (never asks)
    opened_one next job other stores e (crowded is asks many ends) (crowded so asked much ended) = (so ∙ sym is, ends_one s out given new also who s.opened _ stores ends ended)
    opened_one next job other stores e (crowded is asks many ends) (admitted so asked few came) = absurd (omega (arith, many, few))
    opened_one next job other stores e (admitted is asks few comes) (at_once so never came) = absurd (never asks)
    opened_one next job other stores e (admitted is asks few comes) (crowded so asked many ended) = absurd (omega (arith, many, few))
    opened_one next job other stores e (admitted is asks few comes) (admitted so asked less came) =
        (so ∙ sym is, comes_one s out given new also who s.opened (s.opened + 1) next job stores comes (any_job s out given new also who s.opened (s.opened + 1) next job other stores e came))

    resolves_one : Resolves s who served out new → Resolves s who instead given also → Same served instead
    resolves_one a b =
        let (e, f, g) = call_is s out given new also named Start _ a.next b.next a.job b.job a.stores b.stores a.advances b.advances in
        opened_one a.next a.job b.job a.stores g a.opened
        (subst (λ (x : Next). IsOpened s who x b.job a.stores instead given also) e (subst (λ (x : Stores). IsOpened s who b.next b.job x instead given also) f b.opened))

    at_hand_one : AnswersAtHand s who served out new → AnswersAtHand s who instead given also → Same served instead
    at_hand_one a b =
        let result : b.result ≡ a.result = answer_once (λ n. looked ((s.site).home).zones n (type_number (who.query).kind)) (who.query).name b.result a.result b.answers a.answers in
        let reply : IsReply who a.result b.action = subst (λ (x : Outcome Plain). IsReply who x b.action) result b.reply in
        (b.served_is ∙ sym a.served_is, (only_one a.action b.action out given a.out_is b.out_is (reply_one who a.result a.action b.action a.reply reply), state_is s new also a.state b.state))

  handled_one : (client : ℕ) (way : Via) (asked : Request Plain) (served instead : Served) → IsHandled s client way asked served out new → IsHandled s client way asked instead given also → Same served instead
  handled_one client way request.Drop served instead (is, none, same) (so, nothing, alike) = (so ∙ sym is, (nothing ∙ sym none, state_is s new also same alike))
  handled_one client way (request.Refuse refusal start echo) served instead (is, (action, refuses, one), same) (so, (other, refused, only), alike) =
      (so ∙ sym is, (only_one action other out given one only (refusal_one client way refusal start echo action other refuses refused), state_is s new also same alike))
  handled_one client way (request.Query q) served instead (inl (rd, a)) (inl (r, b)) = at_hand_one (client_query client way q) served instead a b
  handled_one client way (request.Query q) served instead (inl (rd, a)) (inr (r, b)) = absurd (let both : false ≡ true = sym rd ∙ r in cc)
  handled_one client way (request.Query q) served instead (inr (rd, a)) (inl (r, b)) = absurd (let both : false ≡ true = sym r ∙ rd in cc)
  handled_one client way (request.Query q) served instead (inr (rd, a)) (inr (r, b)) = resolves_one (client_query client way q) served instead a b

  -- ---- an event for an open query

  ignored_one : (e : Event) (served instead : Served) → IsIgnored s e served out new → IsIgnored s e instead given also → Same served instead
  ignored_one e served instead a b = (b.served_is ∙ sym a.served_is, (b.out_is ∙ sym a.out_is, state_is s new also a.state b.state))

  serves_one : (q : Open) (input : Input) → Serves s q input out new → Serves s q input given also → Alike out given new also
  serves_one q input a b =
      called_one s out given new also named input q.job a.next b.next a.job b.job a.stores b.stores a.advances b.advances q.client_query q.number s.opened a.comes b.comes

  told_one : (port : ℕ) (q : Open) (e : Event) (m n : Message) → Brings port q.ask e m → Brings port q.ask e n → m ≡ n
  told_one port q (Client now client way bytes) m n a b = absurd a
  told_one port q (Datagram now sock from bytes) m n a b = message_one bytes m n a.2 b.2
  told_one port q (TcpReply now number bytes) m n a b = message_one bytes m n a.1 b.1
  told_one port q (TcpFailed now number) m n a b = absurd a
  told_one port q (Tick now) m n a b = absurd a

  pub input_one : (e : Event) (q : Open) (x y : Input) → IsInput s e q x → IsInput s e q y → y ≡ x
  input_one (Client now client way bytes) q x y a b = absurd a
  input_one (Datagram now sock from bytes) q x y (m, a, is) (n, b, so) =
      so ∙ (ap (Told (via_of (q.ask).path) (q.ask).server) (told_one (s.site).port q (Datagram now sock from bytes) n m b a) ∙ sym is)
  input_one (TcpReply now number bytes) q x y (inl (m, a, is)) (inl (n, b, so)) =
      so ∙ (ap (Told (via_of (q.ask).path) (q.ask).server) (told_one (s.site).port q (TcpReply now number bytes) n m b a) ∙ sym is)
  input_one (TcpReply now number bytes) q x y (inl (m, a, is)) (inr (of, none, so)) = absurd (none m a)
  input_one (TcpReply now number bytes) q x y (inr (of, none, is)) (inl (m, b, so)) = absurd (none m b)
  input_one (TcpReply now number bytes) q x y (inr (of, none, is)) (inr (also_of, nothing, so)) = so ∙ sym is
  input_one (TcpFailed now number) q x y (of, is) (also_of, so) = so ∙ sym is
  input_one (Tick now) q x y (due, early, is) (first, before, so) = so ∙ sym is

  open_one : (e : Event) (served instead : Served) → (a : ServesOpen s e served out new) (b : ServesOpen s e instead given also) → b.query ≡ a.query → Same served instead
  open_one e served instead a b same =
      let brings : IsInput s e a.query b.input = subst (λ (x : Open). IsInput s e x b.input) same b.brings in
      let input : b.input ≡ a.input = input_one e a.query a.input b.input a.brings brings in
      let serves : Serves s a.query a.input given also = subst (λ (x : Input). Serves s a.query x given also) input (subst (λ (x : Open). Serves s x b.input given also) same b.serves) in
      (b.served_is ∙ (ap (λ (x : Open). OpenQuery x.number) same ∙ sym a.served_is), serves_one a.query a.input a.serves serves)

-- ---- due queries

-- A number is that of one open query.
abbrev pub AreSingle : State → Type 0
AreSingle s = (p q : Open) → Contains s.queries p → Contains s.queries q → p.number ≡ q.number → p ≡ q

first_one : (s : State) (p q : Open) → AreSingle s → IsFirstDue s p → IsFirstDue s q → p ≡ q
first_one s p q apart a b = apart p q a.stands b.stands (by (a.first q b.stands) (b.first p a.stands))
  where
    by : (due_moment p < due_moment q) ⊎ ((due_moment p ≡ due_moment q) × (p.number ≤ q.number)) → (due_moment q < due_moment p) ⊎ ((due_moment q ≡ due_moment p) × (q.number ≤ p.number)) → p.number ≡ q.number
    by (inl lt) (inl less) = absurd (omega (arith, lt, less))
    by (inl lt) (inr (e, le)) = absurd (omega (arith, lt, e))
    by (inr (e, le)) (inl lt) = absurd (omega (arith, lt, e))
    by (inr (e, le)) (inr (f, less)) = omega (arith, le, less)

followed_one : (first second out given : List Action) (new also : State) → Alike first second new also → IsFollowed first out new → IsFollowed second given also → Alike out given new also
followed_one first second out given new also (same, alike) a b = (by a b, alike)
  where
    clock : also.clock ≡ new.clock
    clock = ap (λ (x : State). x.clock) alike.others

    to : SomeDue new → SomeDue also
    to (q, c, due) = (q, (alike.queries).1 q c, subst (λ (x : ℕ). due_moment q ≤ x) (sym clock) due)

    back : SomeDue also → SomeDue new
    back (q, c, due) = (q, (alike.queries).0 q c, subst (λ (x : ℕ). due_moment q ≤ x) clock due)

    by : IsFollowed first out new → IsFollowed second given also → given ≡ out
    by (inl (is, some)) (inl (so, more)) = so ∙ (ap (λ (x : List Action). x ++ MoreDue ∷ []) same ∙ sym is)
    by (inl (is, some)) (inr (so, none)) = absurd (none (to some))
    by (inr (is, none)) (inl (so, some)) = absurd (none (back some))
    by (inr (is, none)) (inr (so, nothing)) = so ∙ (same ∙ sym is)

module _ (s : State) (named : AreNamed (s.stores).delegations) (apart : AreSingle s) (now : ℕ) where
  none_due : (served : Served) (out : List Action) (new : State) (q : Open) → IsIgnored s (Tick now) served out new → IsFirstDue s q → ⊥
  none_due served out new q a b = let late = a.nobody q b.stands in let due = b.due in omega (arith, late, due)

  module _ (first second : List Action) (new also : State) (served instead : Served) where
    ticks_one : IsLate s served first new ⊎ ServesOpen s (Tick now) served first new → IsLate s instead second also ⊎ ServesOpen s (Tick now) instead second also → (instead ≡ served) × Alike first second new also
    ticks_one (inl a) (inl b) =
        let same : b.query ≡ a.query = first_one s b.query a.query apart b.due a.due in (
          b.served_is ∙ (ap (λ (x : Open). OpenQuery x.number) same ∙ sym a.served_is),
          ends_one s first second new also (a.query).client_query (a.query).number (outcome.Fail cause.DeadlineOver) s.stores a.ends
              (subst (λ (x : Open). Ends s x.client_query x.number (outcome.Fail cause.DeadlineOver) s.stores second also) same b.ends),
        )
    ticks_one (inl a) (inr b) =
        let same = first_one s b.query a.query apart (b.brings).0 a.due in
        let early : s.clock < ((a.query).job).deadline = subst (λ (x : Open). s.clock < (x.job).deadline) same (b.brings).1 in
        let late = a.late in
        absurd (omega (arith, early, late))
    ticks_one (inr a) (inl b) =
        let same = first_one s a.query b.query apart (a.brings).0 b.due in
        let early : s.clock < ((b.query).job).deadline = subst (λ (x : Open). s.clock < (x.job).deadline) same (a.brings).1 in
        let late = b.late in
        absurd (omega (arith, early, late))
    ticks_one (inr a) (inr b) = open_one s named first second new also (Tick now) served instead a b (first_one s b.query a.query apart (b.brings).0 (a.brings).0)

  due_is : (served : Served) (first : List Action) (new : State) → IsLate s served first new ⊎ ServesOpen s (Tick now) served first new → (q : Open) × IsFirstDue s q
  due_is served first new (inl h) = (h.query, h.due)
  due_is served first new (inr h) = (h.query, (h.brings).0)

  ticked_one : (served instead : Served) (out given : List Action) (new also : State) → IsTicked s now served out new → IsTicked s now instead given also → (instead ≡ served) × Alike out given new also
  ticked_one served instead out given new also (inl a) (inl b) = ignored_one s named out given new also (Tick now) served instead a b
  ticked_one served instead out given new also (inl a) (inr (second, b, followed)) = let (q, due) = due_is instead second also b in absurd (none_due served out new q a due)
  ticked_one served instead out given new also (inr (first, a, follows)) (inl b) = let (q, due) = due_is served first new a in absurd (none_due instead given also q b due)
  ticked_one served instead out given new also (inr (first, a, follows)) (inr (second, b, followed)) =
      let (is, alike) = ticks_one first second new also served instead a b in
      (is, followed_one first second out given new also alike follows followed)

-- ---- the law

module _ (site : Site) (past : List Turn) (old : State) (legal : Run site past old) where
  abbrev at : Event → State
  at e = moved old e

  here : (old.site).port ≡ site.port
  here = ap (λ (x : Site). x.port) (clock_of_run site past old legal).1

  one : AreSingle old
  one = (open_by_run site past old legal).one

  -- Where a step serves an open query by a message or the end of an ask, so does every other step by this event.
  served_so : (e : Event) (served instead : Served) (out given : List Action) (new also : State) → ((now : ℕ) → e ≡ Tick now → ⊥) → ServesOpen (at e) e served out new → Step old e instead (Some given) also
      → instead ≡ served
  served_so (Client now client way bytes) served instead out given new also no_tick a step = absurd a.brings
  served_so (Datagram now sock from bytes) served instead out given new also no_tick a step =
      let (m, brings, told) = a.brings in
      accepted_is_heard site past old (turn_of (Datagram now sock from bytes) instead (Some given)) also legal step a.query m (a.serves).stands
      (subst (λ (x : ℕ). Brings x (a.query).ask (Datagram now sock from bytes) m) here brings) ∙ sym a.served_is
  served_so (TcpReply now number bytes) served instead out given new also no_tick a step = elim a.brings [
    | inl b ↦ (
        accepted_is_heard site past old (turn_of (TcpReply now number bytes) instead (Some given)) also legal step a.query b.0 (a.serves).stands
        (subst (λ (x : ℕ). Brings x (a.query).ask (TcpReply now number bytes) b.0) here b.1) ∙ sym a.served_is
        )
    | inr b ↦ tcp_is_heard site past old (turn_of (TcpReply now number bytes) instead (Some given)) also legal step a.query number (a.serves).stands b.0 refl ∙ sym a.served_is
  ]
  served_so (TcpFailed now number) served instead out given new also no_tick a step =
      tcp_is_heard site past old (turn_of (TcpFailed now number) instead (Some given)) also legal step a.query number (a.serves).stands (a.brings).0 refl ∙ sym a.served_is
  served_so (Tick now) served instead out given new also no_tick a step = absurd (no_tick now refl)

  module _ (served instead : Served) (out given : List Action) (new also : State) where
    abbrev Both : Type 0
    Both = (instead ≡ served) × Alike out given new also

    named : AreNamed (old.stores).delegations
    named = run_named site past old legal

    either_one : (e : Event) → ((now : ℕ) → e ≡ Tick now → ⊥) → Step old e served (Some out) new → Step old e instead (Some given) also
        → IsIgnored (at e) e served out new ⊎ ServesOpen (at e) e served out new → IsIgnored (at e) e instead given also ⊎ ServesOpen (at e) e instead given also → Both
    either_one e no_tick step again (inl a) (inl b) = ignored_one (at e) named out given new also e served instead a b
    either_one e no_tick step again (inl a) (inr b) =
        absurd (not_nobody (b.query).number (sym a.served_is ∙ (served_so e instead served given out also new no_tick b step ∙ b.served_is)))
    either_one e no_tick step again (inr a) (inl b) =
        absurd (not_nobody (a.query).number (sym b.served_is ∙ (served_so e served instead out given new also no_tick a again ∙ a.served_is)))
    either_one e no_tick step again (inr a) (inr b) =
        let number : (b.query).number ≡ (a.query).number = same_number (sym b.served_is ∙ (served_so e served instead out given new also no_tick a again ∙ a.served_is)) in
        open_one (at e) named out given new also e served instead a b (one b.query a.query (b.serves).stands (a.serves).stands number)

    step_one : (e : Event) → Step old e served (Some out) new → Step old e instead (Some given) also → Both
    step_one (Client now client way bytes) step again = by step.turn again.turn
      where
        by : IsTurn (at (Client now client way bytes)) (Client now client way bytes) served (Some out) new → IsTurn (at (Client now client way bytes)) (Client now client way bytes) instead (Some given) also → Both
        by (asked, reads, a) (other, read, b) =
            let same : other ≡ asked = asked_once bytes other asked read reads in
            handled_one (at (Client now client way bytes)) named out given new also client way asked served instead a
            (subst (λ (x : Request Plain). IsHandled (at (Client now client way bytes)) client way x instead given also) same b)
    step_one (Datagram now sock from bytes) step again = either_one (Datagram now sock from bytes) (λ n e. cc) step again step.turn again.turn
    step_one (TcpReply now number bytes) step again = either_one (TcpReply now number bytes) (λ n e. cc) step again step.turn again.turn
    step_one (TcpFailed now number) step again = either_one (TcpFailed now number) (λ n e. cc) step again step.turn again.turn
    step_one (Tick now) step again = ticked_one (at (Tick now)) named one now served instead out given new also step.turn again.turn

pub one_step : OneStep
one_step site past old event served out new legal step instead given also again = let (is, (so, same)) = step_one site past old legal served instead out given new also event step again in (is, so, same)
