-- What is carried is a message that the server may send to the question that it is accepted for.
use Rattle.std.proofs.Common.{◌≡◌, ℕ, ◌⊎◌, inl, inr, true, Option, Some, None, List, [], ◌∷◌, refl, sym, ap, ◌∙◌, subst}
use Rattle.zone.proofs.LawLists.{none_in}
use Rattle.dname.specs.Labels.{Name}
use Rattle.message_grammar.specs.Messages.{Header, Question, Message, IsMessage}
use Rattle.message_grammar.proofs.Single.{message_one}
use Rattle.world_truth.specs.Worlds.{Address, World, IsWorld}
use Rattle.world_truth.specs.Serving.{IsTruncationOf, MayServe}
use Rattle.front.proofs.Echoes.{echo_is_question}
use Rattle.worlds.specs.Hosting.{IsServed}
use Rattle.worlds.proofs.Hosted.{host_serves}
use Rattle.runs.specs.States.{Endpoint, Path, ByUdp, ByTcp, Ask, Plain}
use Rattle.runs.specs.States as resolver
use Rattle.runs.specs.Messages.{question_for, AnswersAsk, Brings}
use Rattle.network.specs.Networks.{Sent, Network, sent_at, NetworkEvent, Client, Carry, CarryTruncated, CarryTcp, Lose, Tick, IsGiven, truncated, IsTruncatedReply, IsFitReply, IsDatagram, IsStream, OverUdp, OverTcp, lost, OfSend, Reaches}

-- ---- a reply, whole or truncated, may be served

truncated_is_served : (W : World) (a : Address) (n : Name) (t : ℕ) (m : Message) → MayServe W a n t m → MayServe W a n t (truncated m)
truncated_is_served W a n t m (inl tells) =
    inr (m, tells, record { header = refl; answer = λ r c. absurd (none_in r c); authority = λ r c. absurd (none_in r c); additional = λ r c. absurd (none_in r c) })
truncated_is_served W a n t m (inr (whole, tells, short)) = let k : IsTruncationOf whole m = short in
    inr (whole, tells, record { header = ap (λ (h : Header). record h { tc = true }) k.header; answer = λ r c. absurd (none_in r c); authority = λ r c. absurd (none_in r c); additional = λ r c. absurd (none_in r c) })

-- What comes of a reply: itself, or what is left of it.
abbrev Comes : List ℕ → List ℕ → Type 0
Comes given come = (come ≡ given) ⊎ IsTruncatedReply given come

fit_comes : (given come : List ℕ) → IsFitReply given come → Comes given come
fit_comes given come (inl (few, same)) = inl same
fit_comes given come (inr (many, short)) = inr short

one_question : (x : Question) (y : Question) → (x ∷ []) ≡ y ∷ [] → x ≡ y
one_question x y e = cc

module _ (W : World) (at : Address) (a : Ask) (m : Message) (fits : AnswersAsk a m) where
  -- The same question is asked and answered.
  to_asked : (n : Name) (t : ℕ) (read : Message) → read.questions ≡ question_for n t ∷ [] → m.questions ≡ read.questions → MayServe W at n t m → MayServe W at a.name a.kind m
  to_asked n t read answers same serves =
      let is : question_for n t ≡ question_for a.name a.kind = one_question _ _ (sym answers ∙ (sym same ∙ fits.question)) in
      let name : n ≡ a.name = ap (λ (q : Question). q.name) is in
      let kind : t ≡ a.kind = ap (λ (q : Question). q.qtype) is in
      subst (λ (x : Name). MayServe W at x a.kind m) name (subst (λ (k : ℕ). MayServe W at n k m) kind serves)

  come_serves : (n : Name) (t : ℕ) (given come : List ℕ) → IsServed W at n t given → Comes given come → IsMessage come m → MayServe W at a.name a.kind m
  come_serves n t given come h (inl same) is =
      let one : h.read ≡ m = message_one given _ _ h.message (subst (λ (bs : List ℕ). IsMessage bs m) same is) in
      to_asked n t h.read (h.reply).question (ap (λ (x : Message). x.questions) (sym one)) (subst (MayServe W at n t) one h.serves)
  come_serves n t given come h (inr short) is =
      let one : h.read ≡ short.read = message_one given _ _ h.message short.message in
      let left : truncated short.read ≡ m = message_one come _ _ short.stands is in
      let down : truncated h.read ≡ m = ap truncated one ∙ left in
      to_asked n t h.read (h.reply).question (ap (λ (x : Message). x.questions) (sym down)) (subst (MayServe W at n t) down (truncated_is_served W at n t h.read h.serves))

-- ---- by the event

-- The server whose reply is carried is the one that is asked under this ask's number.
abbrev pub IsAskOf : Ask → Sent → Type 0
IsAskOf a x = (number : ℕ) → a.path ≡ ByTcp number → x.path ≡ ByTcp number → ((x.to).address) ≡ a.server

module _ (s : Network) (w : IsWorld s.world) (port : ℕ) (a : Ask) (m : Message) where
  abbrev Goal : Type 0
  Goal = MayServe s.world (a.server).0 a.name a.kind m

  -- A reply of the server that was asked.
  serves_at : (x : Sent) (given come : List ℕ) → ((x.to).address) ≡ a.server → IsGiven s.world x (Some given) → Comes given come → IsMessage come m → AnswersAsk a m → Goal
  serves_at x given come there is comes read fits =
      let (n, t, served) = host_serves {A = Plain} s.world ((x.to).address).0 x.bytes given echo_is_question w is in
      subst (λ (b : _). MayServe s.world (b).0 a.name a.kind m) there (come_serves s.world ((x.to).address).0 a m fits n t given come served comes read)

  brought_as : (e f : resolver.Event) → Some e ≡ Some f → Brings port a e m → Brings port a f m
  brought_as e f same brings = let is : e ≡ f = cc in subst (λ (x : resolver.Event). Brings port a x m) is brings

  by_datagram : (comes : List ℕ → List ℕ → Type 0) (now sock : ℕ) (x : Sent) (e : resolver.Event) (given : Option (List ℕ)) → ((g c : List ℕ) → comes g c → Comes g c)
      → IsGiven s.world x given → IsDatagram comes now sock x.to given (Some e) → Brings port a e m → Goal
  by_datagram comes now sock x e None weak is none brings = absurd (cc)
  by_datagram comes now sock x e (Some given) weak is (come, here, same) brings =
      let (path, from, read, fits) = brought_as e (resolver.Datagram now sock x.to come) same brings in
      serves_at x given come (ap (λ (p : Endpoint). p.address) from) is (weak given come here) read fits

  over_udp : (comes : List ℕ → List ℕ → Type 0) (now : ℕ) (x : Sent) (path : Path) (e : resolver.Event) → ((g c : List ℕ) → comes g c → Comes g c)
      → OverUdp s.world comes now x path (Some e) → Brings port a e m → Goal
  over_udp comes now x (ByUdp sock) e weak (given, is, here) brings = by_datagram comes now sock x e given weak is here brings
  over_udp comes now x (ByTcp number) e weak none brings = absurd (cc)

  by_stream : (now number : ℕ) (x : Sent) (e : resolver.Event) (given : Option (List ℕ)) → x.path ≡ ByTcp number → IsAskOf a x
      → IsGiven s.world x given → IsStream now number given (Some e) → Brings port a e m → Goal
  by_stream now number x e None path ours is same brings = absurd (brought_as e (resolver.TcpFailed now number) same brings)
  by_stream now number x e (Some given) path ours is same brings =
      let (by, read, fits) = brought_as e (resolver.TcpReply now number given) same brings in
      serves_at x given given (ours number by path) is (inl refl) read fits

  over_tcp : (now : ℕ) (x : Sent) (path : Path) (e : resolver.Event) → x.path ≡ path → IsAskOf a x → OverTcp s.world now x path (Some e) → Brings port a e m → Goal
  over_tcp now x (ByUdp sock) e same ours none brings = absurd (cc)
  over_tcp now x (ByTcp number) e same ours (given, is, here) brings = by_stream now number x e given same ours is here brings

  is_lost : (now : ℕ) (path : Path) (e : resolver.Event) → Some e ≡ lost now path → Brings port a e m → Goal
  is_lost now (ByUdp sock) e none brings = absurd (cc)
  is_lost now (ByTcp number) e same brings = absurd (brought_as e (resolver.TcpFailed now number) same brings)

  of_send : (Of : Sent → Option resolver.Event → Type 0) (x : Option Sent) (e : resolver.Event) → ((y : Sent) → x ≡ Some y → Of y (Some e) → Goal) → OfSend Of x (Some e) → Goal
  of_send Of None e by none = absurd (cc)
  of_send Of (Some y) e by here = by y refl here

  pub reached_serves : (event : NetworkEvent) (e : resolver.Event) → ((k : ℕ) (x : Sent) → sent_at s.sends k ≡ Some x → IsAskOf a x) → Reaches s event (Some e) → Brings port a e m → Goal
  reached_serves (Client now client way bytes) e ours same brings = absurd (brought_as e (resolver.Client now client way bytes) same brings)
  reached_serves (Carry now k) e ours h brings =
      of_send (λ x. OverUdp s.world IsFitReply now x x.path) (sent_at s.sends k) e (λ x is here. over_udp IsFitReply now x x.path e fit_comes here brings) h
  reached_serves (CarryTruncated now k) e ours h brings =
      of_send (λ x. OverUdp s.world IsTruncatedReply now x x.path) (sent_at s.sends k) e (λ x is here. over_udp IsTruncatedReply now x x.path e (λ g c short. inr short) here brings) h
  reached_serves (CarryTcp now k) e ours h brings =
      of_send (λ x. OverTcp s.world now x x.path) (sent_at s.sends k) e (λ x is here. over_tcp now x x.path e refl (ours k x is) here brings) h
  reached_serves (Lose now k) e ours h brings = of_send (λ x l. l ≡ lost now x.path) (sent_at s.sends k) e (λ x is here. is_lost now x.path e here brings) h
  reached_serves (Tick now) e ours same brings = absurd (brought_as e (resolver.Tick now) same brings)
