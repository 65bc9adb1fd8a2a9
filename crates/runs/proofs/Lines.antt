-- In each run no two open asks are alike: over UDP in socket, server and ID, over TCP in number.
use Rattle.std.proofs.Common.{◌≡◌, ◌≢◌, ℕ, ◌+◌, ◌≤◌, ◌<◌, inl, inr, ◌⊎◌, Option, Some, None, List, [], ◌∷◌, sym, ◌∙◌, ap, subst, arith}
use Rattle.std.specs.Prelude.{Contains}
use Rattle.zone.proofs.LawLists.{none_in}
use Rattle.wire.specs.declared.via.Via.{Via}
use Rattle.front.specs.declared.queries.Request.{Request}
use Rattle.front.specs.declared.queries.Request.TheVariants as request
use Rattle.front.specs.declared.queries.Outcome.{Outcome}
use Rattle.resolution.specs.Jobs.{Stores, Job, Next, AskUdp, AskTcp, Done, Fail}
use Rattle.runs.specs.States.{Event, Client, Datagram, TcpReply, TcpFailed, Tick, Action, Served, Turn, Plain, ClientQuery, ByUdp, ByTcp, Ask, Open, Site, State, moved}
use Rattle.runs.specs.Steps.{AreOthers, AreWith, Ends, WaitsByUdp, WaitsByTcp, Comes, IsOpened, at_once, crowded, admitted, IsHandled, IsAsk, ServesOpen, IsTicked, IsLeft, IsTurn}
use Rattle.runs.specs.Runs.{Run}

-- Two asks that one reply could answer.
pub data AreAlike (a b : Ask) : Type 0 where
  by_udp : (sock : ℕ) → a.path ≡ ByUdp sock → b.path ≡ ByUdp sock → a.server ≡ b.server → a.id ≡ b.id → AreAlike a b
  by_tcp : (number : ℕ) → a.path ≡ ByTcp number → b.path ≡ ByTcp number → AreAlike a b

alike_back : (a b : Ask) → AreAlike a b → AreAlike b a
alike_back a b (by_udp sock one two server id) = by_udp sock two one (sym server) (sym id)
alike_back a b (by_tcp number one two) = by_tcp number two one

-- The open queries, their numbers below the next one, and so those of their asks over TCP.
pub record AreLines (qs : List Open) (opened asked : ℕ) : Type 0 where
  pub below : (q : Open) → Contains qs q → q.number < opened
  pub tcp : (q : Open) (n : ℕ) → Contains qs q → (q.ask).path ≡ ByTcp n → n < asked
  pub one : (p q : Open) → Contains qs p → Contains qs q → AreAlike p.ask q.ask → p.number ≡ q.number

abbrev pub IsParted : State → Type 0
IsParted s = AreLines s.queries s.opened s.tcp_asks

udp_not_tcp : {P : Type 0} (a b : ℕ) → ByUdp a ≡ ByTcp b → P
udp_not_tcp a b e = cc

one_sock : (a b : ℕ) → ByUdp a ≡ ByUdp b → a ≡ b
one_sock a b e = cc

one_tcp : (a b : ℕ) → ByTcp a ≡ ByTcp b → a ≡ b
one_tcp a b e = cc

module _ (s : State) (parted : IsParted s) where
  others_parted : (k : ℕ) (new : State) → AreOthers k s.queries new.queries → new.opened ≡ s.opened → new.tcp_asks ≡ s.tcp_asks → IsParted new
  others_parted k new others opened asked = record {
    below = λ q m. subst (λ (n : ℕ). q.number < n) (sym opened) (parted.below q (others.only q m).0);
    tcp = λ q n m path. subst (λ (x : ℕ). n < x) (sym asked) (parted.tcp q n (others.only q m).0 path);
    one = λ p q mp mq alike. parted.one p q (others.only p mp).0 (others.only q mq).0 alike;
  }

  ends_parted : (who : ClientQuery) (k : ℕ) (o : Outcome Plain) (stores : Stores) (out : List Action) (new : State) → Ends s who k o stores out new → IsParted new
  ends_parted who k o stores out new h = others_parted k new h.queries (ap (λ (x : State). x.opened) h.state) (ap (λ (x : State). x.tcp_asks) h.state)

  -- With a new ask that is like none of the others.
  with_parted : (after : Open) (new : State) → AreWith after s.queries new.queries → after.number < new.opened → s.opened ≤ new.opened → s.tcp_asks ≤ new.tcp_asks
      → ((n : ℕ) → (after.ask).path ≡ ByTcp n → n < new.tcp_asks) → ((p : Open) → Contains s.queries p → p.number ≢ after.number → AreAlike p.ask after.ask → ⊥) → IsParted new
  with_parted after new are lt opened asked tcp apart = record {
    below = λ q m. elim (are.only q m) as (λ x. q.number < new.opened) [
      | inl same ↦ subst (λ (x : Open). x.number < new.opened) (sym same) lt
      | inr old ↦ let less = parted.below q old.0 in omega (arith, less, opened)
    ];
    tcp = λ q n m path. elim (are.only q m) as (λ x. n < new.tcp_asks) [
      | inl same ↦ tcp n (ap (λ (x : Open). (x.ask).path) (sym same) ∙ path)
      | inr old ↦ let less = parted.tcp q n old.0 path in omega (arith, less, asked)
    ];
    one = λ p q mp mq alike. pair p q (are.only p mp) (are.only q mq) alike;
  }
    where
      pair : (p q : Open) → (p ≡ after) ⊎ (Contains s.queries p × (p.number ≢ after.number)) → (q ≡ after) ⊎ (Contains s.queries q × (q.number ≢ after.number)) → AreAlike p.ask q.ask → p.number ≡ q.number
      pair p q (inl x) (inl y) alike = ap (λ (o : Open). o.number) x ∙ sym (ap (λ (o : Open). o.number) y)
      pair p q (inl x) (inr y) alike = absurd (apart q y.0 y.1 (subst (λ (o : Open). AreAlike q.ask o.ask) x (alike_back p.ask q.ask alike)))
      pair p q (inr x) (inl y) alike = absurd (apart p x.0 x.1 (subst (λ (o : Open). AreAlike p.ask o.ask) y alike))
      pair p q (inr x) (inr y) alike = parted.one p q x.0 y.0 alike

  udp_parted : (who : ClientQuery) (k opened : ℕ) (server : _) (n : _) (t : ℕ) (job : Job) (stores : Stores) (out : List Action) (new : State) → k < opened → s.opened ≤ opened
      → WaitsByUdp s who k opened server n t job stores out new → IsParted new
  udp_parted who k opened server n t job stores out new lt le h =
      let o : new.opened ≡ opened = ap (λ (x : State). x.opened) (h.waits).state in
      let a : new.tcp_asks ≡ s.tcp_asks = ap (λ (x : State). x.tcp_asks) (h.waits).state in
      with_parted _ new (h.waits).queries (subst (λ (x : ℕ). k < x) (sym o) lt) (subst (λ (x : ℕ). s.opened ≤ x) (sym o) le) (omega (arith, a))
      (λ m path. udp_not_tcp _ m (sym (h.goes).path ∙ path)) free
    where
      free : (p : Open) → Contains s.queries p → p.number ≢ k → AreAlike p.ask h.ask → ⊥
      free p m other (by_udp sock one two same id) =
          ((h.goes).id).free (p, m, other, one ∙ ap ByUdp (one_sock sock (h.goes).sock (sym two ∙ (h.goes).path)), same, id)
      free p m other (by_tcp number one two) = udp_not_tcp _ number (sym (h.goes).path ∙ two)

  tcp_parted : (who : ClientQuery) (k opened : ℕ) (server : _) (n : _) (t : ℕ) (job : Job) (stores : Stores) (out : List Action) (new : State) → k < opened → s.opened ≤ opened
      → WaitsByTcp s who k opened server n t job stores out new → IsParted new
  tcp_parted who k opened server n t job stores out new lt le h =
      let o : new.opened ≡ opened = ap (λ (x : State). x.opened) (h.waits).state in
      let a : new.tcp_asks ≡ s.tcp_asks + 1 = ap (λ (x : State). x.tcp_asks) (h.waits).state in
      with_parted _ new (h.waits).queries (subst (λ (x : ℕ). k < x) (sym o) lt) (subst (λ (x : ℕ). s.opened ≤ x) (sym o) le) (omega (arith, a))
      (λ m path. let same : s.tcp_asks ≡ m = one_tcp s.tcp_asks m (sym (h.goes).path ∙ path) in omega (arith, same, a)) free
    where
      free : (p : Open) → Contains s.queries p → p.number ≢ k → AreAlike p.ask h.ask → ⊥
      free p m other (by_udp sock one two same id) = udp_not_tcp sock _ (sym two ∙ (h.goes).path)
      free p m other (by_tcp number one two) =
          let less = parted.tcp p number m one in
          let same : number ≡ s.tcp_asks = one_tcp number s.tcp_asks (sym two ∙ (h.goes).path) in
          absurd (omega (arith, less, same))

  comes_parted : (who : ClientQuery) (k opened : ℕ) (next : Next) (job : Job) (stores : Stores) (out : List Action) (new : State) → k < opened → s.opened ≤ opened
      → Comes s who k opened next job stores out new → IsParted new
  comes_parted who k opened (AskUdp server n t) job stores out new lt le h = udp_parted who k opened server n t job stores out new lt le h
  comes_parted who k opened (AskTcp server n t) job stores out new lt le h = tcp_parted who k opened server n t job stores out new lt le h
  comes_parted who k opened (Done chain last) job stores out new lt le h = ends_parted who k _ stores out new h
  comes_parted who k opened (Fail c) job stores out new lt le h = ends_parted who k _ stores out new h

  -- A query that is over at once: nothing is asked.
  over_parted : (who : ClientQuery) (next : Next) (job : Job) (stores : Stores) (out : List Action) (new : State) → (IsAsk next → ⊥) → Comes s who s.opened s.opened next job stores out new → IsParted new
  over_parted who (AskUdp server n t) job stores out new over h = absurd (over tt)
  over_parted who (AskTcp server n t) job stores out new over h = absurd (over tt)
  over_parted who (Done chain last) job stores out new over h = ends_parted who _ _ stores out new h
  over_parted who (Fail c) job stores out new over h = ends_parted who _ _ stores out new h

  opened_parted : (who : ClientQuery) (next : Next) (job : Job) (stores : Stores) (served : Served) (out : List Action) (new : State) → IsOpened s who next job stores served out new → IsParted new
  opened_parted who next job stores served out new (at_once served_is over comes) = over_parted who next job stores out new over comes
  opened_parted who next job stores served out new (crowded served_is asks many ends) = ends_parted who _ _ stores out new ends
  opened_parted who next job stores served out new (admitted served_is asks few comes) = comes_parted who s.opened (s.opened + 1) next job stores out new (omega arith) (omega arith) comes

  same_parted : (new : State) → new ≡ s → IsParted new
  same_parted new is = subst IsParted (sym is) parted

  handled_parted : (client : ℕ) (way : Via) (asked : Request Plain) (served : Served) (out : List Action) (new : State) → IsHandled s client way asked served out new → IsParted new
  handled_parted client way request.Drop served out new h = same_parted new h.2
  handled_parted client way (request.Refuse refusal start echo) served out new h = same_parted new h.2
  handled_parted client way (request.Query q) served out new (inl (rd, h)) = same_parted new h.state
  handled_parted client way (request.Query q) served out new (inr (rd, h)) = opened_parted _ _ _ _ served out new h.opened

  hears_parted : (event : Event) (served : Served) (out : List Action) (new : State) → ServesOpen s event served out new → IsParted new
  hears_parted event served out new h =
      comes_parted _ _ s.opened _ _ _ out new (parted.below h.query (h.serves).stands) (omega arith) (h.serves).comes

  left_parted : (k : ℕ) (P : Stores → Type 0) (new : State) → IsLeft s k P new → IsParted new
  left_parted k P new h = others_parted k new h.queries (ap (λ (x : State). x.opened) h.state) (ap (λ (x : State). x.tcp_asks) h.state)

  ticked_parted : (now : ℕ) (served : Served) (out : List Action) (new : State) → IsTicked s now served out new → IsParted new
  ticked_parted now served out new (inl h) = same_parted new h.state
  ticked_parted now served out new (inr (first, inl h, followed)) = ends_parted _ _ _ _ first new h.ends
  ticked_parted now served out new (inr (first, inr h, followed)) = hears_parted (Tick now) served first new h

  turn_parted : (event : Event) (served : Served) (out : Option (List Action)) (new : State) → IsTurn s event served out new → IsParted new
  turn_parted (Client now client way bytes) served None new h = left_parted _ _ new h.1
  turn_parted (Datagram now sock from bytes) served None new h = left_parted _ _ new h.4
  turn_parted (TcpReply now number bytes) served None new h = left_parted _ _ new h.4
  turn_parted (TcpFailed now number) served None new h = left_parted _ _ new h.4
  turn_parted (Tick now) served None new h = left_parted _ _ new h.4
  turn_parted (Client now client way bytes) served (Some out) new (asked, reads, h) = handled_parted client way asked served out new h
  turn_parted (Datagram now sock from bytes) served (Some out) new (inl h) = same_parted new h.state
  turn_parted (Datagram now sock from bytes) served (Some out) new (inr h) = hears_parted _ served out new h
  turn_parted (TcpReply now number bytes) served (Some out) new (inl h) = same_parted new h.state
  turn_parted (TcpReply now number bytes) served (Some out) new (inr h) = hears_parted _ served out new h
  turn_parted (TcpFailed now number) served (Some out) new (inl h) = same_parted new h.state
  turn_parted (TcpFailed now number) served (Some out) new (inr h) = hears_parted _ served out new h
  turn_parted (Tick now) served (Some out) new h = ticked_parted now served out new h

pub run_parted : (site : Site) (run : List Turn) (s : State) → Run site run s → IsParted s
run_parted site [] s new = record {
  below = λ q m. absurd (none_in q (subst (λ (qs : List Open). Contains qs q) new.queries m));
  tcp = λ q n m path. absurd (none_in q (subst (λ (qs : List Open). Contains qs q) new.queries m));
  one = λ p q mp mq alike. absurd (none_in p (subst (λ (qs : List Open). Contains qs p) new.queries mp));
}
run_parted site (t ∷ past) s (old, legal, step) =
    let before = run_parted site past old legal in
    turn_parted (moved old t.event) (record { below = before.below; tcp = before.tcp; one = before.one }) t.event t.served t.out s step.turn
