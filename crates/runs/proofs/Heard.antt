-- What is accepted for an open ask is heard.
use Rattle.std.proofs.Common.{◌≡◌, ℕ, ◌≤◌, inl, inr, ◌⊎◌, Option, Some, None, List, [], ◌∷◌, length, refl, sym, ◌∙◌, ap, subst, arith}
use Rattle.std.specs.Prelude.{Contains}
use Rattle.zone.proofs.LawLists.{none_in, in_cases}
use Rattle.message_grammar.specs.Messages.{Header, Message, IsMessage}
use Rattle.wire.proofs.Heading.{header_takes}
use Rattle.runs.specs.States.{Endpoint, Event, Client, Datagram, TcpReply, TcpFailed, Tick, Action, Served, OpenQuery, Turn, ByTcp, Open, AreApart, Site, State, moved}
use Rattle.runs.specs.Messages.{Brings, id_in}
use Rattle.runs.specs.Steps.{IsOfLine, IsOfNumber, IsForNobody, IsInput, IsTurn, Step}
use Rattle.resolution.specs.Jobs.{Input}
use Rattle.runs.specs.Runs.{Run}
use Rattle.runs.specs.Laws.{IsForTcp}
use Rattle.runs.proofs.Clocks.{clock_of_run}
use Rattle.runs.proofs.Lines.{AreAlike, by_udp, by_tcp, IsParted, run_parted}

-- ---- no two open queries have one number

apart_one : (qs : List Open) → AreApart qs → (p q : Open) → Contains qs p → Contains qs q → p.number ≡ q.number → p ≡ q
apart_one [] apart p q mp mq same = absurd (none_in p mp)
apart_one (x ∷ qs) apart p q mp mq same = by (in_cases x p qs mp) (in_cases x q qs mq) (λ a b. apart_one qs apart.1 p q a b same)
  where
    by : (x ≡ p) ⊎ Contains qs p → (x ≡ q) ⊎ Contains qs q → (Contains qs p → Contains qs q → p ≡ q) → p ≡ q
    by (inl e) (inl f) more = sym e ∙ f
    by (inl e) (inr m) more = absurd (apart.0 q m (sym same ∙ ap (λ (o : Open). o.number) (sym e)))
    by (inr m) (inl f) more = absurd (apart.0 p m (same ∙ ap (λ (o : Open). o.number) (sym f)))
    by (inr a) (inr b) more = more a b

run_apart : (site : Site) (run : List Turn) (s : State) → Run site run s → AreApart s.queries
run_apart site [] s new = subst AreApart (sym new.queries) tt
run_apart site (t ∷ past) s (old, legal, step) = step.apart

-- ---- lines

-- A message's ID stands in front of its bytes, and they are 12 at least.
head_of : (bytes : List ℕ) (m : Message) → IsMessage bytes m → (12 ≤ length bytes) × (id_in bytes ≡ (m.header).id)
head_of bytes m is =
    let read = header_takes bytes m.header is.counts is.header is.fits_header is.fit_counts in
    let id = ap (λ (h : Header). h.id) read.header in
    (read.long, omega (arith, id))

line_of : (port now sock : ℕ) (from : Endpoint) (bytes : List ℕ) (q : Open) (m : Message) → Brings port q.ask (Datagram now sock from bytes) m → IsOfLine sock from bytes q
line_of port now sock from bytes q m (path, sender, is, answers) =
    (path, sym (ap (λ (e : Endpoint). e.address) sender), sym ((head_of bytes m is).1 ∙ answers.id))

lines_alike : (sock : ℕ) (from : Endpoint) (bytes : List ℕ) (p q : Open) → IsOfLine sock from bytes p → IsOfLine sock from bytes q → AreAlike p.ask q.ask
lines_alike sock from bytes p q (a, b, c) (x, y, z) = by_udp sock a x (b ∙ sym y) (c ∙ sym z)

-- ---- an event for an open query

module _ (port : ℕ) (s : State) (here : (s.site).port ≡ port) (parted : IsParted s) (apart : AreApart s.queries) (q : Open) (stands : Contains s.queries q) where
  -- Queries whose asks are alike are served under one number.
  same_served : (served : Served) (p : Open) → Contains s.queries p → served ≡ OpenQuery p.number → AreAlike p.ask q.ask → served ≡ OpenQuery q.number
  same_served served p m is alike = is ∙ ap OpenQuery (parted.one p q m stands alike)

  datagram_heard : (now sock : ℕ) (from : Endpoint) (bytes : List ℕ) (m : Message) (served : Served) (out : Option (List Action)) (new : State) → Brings port q.ask (Datagram now sock from bytes) m
      → IsTurn s (Datagram now sock from bytes) served out new → served ≡ OpenQuery q.number
  datagram_heard now sock from bytes m served None new brings (p, mp, is, meant, left) =
      same_served served p mp is (lines_alike sock from bytes p q meant.1 (line_of port now sock from bytes q m brings))
  datagram_heard now sock from bytes m served (Some out) new brings (inl h) = absurd (nobody h.nobody)
    where
      line : IsOfLine sock from bytes q
      line = line_of port now sock from bytes q m brings

      one : (p : Open) → Contains s.queries p → IsOfLine sock from bytes p → q ≡ p
      one p mp is = apart_one s.queries apart q p stands mp (sym (parted.one p q mp stands (lines_alike sock from bytes p q is line)))

      nobody : IsForNobody s (Datagram now sock from bytes) → ⊥
      nobody (inl other) = other (ap (λ (e : Endpoint). e.port) brings.1 ∙ sym here)
      nobody (inr (inl short)) = let long = (head_of bytes m brings.2).0 in absurd (omega (arith, long, short))
      nobody (inr (inr (inl none))) = none q stands line
      nobody (inr (inr (inr (p, mp, is, unfit)))) =
          unfit m (subst (λ (n : ℕ). Brings n p.ask (Datagram now sock from bytes) m) (sym here)
          (subst (λ (x : Open). Brings port x.ask (Datagram now sock from bytes) m) (one p mp is) brings))
  datagram_heard now sock from bytes m served (Some out) new brings (inr h) =
      let (n, theirs, e) = h.brings in
      same_served served h.query (h.serves).stands h.served_is
      (lines_alike sock from bytes h.query q (line_of (s.site).port now sock from bytes h.query n theirs) (line_of port now sock from bytes q m brings))

  tcp_heard : (number : ℕ) (event : Event) (served : Served) (out : Option (List Action)) (new : State) → IsOfNumber number q → IsForTcp number event → IsTurn s event served out new → served ≡ OpenQuery q.number
  tcp_heard number (Client now client way bytes) served out new path none turn = absurd none
  tcp_heard number (Datagram now sock from bytes) served out new path none turn = absurd none
  tcp_heard number (Tick now) served out new path none turn = absurd none
  tcp_heard number (TcpReply now other bytes) served None new path is (p, mp, serves, meant, left) = same_served served p mp serves (by_tcp number (meant ∙ ap ByTcp is) path)
  tcp_heard number (TcpReply now other bytes) served (Some out) new path is (inl h) = absurd (h.nobody q stands (path ∙ ap ByTcp (sym is)))
  tcp_heard number (TcpReply now other bytes) served (Some out) new path is (inr h) = same_served served h.query (h.serves).stands h.served_is (by_tcp number (their h.query h.input h.brings ∙ ap ByTcp is) path)
    where
      their : (p : Open) (input : Input) → IsInput s (TcpReply now other bytes) p input → IsOfNumber other p
      their p input (inl (m, brings, e)) = brings.0
      their p input (inr (of, unfit, e)) = of
  tcp_heard number (TcpFailed now other) served None new path is (p, mp, serves, meant, left) = same_served served p mp serves (by_tcp number (meant ∙ ap ByTcp is) path)
  tcp_heard number (TcpFailed now other) served (Some out) new path is (inl h) = absurd (h.nobody q stands (path ∙ ap ByTcp (sym is)))
  tcp_heard number (TcpFailed now other) served (Some out) new path is (inr h) = same_served served h.query (h.serves).stands h.served_is (by_tcp number ((h.brings).0 ∙ ap ByTcp is) path)

  brings_heard : (m : Message) (event : Event) (served : Served) (out : Option (List Action)) (new : State) → Brings port q.ask event m → IsTurn s event served out new → served ≡ OpenQuery q.number
  brings_heard m (Client now client way bytes) served out new none turn = absurd none
  brings_heard m (Datagram now sock from bytes) served out new brings turn = datagram_heard now sock from bytes m served out new brings turn
  brings_heard m (TcpReply now number bytes) served out new brings turn = tcp_heard number (TcpReply now number bytes) served out new brings.0 refl turn
  brings_heard m (TcpFailed now number) served out new none turn = absurd none
  brings_heard m (Tick now) served out new none turn = absurd none

pub accepted_is_heard : (site : Site) (past : List Turn) (old : State) (t : Turn) (new : State) → Run site past old → Step old t.event t.served t.out new → (q : Open) (m : Message) → Contains old.queries q
    → Brings site.port q.ask t.event m → t.served ≡ OpenQuery q.number
accepted_is_heard site past old t new legal step q m stands brings =
    let parted = run_parted site past old legal in
    brings_heard site.port (moved old t.event) (ap (λ (x : Site). x.port) (clock_of_run site past old legal).1) (record { below = parted.below; tcp = parted.tcp; one = parted.one })
    (run_apart site past old legal) q stands m t.event t.served t.out new brings step.turn

pub tcp_is_heard : (site : Site) (past : List Turn) (old : State) (t : Turn) (new : State) → Run site past old → Step old t.event t.served t.out new → (q : Open) (number : ℕ) → Contains old.queries q
    → IsOfNumber number q → IsForTcp number t.event → t.served ≡ OpenQuery q.number
tcp_is_heard site past old t new legal step q number stands path is =
    let parted = run_parted site past old legal in
    tcp_heard site.port (moved old t.event) (ap (λ (x : Site). x.port) (clock_of_run site past old legal).1) (record { below = parted.below; tcp = parted.tcp; one = parted.one })
    (run_apart site past old legal) q stands number t.event t.served t.out new path is step.turn
