-- What the index by asks and by due moments finds among open queries.
use Rattle.std.proofs.Common.{◌≡◌, ℕ, Option, Some, None, List, [], ◌∷◌, refl, sym, ◌∙◌, ap, subst, arith}
use Rattle.std.specs.List.{Contains}
use Rattle.rdata.specs.declared.addr.Addr.{Addr}
use Rattle.asks.specs.declared.ask.AskKey.{AskKey}
use Rattle.asks.specs.declared.ask.Waiting.{Waiting}
use Rattle.asks.specs.Waits.{waiting, IsFreeFor}
use Rattle.asks.specs.Waits as indexed
use Rattle.runs.specs.States.{Path, ByUdp, ByTcp, Ask, Open}
use Rattle.open_queries.specs.Lookups.{IsOnLine, IsOnStream, IsFound, IsFreeBy, IsFree, IsEarliestQuery, IsEarliest, HasNo, IsTheOne}
use Rattle.open_queries.specs.Indexes.{ask_by, udp_ask, held, WaitsAs, StreamsTo}

abbrev line : ℕ → Addr → ℕ → AskKey
line sock server id = record { socket = sock; server = server; id = id }

-- An ask that is indexed under a socket, a server and an ID has these.
same_inside : {T : Type 0} (a b : T) → Some a ≡ Some b → a ≡ b
same_inside a b e = cc

same_line : (sock : ℕ) (server : Addr) (id : ℕ) (path : Path) (to : Addr) (under : ℕ) → ask_by path to under ≡ Some (line sock server id) → (path ≡ ByUdp sock) × (to ≡ server) × (under ≡ id)
same_line sock server id (ByUdp own) to under e =
    let is = same_inside (line own to under) (line sock server id) e in
    (ap (λ (a : AskKey). ByUdp a.socket) is, ap (λ (a : AskKey). a.server) is, ap (λ (a : AskKey). a.id) is)
same_line sock server id (ByTcp number) to under e = let clash : None ≡ Some (line sock server id) = e in cc

asks_on : (sock : ℕ) (server : Addr) (id : ℕ) (q : Open) → IsOnLine sock server id q → udp_ask q.ask ≡ Some (line sock server id)
asks_on sock server id q is = λ i. ask_by (is.0 i) (is.1 i) (is.2 i)

held_by : (qs : List Open) (q : Open) → Contains qs q → (o : Option Waiting) → WaitsAs qs q.number o → o ≡ Some (held q)
held_by qs q there None none = absurd (none q there refl)
held_by qs q there (Some w) h = ap Some (h.2 ∙ ap (λ (p : Open). held p) (sym ((h.1).alone q there refl)))

module _ (qs : List Open) (asks : List (ℕ × Waiting)) (waits : (number : ℕ) → WaitsAs qs number (waiting asks number)) where
  -- An open query waits for its ask; what waits is an open query.
  waits_for : (q : Open) → Contains qs q → waiting asks q.number ≡ Some (held q)
  waits_for q there = held_by qs q there (waiting asks q.number) (waits q.number)

  one_that_waits : (number : ℕ) (w : Waiting) → waiting asks number ≡ Some w → (q : Open) × IsTheOne qs number q × (w ≡ held q)
  one_that_waits number w is = subst (λ (o : Option Waiting). WaitsAs qs number o) is (waits number)

  -- It is on the line under which it is indexed.
  on_line : (number : ℕ) (w : Waiting) → waiting asks number ≡ Some w → (sock : ℕ) (server : Addr) (id : ℕ) → w.ask ≡ Some (line sock server id) → (q : Open) × IsTheOne qs number q × IsOnLine sock server id q
  on_line number w is sock server id ask_is =
      let it = one_that_waits number w is in
      (it.0, it.1, same_line sock server id ((it.0).ask).path ((it.0).ask).server ((it.0).ask).id (sym (ap (λ (v : Waiting). v.ask) it.2) ∙ ask_is))

  pub found_on : (sock : ℕ) (server : Addr) (id : ℕ) (r : Option ℕ) → indexed.IsFound asks (line sock server id) r → IsFound (IsOnLine sock server id) qs r
  found_on sock server id None none = λ q there is. none q.number (held q) (waits_for q there) (asks_on sock server id q is)
  found_on sock server id (Some number) h =
      let it = on_line number h.now h.waits sock server id h.ask_is in
      record { query = it.0; stands = (it.1).stands; is = it.2; number_is = (it.1).number_is }

  -- An ask that is like that of no open query is free for any.
  free_by : (number : ℕ) (path : Path) (server : Addr) (id : ℕ) → IsFreeBy qs path server id → IsFreeFor asks number (ask_by path server id)
  free_by number (ByUdp sock) server id free = λ other w is ask_is.
      let it = on_line other w is sock server id ask_is in absurd (free (it.0, (it.1).stands, it.2))
  free_by number (ByTcp ask) server id free = tt

  pub free_for : (number : ℕ) (a : Ask) → IsFree qs a → IsFreeFor asks number (udp_ask a)
  free_for number a free = free_by number a.path a.server a.id free

  leads : (due number : ℕ) → indexed.IsEarliestWait asks due number → IsEarliestQuery qs due number
  leads due number h =
      let it = one_that_waits number h.now h.waits in
      record {
        query = it.0;
        stands = (it.1).stands;
        due_is = sym (ap (λ (w : Waiting). w.due) it.2) ∙ h.due_is;
        number_is = (it.1).number_is;
        first = λ p there. h.first p.number (held p) (waits_for p there);
      }

none_open : (qs : List Open) (asks : List (ℕ × Waiting)) → ((number : ℕ) → WaitsAs qs number (waiting asks number)) → ((number : ℕ) → waiting asks number ≡ None) → qs ≡ []
none_open [] asks waits none = refl
none_open (q ∷ qs) asks waits none =
    let no : HasNo (q ∷ qs) q.number = subst (λ (o : Option Waiting). WaitsAs (q ∷ qs) q.number o) (none q.number) (waits q.number) in
    absurd (no q (0, omega arith, refl) refl)

pub first_due : (qs : List Open) (asks : List (ℕ × Waiting)) → ((number : ℕ) → WaitsAs qs number (waiting asks number)) → (r : Option (ℕ × ℕ)) → indexed.IsEarliest asks r → IsEarliest qs r
first_due qs asks waits None none = none_open qs asks waits none
first_due qs asks waits (Some first) h = leads qs asks waits first.0 first.1 h

-- What the index of asks over TCP finds.
pub found_over : (ask : ℕ) (qs : List Open) (o : Option ℕ) → StreamsTo qs ask o → IsFound (IsOnStream ask) qs o
found_over ask qs None none = none
found_over ask qs (Some number) h = record { query = h.0; stands = (h.1).stands; is = h.2; number_is = (h.1).number_is }
