-- What the index by asks finds.
use Rattle.std.proofs.Common.{◌≡◌, ℕ, true, nat_eq, ◌&&◌, Option, Some, None, List, refl, sym, ◌∙◌, ap, eq-eqb, eqb-true}
use Rattle.std.proofs.lemmas.Bool.{false≢true, and_parts}
use Rattle.std.specs.Cmp.Lexicographic.{pointwise, bytes_decides}
use Rattle.std.specs.Map.{lookup}
use Rattle.rdata.specs.declared.addr.Addr.{Addr}
use Rattle.asks.specs.declared.ask.AskKey.{AskKey}
use Rattle.asks.specs.declared.ask.Waiting.{Waiting}
use Rattle.asks.specs.Waits.{waiting, IsFound}
use Rattle.asks.specs.Indexes.{same_ask, points_to, is_ask, has_ask, points, AreIndexes}

-- `==` of asks is exact.
same_server : (a b : Addr) → pointwise nat_eq a.0 b.0 ≡ true → a ≡ b
same_server a b h = λ i. record { 0 = (bytes_decides a.0 b.0).0 h i }

pub same_ask_is : (a b : AskKey) → same_ask a b ≡ true → a ≡ b
same_ask_is a b h =
    let one = and_parts (nat_eq a.socket b.socket) (pointwise nat_eq (a.server).0 (b.server).0 && nat_eq a.id b.id) h in
    let two = and_parts (pointwise nat_eq (a.server).0 (b.server).0) (nat_eq a.id b.id) one.1 in
    let socket = eqb-true a.socket b.socket one.0 in
    let server = same_server a.server b.server two.0 in
    let id = eqb-true a.id b.id two.1 in
    λ i. record { socket = socket i; server = server i; id = id i }

pub same_ask_refl : (a : AskKey) → same_ask a a ≡ true
same_ask_refl a =
    let socket = eq-eqb a.socket a.socket refl in
    let server = (bytes_decides (a.server).0 (a.server).0).1 refl in
    let id = eq-eqb a.id a.id refl in
    λ i. socket i && (server i && id i)

pub is_ask_sound : (ask : AskKey) (o : Option AskKey) → is_ask ask o ≡ true → o ≡ Some ask
is_ask_sound ask None h = absurd (false≢true h)
is_ask_sound ask (Some own) h = ap Some (same_ask_is own ask h)

pub is_ask_whole : (ask : AskKey) (o : Option AskKey) → o ≡ Some ask → is_ask ask o ≡ true
is_ask_whole ask o e = ap (is_ask ask) e ∙ same_ask_refl ask

record Waits (ask : AskKey) (o : Option Waiting) : Type 0 where
  pub now : Waiting
  pub is : o ≡ Some now
  pub ask_is : now.ask ≡ Some ask

waits : (ask : AskKey) (o : Option Waiting) → has_ask ask o ≡ true → Waits ask o
waits ask None h = absurd (false≢true h)
waits ask (Some w) h = record { now = w; is = refl; ask_is = is_ask_sound ask w.ask h }

-- A query that has the ask is the one to which the index leads.
led : {asks : List (ℕ × Waiting)} {by_ask : List (AskKey × ℕ)} {by_due : List (ℕ × ℕ)} → AreIndexes asks by_ask by_due → (ask : AskKey) (query : ℕ) (w : Waiting) → waiting asks query ≡ Some w → w.ask ≡ Some ask
    → points by_ask ask query ≡ true
led h ask query w is e = h.asked ask query ∙ (ap (has_ask ask) is ∙ is_ask_whole ask w.ask e)

pub found : (asks : List (ℕ × Waiting)) (by_ask : List (AskKey × ℕ)) (by_due : List (ℕ × ℕ)) → AreIndexes asks by_ask by_due → (ask : AskKey) (r : Option ℕ) → r ≡ lookup (same_ask ask) by_ask → IsFound asks ask r
found asks by_ask by_due h ask None e = λ query w is ask_is. false≢true (ap (points_to query) e ∙ led h ask query w is ask_is)
found asks by_ask by_due h ask (Some query) e =
    let at : points by_ask ask query ≡ true = ap (points_to query) (sym e) ∙ eq-eqb query query refl in
    let one = waits ask (waiting asks query) (sym (h.asked ask query) ∙ at) in
    record {
      now = one.now;
      waits = one.is;
      ask_is = one.ask_is;
      only = λ other w is ask_is. sym (eqb-true query other (ap (points_to other) e ∙ led h ask other w is ask_is));
    }
