-- What is read of messages to count them (RFC 1035, section 4.1.1).
use Rattle.std.specs.Prelude.{◌≡◌, ℕ, ◌-◌, ◌/◌, ◌%◌, ◌⊎◌, Bool, nat_eq, Option, None, List, [], ◌∷◌, slice_index_or}
use Rattle.std.specs.Int.{w16, from_be_bytes}
use Rattle.wire.specs.declared.via.Via.{Via}
use Rattle.wire.specs.declared.via.Via.TheVariants.{Udp, Tcp}
use Rattle.counters.specs.declared.labels.Way.{Way}
use Rattle.counters.specs.declared.labels.Way.TheVariants as way
use Rattle.counters.specs.declared.outcome.Reply.{Reply}
use Rattle.dispatch.specs.Questions.{HasQuestion}

-- The byte at a place; 0 where there is none.
abbrev pub byte_of : List ℕ → ℕ → ℕ
byte_of bytes place = slice_index_or bytes place 0

abbrev pub id_in : List ℕ → ℕ
id_in bytes = from_be_bytes w16 (byte_of bytes 0 ∷ byte_of bytes 1 ∷ [])

-- AA and TC are in the third byte, the RCODE is the low half of the fourth.
abbrev pub reply_in : List ℕ → Bool → Option ℕ → Reply
reply_in bytes asked millis = record {
  rcode = byte_of bytes 3 % 16;
  authoritative = nat_eq (byte_of bytes 2 / 4 % 2) 1;
  truncated = nat_eq (byte_of bytes 2 / 2 % 2) 1;
  asked = asked;
  cause = None;
  millis = millis;
}

-- The type of a question that ends there: its class stands behind it.
abbrev pub type_before : List ℕ → ℕ → ℕ
type_before message end = from_be_bytes w16 (byte_of message (end - 4) ∷ byte_of message (end - 3) ∷ [])

-- The type that the one question asks for; 0, which is no type, where there is none.
abbrev pub AsksFor : List ℕ → ℕ → Type 0
AsksFor message kind =
    ((end : ℕ) × HasQuestion message end × (kind ≡ type_before message end))
    ⊎ (((end : ℕ) → HasQuestion message end → ⊥) × (kind ≡ 0))

abbrev pub counted_as : Via → Way
counted_as Udp = way.Udp
counted_as Tcp = way.Tcp
