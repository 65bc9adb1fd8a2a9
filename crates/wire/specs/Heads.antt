-- The header that bytes hold (RFC 1035, section 4.1.1).
use Rattle.std.specs.Prelude.{ℕ, ◌/◌, ◌%◌, Bool, true, false, nat_eq, List, slice_index}
use Rattle.message_grammar.specs.Messages.{Header}
use Rattle.wire.specs.Numbers.{two_at}

-- The bit of a byte that is worth `worth`.
abbrev pub is_set : ℕ → ℕ → Bool
is_set byte worth = nat_eq (byte / worth % 2) 1

abbrev pub header_by : ℕ → ℕ → ℕ → Header
header_by id high low = record {
  id = id;
  qr = is_set high 128;
  opcode = high / 8 % 16;
  aa = is_set high 4;
  tc = is_set high 2;
  rd = is_set high 1;
  ra = is_set low 128;
  z = low / 16 % 8;
  rcode = low % 16;
}

abbrev pub header_of : List ℕ → Header
header_of bytes = header_by (two_at bytes 0) (slice_index bytes 2) (slice_index bytes 3)

-- A standard query under an ID, and a reply to a message of an ID, opcode and RD, with no other flag and no error.
abbrev pub blank_query : ℕ → Bool → Header
blank_query id rd = record { id = id; qr = false; opcode = 0; aa = false; tc = false; rd = rd; ra = false; z = 0; rcode = 0 }

abbrev pub blank_reply : ℕ → ℕ → Bool → Header
blank_reply id opcode rd = record { id = id; qr = true; opcode = opcode; aa = false; tc = false; rd = rd; ra = false; z = 0; rcode = 0 }
