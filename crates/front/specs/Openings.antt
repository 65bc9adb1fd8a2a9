-- The fields of a query's header that its reply repeats (RFC 1035, section 4.1.1).
use Rattle.std.specs.Prelude.{ℕ, ◌+◌, ◌*◌, ◌/◌, ◌%◌, Bool, nat_eq, List, slice_index}

-- The fields of a query's header that its reply repeats.
pub record Opening : Type 0 where
  pub id : ℕ
  pub opcode : ℕ
  pub rd : Bool

-- These fields stand in the first three bytes.
abbrev pub opening_of : List ℕ → Opening
opening_of bytes = record {
  id = 256 * slice_index bytes 0 + slice_index bytes 1;
  opcode = slice_index bytes 2 / 8 % 16;
  rd = nat_eq (slice_index bytes 2 % 2) 1;
}
