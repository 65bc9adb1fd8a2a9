-- Resource records and their sets as plain values (RFC 1035, section 3.2.1; RFC 2181, section 5).
use Rattle.std.specs.Prelude.{ℕ, Bool, ◌&&◌, nat_eq, List}
use Rattle.dname.specs.Labels.{same_name}
use Rattle.rdata.specs.Data.{Datum, type_of}

-- A record: its owner's labels, its time to live in seconds, its data.
pub record Record : Type 0 where
  pub owner : List (List ℕ)
  pub ttl : ℕ
  pub value : Datum

-- The same set: same owner and type (RFC 2181, section 5).
abbrev pub same_set : Record → Record → Bool
same_set r s = same_name r.owner s.owner && nat_eq (type_of r.value) (type_of s.value)

-- The greatest TTL of a record (RFC 2181, section 8).
abbrev pub greatest_ttl : ℕ
greatest_ttl = 2147483647
