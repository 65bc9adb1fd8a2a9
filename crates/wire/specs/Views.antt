-- A message that is read in its bytes: where its sections begin, and what each has.
use Rattle.std.specs.Prelude.{◌≡◌, ℕ, ◌≤◌, Result, Ok, Err, IsOk, List, [], length, slice_range}
use Rattle.rdata.specs.Data.{Datum, Ipv4, type_of}
use Rattle.rdata.specs.Records.{Record, greatest_ttl}
use Rattle.rdata.specs.Types.{type_number}
use Rattle.rdata.specs.declared.rtype.RType.{RType}
use Rattle.message_grammar.specs.Messages.{Message}
use Rattle.wire.specs.declared.error.WireError.{WireError}
use Rattle.wire.specs.Chains.{AreChainEnds}
use Rattle.wire.specs.Numbers.{two_at}
use Rattle.wire.specs.Heads.{header_of}
use Rattle.wire.specs.Parts.{message_faults, name_at}
use Rattle.wire.specs.Values.{value_at}
use Rattle.wire.specs.Entries.{section_from, questions_from}
use Rattle.wire.specs.Results.{end_of}

-- The members that a reader gives, and none where it refuses.
abbrev pub listed : {X : Type 0} → Result (List X × ℕ) WireError → List X
listed (Ok (xs, end)) = xs
listed (Err e) = []

-- The message whose sections of records begin at these places.
abbrev pub viewed : List ℕ → ℕ → ℕ → ℕ → Message
viewed bytes answer authority additional = record {
  header = header_of bytes;
  questions = listed (questions_from (two_at bytes 4) bytes 12);
  answer = listed (section_from (two_at bytes 6) bytes answer);
  authority = listed (section_from (two_at bytes 8) bytes authority);
  additional = listed (section_from (two_at bytes 10) bytes additional);
}

-- Each section ends where the next one begins, and the last one with the bytes.
pub record IsViewed (bytes ends : List ℕ) (answer authority additional : ℕ) : Type 0 where
  pub long : 12 ≤ length bytes
  pub known : AreChainEnds bytes ends
  pub asks : end_of (questions_from (two_at bytes 4) bytes 12) ≡ Ok answer
  pub answers : end_of (section_from (two_at bytes 6) bytes answer) ≡ Ok authority
  pub leads : end_of (section_from (two_at bytes 8) bytes authority) ≡ Ok additional
  pub adds : end_of (section_from (two_at bytes 10) bytes additional) ≡ Ok (length bytes)

-- The bytes from this place on are a section of this many records.
abbrev pub IsSection : List ℕ → List ℕ → ℕ → ℕ → Type 0
IsSection bytes ends count at = AreChainEnds bytes ends × IsOk (section_from count bytes at)

-- The name, and the data, that a reader gives; where it refuses, others that nobody reads.
abbrev pub labels_in : Result (List (List ℕ) × ℕ) WireError → List (List ℕ)
labels_in (Ok (name, end)) = name
labels_in (Err e) = []

abbrev pub value_in : Result Datum WireError → Datum
value_in (Ok value) = value
value_in (Err e) = Ipv4 []

-- The record of this type whose owner begins at a place, and whose RDATA lie between two others.
abbrev pub lent_record : List ℕ → ℕ → RType → ℕ → ℕ → ℕ → Record
lent_record bytes at kind ttl start end = record {
  owner = labels_in (name_at bytes message_faults (length bytes) at);
  ttl = ttl;
  value = value_in (value_at kind bytes start end);
}

pub record IsLent (bytes ends : List ℕ) (at : ℕ) (kind : RType) (ttl start end : ℕ) : Type 0 where
  pub known : AreChainEnds bytes ends
  pub named : IsOk (name_at bytes message_faults (length bytes) at)
  pub valued : IsOk (value_at kind bytes start end)
  pub kind_is : type_of (value_in (value_at kind bytes start end)) ≡ type_number kind
  pub starts : start ≤ end
  pub fits : end ≤ length bytes
  pub short : ttl ≤ greatest_ttl

-- These bytes are the RDATA of the record: they stand in a message, and what is read there, its pointers followed in
-- that message, are the record's data.
pub record IsRdataOf (r : Record) (rdata : List ℕ) : Type 0 where
  pub message : List ℕ
  pub kind : RType
  pub start : ℕ
  pub end : ℕ
  pub within : (start ≤ end) × (end ≤ length message)
  pub stands : rdata ≡ slice_range message start end
  pub reads : value_at kind message start end ≡ Ok r.value
