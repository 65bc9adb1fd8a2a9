-- Questions, records and whole messages read (RFC 1035, section 4).
use Rattle.std.specs.Prelude.{ℕ, zero, suc, ◌+◌, nat_eq, nat_lt, if◌then◌else◌, Option, Some, None, Result, Ok, Err, List, [], ◌∷◌, length}
use Rattle.rdata.specs.Data.{Datum}
use Rattle.rdata.specs.Records.{Record}
use Rattle.rdata.specs.declared.rtype.RType.{RType}
use Rattle.message_grammar.specs.Messages.{Question, Message, served_type, ttl_of}
use Rattle.wire.specs.declared.error.WireError.{WireError}
use Rattle.wire.specs.declared.error.WireError.TheVariants.{Short, TrailingBytes}
use Rattle.wire.specs.Numbers.{two_at, four_at}
use Rattle.wire.specs.Heads.{header_of}
use Rattle.wire.specs.Parts.{message_faults, name_at}
use Rattle.wire.specs.Values.{value_at}
use Rattle.wire.specs.Results.{and_then}

-- ---- records

abbrev pub kept_value : List (List ℕ) → ℕ → ℕ → Datum → Result (Option Record × ℕ) WireError
kept_value owner ttl end value = Ok (Some (record { owner = owner; ttl = ttl_of ttl; value = value }), end)

-- The record of these RDATA, by its type; none where type or class is not served.
abbrev pub entry_kept : Option RType → List ℕ → List (List ℕ) → ℕ → ℕ → ℕ → Result (Option Record × ℕ) WireError
entry_kept None bytes owner ttl at end = Ok (None, end)
entry_kept (Some kind) bytes owner ttl at end = and_then (value_at kind bytes at end) (kept_value owner ttl end)

abbrev pub entry_sized : List ℕ → List (List ℕ) → ℕ → Result (Option Record × ℕ) WireError
entry_sized bytes owner at =
    if nat_lt (length bytes) (at + 10 + two_at bytes (at + 8)) then Err Short
    else entry_kept (served_type (two_at bytes at) (two_at bytes (at + 2))) bytes owner (four_at bytes (at + 4)) (at + 10) (at + 10 + two_at bytes (at + 8))

abbrev pub entry_behind : List ℕ → List (List ℕ) × ℕ → Result (Option Record × ℕ) WireError
entry_behind bytes (owner, at) = if nat_lt (length bytes) (at + 10) then Err Short else entry_sized bytes owner at

-- A record at a place, and its end.
unfoldable pub entry_at : List ℕ → ℕ → Result (Option Record × ℕ) WireError
entry_at bytes at = and_then (name_at bytes message_faults (length bytes) at) (entry_behind bytes)

abbrev pub with_kept : Option Record → List Record × ℕ → Result (List Record × ℕ) WireError
with_kept None (rest, end) = Ok (rest, end)
with_kept (Some r) (rest, end) = Ok (r ∷ rest, end)

-- A section of this many records: those that are not skipped, and its end.
abbrev pub section_from : ℕ → List ℕ → ℕ → Result (List Record × ℕ) WireError
section_from zero bytes at = Ok ([], at)
section_from (suc count) bytes at = and_then (entry_at bytes at) (λ r. and_then (section_from count bytes r.1) (with_kept r.0))

-- ---- questions

abbrev pub question_behind : List ℕ → List (List ℕ) × ℕ → Result (Question × ℕ) WireError
question_behind bytes (name, at) =
    if nat_lt (length bytes) (at + 4) then Err Short else Ok (record { name = name; qtype = two_at bytes at; qclass = two_at bytes (at + 2) }, at + 4)

unfoldable pub question_at : List ℕ → ℕ → Result (Question × ℕ) WireError
question_at bytes at = and_then (name_at bytes message_faults (length bytes) at) (question_behind bytes)

abbrev pub with_question : Question → List Question × ℕ → Result (List Question × ℕ) WireError
with_question q (rest, end) = Ok (q ∷ rest, end)

abbrev pub questions_from : ℕ → List ℕ → ℕ → Result (List Question × ℕ) WireError
questions_from zero bytes at = Ok ([], at)
questions_from (suc count) bytes at = and_then (question_at bytes at) (λ q. and_then (questions_from count bytes q.1) (with_question q.0))

-- ---- messages

abbrev pub message_whole : List ℕ → List Question → List Record → List Record → List Record × ℕ → Result Message WireError
message_whole bytes questions answer authority (additional, end) =
    if nat_eq end (length bytes)
    then Ok (record { header = header_of bytes; questions = questions; answer = answer; authority = authority; additional = additional })
    else Err TrailingBytes

abbrev pub message_third : List ℕ → List Question → List Record → List Record × ℕ → Result Message WireError
message_third bytes questions answer (authority, at) =
    and_then (section_from (two_at bytes 10) bytes at) (message_whole bytes questions answer authority)

abbrev pub message_second : List ℕ → List Question → List Record × ℕ → Result Message WireError
message_second bytes questions (answer, at) = and_then (section_from (two_at bytes 8) bytes at) (message_third bytes questions answer)

abbrev pub message_first : List ℕ → List Question × ℕ → Result Message WireError
message_first bytes (questions, at) = and_then (section_from (two_at bytes 6) bytes at) (message_second bytes questions)

-- The message that bytes are.
unfoldable pub message_of : List ℕ → Result Message WireError
message_of bytes =
    if nat_lt (length bytes) 12 then Err Short else and_then (questions_from (two_at bytes 4) bytes 12) (message_first bytes)
