-- Messages (RFC 1035, section 4): as plain values, as rows of pieces, and which bytes are which message.
use Rattle.std.specs.Prelude.{◌≡◌, ℕ, ◌+◌, ◌*◌, ◌^◌, ◌<◌, ◌≤◌, Bool, cond, nat_eq, nat_lt, if◌then◌else◌, Option, None, List, [], ◌∷◌, ◌++◌, length, map, flat_map}
use Rattle.std.specs.List.{AllByRecursion}
use Rattle.dname.specs.Labels.{folded_labels, wire, IsName, AreSpelled}
use Rattle.rdata.specs.Types.{type_by}
use Rattle.rdata.specs.declared.rtype.RType.{RType}
use Rattle.rdata.specs.Data.{Datum, Ipv4, Ns, Cname, Soa, Ptr, Mx, Txt, Ipv6, Srv, type_of}
use Rattle.rdata.specs.Records.{Record, greatest_ttl}
use Rattle.message_grammar.specs.Names.{NameAt}
use Rattle.message_grammar.specs.Pieces.{Flat, plain_bytes, packed_name, asked_name, full_name, short_number, long_number, Piece, flat_piece, sized_group, written}
use Rattle.message_grammar.specs.Places.{PiecesAt}

-- The fields of a header that are no counts (RFC 1035, section 4.1.1).
pub record Header : Type 0 where
  pub id : ℕ
  pub qr : Bool
  pub opcode : ℕ
  pub aa : Bool
  pub tc : Bool
  pub rd : Bool
  pub ra : Bool
  pub z : ℕ
  pub rcode : ℕ

-- The name of a question is in lower case where a message was read. For writing it may be in its own
-- letters.
pub record Question : Type 0 where
  pub name : List (List ℕ)
  pub qtype : ℕ
  pub qclass : ℕ

pub record Message : Type 0 where
  pub header : Header
  pub questions : List Question
  pub answer : List Record
  pub authority : List Record
  pub additional : List Record

-- How many questions and records the header announces.
pub record Counts : Type 0 where
  pub questions : ℕ
  pub answer : ℕ
  pub authority : ℕ
  pub additional : ℕ

abbrev pub bit : Bool → ℕ
bit b = cond b 1 0

-- The third and the fourth byte of a header: QR, Opcode, AA, TC, RD; RA, Z, RCODE.
abbrev pub high_flags : Header → ℕ
high_flags h = bit h.qr * 128 + h.opcode * 8 + bit h.aa * 4 + bit h.tc * 2 + bit h.rd

abbrev pub low_flags : Header → ℕ
low_flags h = bit h.ra * 128 + h.z * 16 + h.rcode

-- Each field of a header fits its bits.
pub record IsHeader (h : Header) : Type 0 where
  pub id : h.id < 65536
  pub opcode : h.opcode < 16
  pub z : h.z < 8
  pub rcode : h.rcode < 16

-- ---- as pieces

-- A header, 12 bytes.
abbrev pub header_pieces : Header → Counts → List Piece
header_pieces h counts =
    flat_piece (short_number h.id)
    ∷ flat_piece (plain_bytes (high_flags h ∷ low_flags h ∷ []))
    ∷ flat_piece (short_number counts.questions)
    ∷ flat_piece (short_number counts.answer)
    ∷ flat_piece (short_number counts.authority)
    ∷ flat_piece (short_number counts.additional)
    ∷ []

-- A question (RFC 1035, section 4.1.2).
abbrev pub question_pieces : Question → List Piece
question_pieces q =
    flat_piece (asked_name q.name) ∷ flat_piece (short_number q.qtype) ∷ flat_piece (short_number q.qclass) ∷ []

-- The character-strings of a TXT, each behind its length byte (RFC 1035, sections 3.3 and 3.3.14).
abbrev pub string_bytes_of : List ℕ → List ℕ
string_bytes_of s = length s ∷ s

abbrev pub strings_bytes : List (List ℕ) → List ℕ
strings_bytes ss = flat_map string_bytes_of ss

-- RDATA (RFC 1035, sections 3.3 and 3.4; RFC 3596, section 2.2). The target of an SRV is not compressed (RFC 2782).
abbrev pub data_flats : Datum → List Flat
data_flats (Ipv4 address) = plain_bytes address ∷ []
data_flats (Ns name) = packed_name name ∷ []
data_flats (Cname name) = packed_name name ∷ []
data_flats (Soa s) =
    packed_name s.primary ∷ packed_name s.mailbox ∷ long_number s.serial ∷ long_number s.refresh ∷ long_number s.retry
    ∷ long_number s.expire ∷ long_number s.minimum ∷ []
data_flats (Ptr name) = packed_name name ∷ []
data_flats (Mx preference name) = short_number preference ∷ packed_name name ∷ []
data_flats (Txt strings) = plain_bytes (strings_bytes strings) ∷ []
data_flats (Ipv6 address) = plain_bytes address ∷ []
data_flats (Srv s) = short_number s.priority ∷ short_number s.weight ∷ short_number s.port ∷ full_name s.target ∷ []

-- A record of any type and class (RFC 1035, section 4.1.3): owner, type, class, TTL, RDLENGTH and RDATA.
abbrev pub any_record_pieces : List (List ℕ) → ℕ → ℕ → ℕ → List Flat → List Piece
any_record_pieces owner kind class ttl rdata =
    flat_piece (packed_name owner) ∷ flat_piece (short_number kind) ∷ flat_piece (short_number class)
    ∷ flat_piece (long_number ttl) ∷ sized_group rdata ∷ []

-- The class IN.
abbrev pub internet : ℕ
internet = 1

abbrev pub record_pieces : Record → List Piece
record_pieces r = any_record_pieces r.owner (type_of r.value) internet r.ttl (data_flats r.value)

abbrev pub counts_of : Message → Counts
counts_of m = record {
  questions = length m.questions;
  answer = length m.answer;
  authority = length m.authority;
  additional = length m.additional;
}

abbrev pub message_pieces : Message → List Piece
message_pieces m =
    header_pieces m.header (counts_of m) ++ flat_map question_pieces m.questions ++ flat_map record_pieces m.answer
    ++ flat_map record_pieces m.authority ++ flat_map record_pieces m.additional

-- The one encoding of a message. The names of its questions may be in their own letters: they are written
-- so, and what stands behind does not depend on them.
unfoldable pub encoding : Message → List ℕ
encoding m = written (message_pieces m)

-- ---- which bytes are which message

-- The data of a record that can stand in a message, names aside: an address of four bytes or of sixteen,
-- numbers of 16 and 32 bits, one or more character-strings of at most 255 bytes.
abbrev pub FitsRdata : Datum → Type 0
FitsRdata (Ipv4 address) = length address ≡ 4
FitsRdata (Ns name) = Unit {0}
FitsRdata (Cname name) = Unit {0}
FitsRdata (Soa s) = (s.serial < 2 ^ 32) × (s.refresh < 2 ^ 32) × (s.retry < 2 ^ 32) × (s.expire < 2 ^ 32) × (s.minimum < 2 ^ 32)
FitsRdata (Ptr name) = Unit {0}
FitsRdata (Mx preference name) = preference < 65536
FitsRdata (Txt strings) = (0 < length strings) × AllByRecursion (λ s. length s < 256) strings
FitsRdata (Ipv6 address) = length address ≡ 16
FitsRdata (Srv s) = (s.priority < 65536) × (s.weight < 65536) × (s.port < 65536)

-- The type of a record that is kept, by the numbers of its type and class: a served one in class IN. Others are
-- skipped.
abbrev pub served_type : ℕ → ℕ → Option RType
served_type kind class = if nat_eq class internet then type_by kind else None

-- A TTL with its top bit set is 0 (RFC 2181, section 8).
abbrev pub ttl_of : ℕ → ℕ
ttl_of n = if nat_lt greatest_ttl n then 0 else n

-- A question stands there.
pub record QuestionAt (bytes : List ℕ) (at : ℕ) (q : Question) (end : ℕ) : Type 0 where
  pub fits_type : q.qtype < 65536
  pub fits_class : q.qclass < 65536
  pub behind_name : ℕ
  pub name : NameAt bytes at q.name behind_name
  pub rest : PiecesAt bytes behind_name (flat_piece (short_number q.qtype) ∷ flat_piece (short_number q.qclass) ∷ []) end

abbrev pub QuestionsAt : List ℕ → ℕ → List Question → ℕ → Type 0
QuestionsAt bytes at [] end = end ≡ at
QuestionsAt bytes at (q ∷ qs) end = (mid : ℕ) × QuestionAt bytes at q mid × QuestionsAt bytes mid qs end

-- A record of a served type in class IN stands there.
pub record RecordAt (bytes : List ℕ) (at : ℕ) (r : Record) (end : ℕ) : Type 0 where
  pub ttl : ℕ
  pub fits_ttl : ttl < 2 ^ 32
  pub is_ttl : r.ttl ≡ ttl_of ttl
  pub fits : FitsRdata r.value
  pub stands : PiecesAt bytes at (any_record_pieces r.owner (type_of r.value) internet ttl (data_flats r.value)) end

-- A record of another type or class stands there: its owner is a name, and its RDATA are any bytes.
pub record SkippedAt (bytes : List ℕ) (at end : ℕ) : Type 0 where
  pub owner : List (List ℕ)
  pub kind : ℕ
  pub class : ℕ
  pub ttl : ℕ
  pub rdata : List ℕ
  pub fits_kind : kind < 65536
  pub fits_class : class < 65536
  pub other : served_type kind class ≡ None
  pub stands : PiecesAt bytes at (any_record_pieces owner kind class ttl (plain_bytes rdata ∷ [])) end

-- `SectionAt bytes at count records end`: from `at` to `end` stand as many records as counted; those of
-- served types in class IN are these, in order, and the others are skipped.
pub data SectionAt (bytes : List ℕ) : ℕ → ℕ → List Record → ℕ → Type 0 where
  none_left : (at count end : ℕ) → count ≡ 0 → end ≡ at → SectionAt bytes at count [] end
  kept_first : (at count left mid end : ℕ) (r : Record) (rest : List Record) → count ≡ left + 1 → RecordAt bytes at r mid
      → SectionAt bytes mid left rest end → SectionAt bytes at count (r ∷ rest) end
  skipped_first : (at count left mid end : ℕ) (rest : List Record) → count ≡ left + 1 → SkippedAt bytes at mid
      → SectionAt bytes mid left rest end → SectionAt bytes at count rest end

-- Each count fits 16 bits.
pub record AreCounts (c : Counts) : Type 0 where
  pub questions : c.questions < 65536
  pub answer : c.answer < 65536
  pub authority : c.authority < 65536
  pub additional : c.additional < 65536

-- The bytes are this message: header, questions, three sections, and nothing behind the last counted record.
pub record IsMessage (bytes : List ℕ) (m : Message) : Type 0 where
  pub counts : Counts
  pub fit_counts : AreCounts counts
  pub fits_header : IsHeader m.header
  pub header : PiecesAt bytes 0 (header_pieces m.header counts) 12
  pub behind_questions : ℕ
  pub behind_answer : ℕ
  pub behind_authority : ℕ
  pub count : counts.questions ≡ length m.questions
  pub questions : QuestionsAt bytes 12 m.questions behind_questions
  pub answer : SectionAt bytes behind_questions counts.answer m.answer behind_answer
  pub authority : SectionAt bytes behind_answer counts.authority m.authority behind_authority
  pub additional : SectionAt bytes behind_authority counts.additional m.additional (length bytes)

-- ---- messages that can be written

-- A name in its own letters.
pub record IsSpelling (labels : List (List ℕ)) : Type 0 where
  pub spelled : AreSpelled labels
  pub short : length (wire labels) ≤ 255

pub record IsQuestion (q : Question) : Type 0 where
  pub name : IsSpelling q.name
  pub qtype : q.qtype < 65536
  pub qclass : q.qclass < 65536

-- The names in a record's data.
abbrev pub AreNamesOf : Datum → Type 0
AreNamesOf (Ipv4 address) = Unit {0}
AreNamesOf (Ns name) = IsName name
AreNamesOf (Cname name) = IsName name
AreNamesOf (Soa s) = IsName s.primary × IsName s.mailbox
AreNamesOf (Ptr name) = IsName name
AreNamesOf (Mx preference name) = IsName name
AreNamesOf (Txt strings) = Unit {0}
AreNamesOf (Ipv6 address) = Unit {0}
AreNamesOf (Srv s) = IsName s.target

pub record IsRecord (r : Record) : Type 0 where
  pub owner : IsName r.owner
  pub ttl : r.ttl ≤ greatest_ttl
  pub fits : FitsRdata r.value
  pub names : AreNamesOf r.value

-- Every field of the message fits its bits, and its names are names.
pub record IsWritable (m : Message) : Type 0 where
  pub header : IsHeader m.header
  pub questions : AllByRecursion IsQuestion m.questions
  pub answer : AllByRecursion IsRecord m.answer
  pub authority : AllByRecursion IsRecord m.authority
  pub additional : AllByRecursion IsRecord m.additional

-- The question with its name in lower case, and the message with all its questions so: what a reader sees.
abbrev pub folded_question : Question → Question
folded_question q = record q { name = folded_labels q.name }

abbrev pub folded_message : Message → Message
folded_message m = record m { questions = map folded_question m.questions }
