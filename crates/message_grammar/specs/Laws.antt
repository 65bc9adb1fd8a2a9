-- The laws about messages that the functions of this crate state.
use Rattle.std.specs.Prelude.{◌≡◌, ℕ, ◌+◌, ◌≤◌, List, [], ◌∷◌, ◌++◌, length, Contains}
use Rattle.dname.specs.Labels.{root, folded_labels, wire, IsAtOrUnder}
use Rattle.rdata.specs.Records.{Record}
use Rattle.message_grammar.specs.Names.{SpeltAt, NameAt, FullAt}
use Rattle.message_grammar.specs.Messages.{Question, Message, IsWritable, IsMessage, encoding, folded_message}
use Rattle.message_grammar.specs.Compression.{IsCompressed}

-- At a place stands one name at most, and it has one end.
abbrev pub OneName : Type 0
OneName = (bytes : List ℕ) (at : ℕ) (a b : List (List ℕ)) (x y : ℕ) → NameAt bytes at a x → NameAt bytes at b y → (a ≡ b) × (x ≡ y)

-- At a place stands one spelling at most.
abbrev pub OneSpelling : Type 0
OneSpelling = (bytes : List ℕ) (at : ℕ) (a b : List (List ℕ)) (x y : ℕ) → SpeltAt bytes at a x → SpeltAt bytes at b y → (a ≡ b) × (x ≡ y)

-- The name at a place is its spelling in lower case, and a spelling has the name's end.
abbrev pub SpellingIsName : Type 0
SpellingIsName =
    (bytes : List ℕ) (at : ℕ) (labels name : List (List ℕ)) (x y : ℕ) → SpeltAt bytes at labels x → NameAt bytes at name y
    → (name ≡ folded_labels labels) × (x ≡ y)

-- Where a name stands, a spelling stands.
abbrev pub NameIsSpelt : Type 0
NameIsSpelt = (bytes : List ℕ) (at : ℕ) (name : List (List ℕ)) (end : ℕ) → NameAt bytes at name end → (labels : List (List ℕ)) × SpeltAt bytes at labels end

-- A name in full is the name at its place, and all of its bytes stand there.
abbrev pub FullStandsThere : Type 0
FullStandsThere =
    (bytes : List ℕ) (at : ℕ) (name : List (List ℕ)) (end : ℕ) → FullAt bytes at name end → NameAt bytes at name end × (end ≡ at + length (wire name))

-- An encoding of at most 65,535 bytes is the message that was encoded, its questions' names in lower case.
abbrev pub EncodingIsMessage : Type 0
EncodingIsMessage = (m : Message) → IsWritable m → length (encoding m) ≤ 65535 → IsMessage (encoding m) (folded_message m)

-- An encoding's names are compressed as RFC 1035, section 4.1.4, has it: each by a pointer to the first occurrence of
-- the longest suffix of it that occurred before.
abbrev pub EncodingIsCompressed : Type 0
EncodingIsCompressed = (m : Message) → IsWritable m → IsCompressed (encoding m) m

-- The letters of its questions' names change no length of an encoding.
abbrev pub LettersKeepLength : Type 0
LettersKeepLength = (m : Message) → length (encoding m) ≡ length (encoding (folded_message m))

-- The encoding of a message of one question is a header of 12 bytes, the question's name in its letters, and
-- bytes that are the same for every spelling of that name.
abbrev pub LettersStayInQuestion : Type 0
LettersStayInQuestion =
    (m : Message) (q : Question) → m.questions ≡ q ∷ [] → (head tail : List ℕ) × (length head ≡ 12)
    × (encoding m ≡ head ++ (wire q.name ++ tail)) × (encoding (folded_message m) ≡ head ++ (wire (folded_labels q.name) ++ tail))

-- Bytes are one message at most.
abbrev pub OneMessage : Type 0
OneMessage = (bytes : List ℕ) (m n : Message) → IsMessage bytes m → IsMessage bytes n → m ≡ n

-- Every name that is asked for and every owner of a record ends with the root's label.
pub record AreUnderRoot (m : Message) : Type 0 where
  pub questions : (q : Question) → Contains m.questions q → IsAtOrUnder q.name root
  pub answer : (r : Record) → Contains m.answer r → IsAtOrUnder r.owner root
  pub authority : (r : Record) → Contains m.authority r → IsAtOrUnder r.owner root
  pub additional : (r : Record) → Contains m.additional r → IsAtOrUnder r.owner root

-- The names of a message end with the root's label.
abbrev pub NamesEndInRoot : Type 0
NamesEndInRoot = (bytes : List ℕ) (m : Message) → IsMessage bytes m → AreUnderRoot m
