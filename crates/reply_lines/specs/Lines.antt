-- The lines of a reply.
use Rattle.std.specs.Prelude.{◌≡◌, ℕ, Bool, cond, nat_eq, Option, Some, None, List, [], ◌++◌, codes, decimal}
use Rattle.std.specs.List.{flat_map}
use Rattle.dname.specs.Text.{name_text}
use Rattle.rdata.specs.Records.{Record}
use Rattle.rdata.specs.Text.{data_text}
use Rattle.message_grammar.specs.Messages.{Header, Message, IsMessage}
use Rattle.causes.specs.Causes.{cause_number}
use Rattle.causes.specs.declared.cause.Cause.{Cause}

-- The word of an RCODE (RFC 1035, section 4.1.1).
abbrev pub rcode_word : ℕ → List ℕ
rcode_word n =
    cond (nat_eq n 0) (codes "NOERROR") (cond (nat_eq n 1) (codes "FORMERR") (cond (nat_eq n 2) (codes "SERVFAIL")
    (cond (nat_eq n 3) (codes "NXDOMAIN") (cond (nat_eq n 4) (codes "NOTIMP") (cond (nat_eq n 5) (codes "REFUSED") (decimal n))))))

-- A word that stands where its flag is set.
abbrev pub flag_word : Bool → List ℕ → List ℕ
flag_word set word = cond set word []

abbrev pub cause_words : Option Cause → List ℕ
cause_words None = []
cause_words (Some cause) = codes " cause " ++ decimal (cause_number cause)

-- The first line of a reply.
unfoldable pub head_line : ℕ → Header → Option Cause → List ℕ
head_line client h cause =
    codes "reply " ++ decimal client ++ codes " " ++ rcode_word h.rcode ++ flag_word h.aa (codes " aa") ++ flag_word h.tc (codes " tc")
    ++ cause_words cause ++ codes "\n"

-- A record of a section.
unfoldable pub record_line : List ℕ → Record → List ℕ
record_line section r =
    codes "  " ++ section ++ codes " " ++ name_text r.owner ++ codes " " ++ decimal r.ttl ++ codes " " ++ data_text r.value ++ codes "\n"

-- The lines of a reply: its head, then the records of its sections in order.
unfoldable pub reply_text : ℕ → Message → Option Cause → List ℕ
reply_text client m cause =
    head_line client m.header cause ++ flat_map (record_line (codes "an")) m.answer ++ flat_map (record_line (codes "ns")) m.authority
    ++ flat_map (record_line (codes "ar")) m.additional

-- The bytes are a message, and its lines stand behind the text before.
abbrev pub ArePrinted : List ℕ → ℕ → Option Cause → List ℕ → List ℕ → Type 0
ArePrinted bytes client cause before printed = (m : Message) × IsMessage bytes m × (printed ≡ before ++ reply_text client m cause)

-- The bytes are no message, and nothing stands behind the text before.
abbrev pub AreNone : List ℕ → List ℕ → List ℕ → Type 0
AreNone bytes before printed = ((m : Message) → IsMessage bytes m → ⊥) × (printed ≡ before)
