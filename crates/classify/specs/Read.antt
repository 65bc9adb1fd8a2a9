-- What is read of a server's message before it is known to which ask it replies.
use Rattle.std.specs.Prelude.{◌≡◌, ℕ, Bool, true, ◌&&◌, not, nat_eq, Option, Some, None, List, [], ◌∷◌}
use Rattle.dname.specs.Labels.{Name}
use Rattle.rdata.specs.Types.{type_number}
use Rattle.rdata.specs.declared.rtype.RType.{RType}
use Rattle.message_grammar.specs.Messages.{Question, Message, internet, IsMessage}
use Rattle.message_grammar.specs.Laws.{AreUnderRoot}
use Rattle.wire.specs.declared.via.Via.{Via}
use Rattle.classify.specs.Classes.{Class}
use Rattle.classify.specs.Narrowed.{class_at_root}

-- `failed`: the server says that it failed to answer.
pub record Reading : Type 0 where
  pub id : ℕ
  pub name : Name
  pub kind : ℕ
  pub failed : Bool
  pub class : Class

abbrev pub only_question : Name → ℕ → List Question
only_question n t = record { name = n; qtype = t; qclass = internet } ∷ []

-- A message of operation 0 with QR set has this reading, by the way that it came: its ID, its one question, whether it
-- is a SERVFAIL that is not truncated (RFC 1035, section 4.1.1), and its class at the root.
pub record IsReadingOf (via : Via) (m : Message) (r : Reading) : Type 0 where
  pub qr : (m.header).qr ≡ true
  pub opcode : (m.header).opcode ≡ 0
  pub id : (m.header).id ≡ r.id
  pub question : m.questions ≡ only_question r.name r.kind
  pub failed : r.failed ≡ (nat_eq (m.header).rcode 2 && not (m.header).tc)
  pub class : r.class ≡ class_at_root r.name r.kind via m
  pub rooted : AreUnderRoot m

-- No reply to a question of a served type: its header and its question are no such reply's.
abbrev pub IsNoReply : Message → Type 0
IsNoReply m = (n : Name) (k : RType) → (m.header).qr ≡ true → (m.header).opcode ≡ 0 → m.questions ≡ only_question n (type_number k) → ⊥

-- The bytes are a message of this reading; or no message of theirs is a reply to a question of a served type.
pub record IsReadFrom (via : Via) (bytes : List ℕ) (r : Reading) : Type 0 where
  pub message : Message
  pub is : IsMessage bytes message
  pub reads : IsReadingOf via message r

abbrev pub AreRead : Via → List ℕ → Option Reading → Type 0
AreRead via bytes None = (m : Message) → IsMessage bytes m → IsNoReply m
AreRead via bytes (Some r) = IsReadFrom via bytes r
