-- Which datagrams repeat an ask (RFC 1035, section 7.3; RFC 5452, section 9.1).
use Rattle.std.specs.Prelude.{◌≡◌, ℕ, true, List, length}
use Rattle.message_grammar.specs.Messages.{Message, IsMessage}
use Rattle.runs.specs.States.{Endpoint, Datagram, Ask}
use Rattle.runs.specs.Messages.{AreWritten, asking_message, Brings}

-- A reply of operation 0 under the ask's ID, with its one question.
pub record RepeatsAsk (asked reply : Message) : Type 0 where
  pub qr : (reply.header).qr ≡ true
  pub opcode : (reply.header).opcode ≡ 0
  pub id : (reply.header).id ≡ (asked.header).id
  pub one : length asked.questions ≡ 1
  pub question : reply.questions ≡ asked.questions

-- The bytes of both are messages, and one repeats the other.
abbrev pub Repeats : List ℕ → List ℕ → Type 0
Repeats ask reply = (asked : Message) × (m : Message) × IsMessage ask asked × IsMessage reply m × RepeatsAsk asked m

-- The first bytes went out for an ask of the resolver, which accepts a datagram of the second for it.
pub record IsAcceptedFor (ask reply : List ℕ) : Type 0 where
  pub open_ask : Ask
  pub sent : AreWritten ask (asking_message open_ask)
  pub port : ℕ
  pub now : ℕ
  pub socket : ℕ
  pub from : Endpoint
  pub message : Message
  pub brings : Brings port open_ask (Datagram now socket from reply) message
