-- The bytes of asks and replies, and which message an event brings for an ask.
use Rattle.std.specs.Prelude.{◌≡◌, ℕ, ◌+◌, ◌*◌, true, false, Bool, Option, None, List, [], ◌∷◌, ◌++◌, slice_index}
use Rattle.dname.specs.Labels.{Name}
use Rattle.rdata.specs.Records.{Record}
use Rattle.message_grammar.specs.Messages.{Header, Question, Message, internet, encoding, folded_message, IsMessage}
use Rattle.zone.specs.Links.{Link, Found, Alias, NoData, NxDomain}
use Rattle.front.specs.Openings.{Opening}
use Rattle.front.specs.Replies.{reply_of, refusal_reply}
use Rattle.front.specs.declared.queries.End.{End}
use Rattle.front.specs.declared.queries.End.TheVariants as end
use Rattle.front.specs.declared.queries.Outcome.{Outcome}
use Rattle.front.specs.declared.queries.Outcome.TheVariants.{Answer}
use Rattle.front.specs.declared.queries.Refusal.{Refusal}
use Rattle.wire.specs.declared.via.Via.{Via}
use Rattle.resolution.specs.Jobs.{Source, Local, Cached, Accepted, Taken, sent}
use Rattle.runs.specs.States.{endpoint, Event, Client, Datagram, TcpReply, TcpFailed, Tick, Action, Reply, Send, TcpAsk, Plain, ClientQuery, Path, ByUdp, ByTcp, Ask}

-- The bytes are the one encoding of the message, and are read as it, names in lower case.
abbrev pub AreWritten : List ℕ → Message → Type 0
AreWritten bytes m = (bytes ≡ encoding m) × IsMessage bytes (folded_message m)

-- ---- asks

-- One question in class IN under an ID, and nothing else.
abbrev pub question_for : Name → ℕ → Question
question_for n t = record { name = n; qtype = t; qclass = internet }

abbrev pub asking_header : ℕ → Header
asking_header id = record { id = id; qr = false; opcode = 0; aa = false; tc = false; rd = false; ra = false; z = 0; rcode = 0 }

abbrev pub asking_message : Ask → Message
asking_message a = record {
  header = asking_header a.id;
  questions = question_for a.name a.kind ∷ [];
  answer = [];
  authority = [];
  additional = [];
}

-- An ask as it goes out on its path, to the server's port.
abbrev pub sending : ℕ → Ask → Path → List ℕ → Action
sending port a (ByUdp sock) bytes = Send sock (endpoint a.server port) bytes
sending port a (ByTcp number) bytes = TcpAsk number (endpoint a.server port) bytes

abbrev pub IsSent : ℕ → Ask → Action → Type 0
IsSent port a action = (bytes : List ℕ) × AreWritten bytes (asking_message a) × (action ≡ sending port a a.path bytes)

-- A message that answers an ask: a reply of operation 0 under its ID, with its one question.
pub record AnswersAsk (a : Ask) (m : Message) : Type 0 where
  pub qr : (m.header).qr ≡ true
  pub opcode : (m.header).opcode ≡ 0
  pub id : (m.header).id ≡ a.id
  pub question : m.questions ≡ question_for a.name a.kind ∷ []

-- The message that is accepted for an ask: an event brings it, over UDP at the ask's socket from the port of the server
-- that was asked, over TCP under the ask's number.
abbrev pub Brings : ℕ → Ask → Event → Message → Type 0
Brings port a (Client now client way bytes) m = ⊥
Brings port a (Datagram now sock from bytes) m = (a.path ≡ ByUdp sock) × (from ≡ endpoint a.server port) × IsMessage bytes m × AnswersAsk a m
Brings port a (TcpReply now number bytes) m = (a.path ≡ ByTcp number) × IsMessage bytes m × AnswersAsk a m
Brings port a (TcpFailed now number) m = ⊥
Brings port a (Tick now) m = ⊥

-- The ID in the first bytes of a message.
abbrev pub id_in : List ℕ → ℕ
id_in bytes = 256 * slice_index bytes 0 + slice_index bytes 1

-- ---- replies

-- AA is set where the link of the name in the question is local.
abbrev pub is_from_here : Source → Bool
is_from_here Local = true
is_from_here (Cached ttl since) = false
is_from_here (Accepted ttl since) = false

abbrev pub is_local_first : List Taken → Taken → Bool
is_local_first [] last = is_from_here last.source
is_local_first (l ∷ ls) last = is_from_here l.source

-- The records of a chain's aliases as they go out, and its end.
abbrev pub alias_in : Link → List Record
alias_in (Found rs) = []
alias_in (Alias r) = r ∷ []
alias_in (NoData soa) = []
alias_in (NxDomain soa) = []

abbrev pub aliases_of : ℕ → List Taken → List Record
aliases_of now [] = []
aliases_of now (l ∷ ls) = alias_in (sent now l) ++ aliases_of now ls

-- The end of a chain by its last link; an alias is none.
abbrev pub end_in : Link → End Plain
end_in (Found rs) = end.Found rs
end_in (Alias r) = end.Outside
end_in (NoData soa) = end.NoData (soa ∷ [])
end_in (NxDomain soa) = end.NxDomain (soa ∷ [])

-- The outcome of a chain and its end at a moment.
abbrev pub outcome_of : ℕ → List Taken → Taken → Outcome Plain
outcome_of now chain last = Answer (is_local_first chain last) (aliases_of now chain) (end_in (sent now last))

-- The reply of an outcome goes to the client who asked, by its way.
abbrev pub IsReply : ClientQuery → Outcome Plain → Action → Type 0
IsReply who o action =
    (bytes : List ℕ) × AreWritten bytes (reply_of who.way who.query o).0
    × (action ≡ Reply who.client who.way bytes (reply_of who.way who.query o).1)

-- The refusal of bytes that are no query to be answered goes to the client who sent them, by its way.
abbrev pub IsRefusal : ℕ → Via → Refusal → Opening → Option Question → Action → Type 0
IsRefusal client way refusal start echo action =
    (bytes : List ℕ) × AreWritten bytes (refusal_reply refusal start echo) × (action ≡ Reply client way bytes None)
