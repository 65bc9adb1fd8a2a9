-- What the server at an address of a world replies to a client's bytes (RFC 1034, section 4.3.2).
use Rattle.std.specs.Prelude.{◌≡◌, ℕ, ◌<◌, ◌≤◌, ◌⊎◌, Bool, true, false, Option, Some, None, List, [], ◌∷◌, ◌++◌, length, filter}
use Rattle.limits.specs.Limits.{max_aliases}
use Rattle.dname.specs.Labels.{Name}
use Rattle.rdata.specs.Records.{Record}
use Rattle.rdata.specs.Types.{type_number}
use Rattle.message_grammar.specs.Messages.{Header, Message, IsMessage, encoding, folded_message}
use Rattle.zone.specs.Zones.{Zone}
use Rattle.zone.specs.Links.{Alias}
use Rattle.zone.specs.Look.{Local, Linked, Cut, NotHere}
use Rattle.authority.specs.Catalogs.{looked}
use Rattle.world_truth.specs.Worlds.{Address, World}
use Rattle.world_truth.specs.Serving.{MayServe}
use Rattle.world_truth.specs.Replies.{IsReplyTo}
use Rattle.front.specs.Openings.{Opening}
use Rattle.front.specs.Queries.{IsRequest}
use Rattle.front.specs.Chains.{AliasesLead, IsEndAt}
use Rattle.front.specs.Replies.{end_rcode, found_in, denied_by}
use Rattle.front.specs.declared.queries.Query.{Query}
use Rattle.front.specs.declared.queries.Request.{Request}
use Rattle.front.specs.declared.queries.Request.TheVariants.{Drop, Refuse}
use Rattle.front.specs.declared.queries.Request.TheVariants as request
use Rattle.front.specs.declared.queries.End.{End}
use Rattle.front.specs.declared.queries.End.TheVariants.{Outside}
use Rattle.worlds.specs.Rules.{serves}

-- The zones that the server serves, and what they say of a name for the type that is asked for.
abbrev pub served : World → Address → List Zone
served W a = filter (λ (z : Zone). serves a z.origin W.hosts) W.zones

abbrev pub says : World → Address → ℕ → Name → Local
says W a t name = looked (served W a) name t

-- One alias more stands there.
abbrev pub IsAlias : Local → Type 0
IsAlias l = (r : Record) × (l ≡ Linked (Alias r))

-- The aliases that it follows from a name, at most eight, and what stands behind them: nothing is said where that is a
-- ninth.
pub record IsFollowed {A : Type 0} (look : Name → Local) (from : Name) (aliases : List Record) (end : End A) : Type 0 where
  pub to : Name
  pub leads : AliasesLead look from aliases to
  pub few : length aliases ≤ max_aliases
  pub ends : IsEndAt (look to) end ⊎ ((length aliases ≡ max_aliases) × IsAlias (look to) × (end ≡ Outside))

-- QR is set and RA is clear; ID, Opcode and RD are the query's (RFC 1035, section 4.1.1).
abbrev pub host_header : Opening → Bool → ℕ → Header
host_header s aa rcode = record {
  id = s.id;
  qr = true;
  opcode = s.opcode;
  aa = aa;
  tc = false;
  rd = s.rd;
  ra = false;
  z = 0;
  rcode = rcode;
}

-- A referral: the NS set in authority and the addresses in additional.
abbrev pub referral_to : {A : Type 0} → Query A → List Record → List Record → Message
referral_to q ns glue = record {
  header = host_header q.start false 0;
  questions = q.echo ∷ [];
  answer = [];
  authority = ns;
  additional = glue;
}

-- An answer with authority: the aliases and then what was found; the SOA of a negative answer in authority.
abbrev pub answer_to : {A : Type 0} → Query A → List Record → End A → Message
answer_to q aliases end = record {
  header = host_header q.start true (end_rcode end);
  questions = q.echo ∷ [];
  answer = aliases ++ found_in end;
  authority = denied_by end;
  additional = [];
}

-- The reply by what is said of the asked name: none where no zone that is served is over it.
abbrev pub IsReplyBy : {A : Type 0} → (Name → Local) → Query A → Local → Option Message → Type 0
IsReplyBy look q NotHere m = m ≡ None
IsReplyBy look q (Cut c ns glue) m = m ≡ Some (referral_to q ns glue)
IsReplyBy {A} look q (Linked l) m = (aliases : List Record) × (end : End A) × IsFollowed look q.name aliases end × (m ≡ Some (answer_to q aliases end))

-- A reply of over 65,535 bytes is not sent (RFC 1035, section 4.2.2). What is sent is read as the reply, its
-- question in lower case.
abbrev pub IsSent : Option Message → Option (List ℕ) → Type 0
IsSent None sent = sent ≡ None
IsSent (Some m) None = 65535 < length (encoding m)
IsSent (Some m) (Some bytes) = (length (encoding m) ≤ 65535) × (bytes ≡ encoding m) × IsMessage bytes (folded_message m)

-- Only a query of one question that is answerable has a reply.
abbrev pub IsReplyFrom : {A : Type 0} → World → Address → Request A → Option (List ℕ) → Type 0
IsReplyFrom W a Drop sent = sent ≡ None
IsReplyFrom W a (Refuse refusal start echo) sent = sent ≡ None
IsReplyFrom W a (request.Query q) sent =
    (m : Option Message) × IsReplyBy (says W a (type_number q.kind)) q (says W a (type_number q.kind) q.name) m × IsSent m sent

-- `A` is the memory that the query is read into, which no byte of the reply depends on.
abbrev pub IsHostReply : (A : Type 0) → World → Address → List ℕ → Option (List ℕ) → Type 0
IsHostReply A W a bytes sent = (asked : Request A) × IsRequest bytes asked × IsReplyFrom W a asked sent

-- What is sent is a reply to that question, and a message that the server may serve to it.
pub record IsServed (W : World) (a : Address) (n : Name) (t : ℕ) (sent : List ℕ) : Type 0 where
  pub read : Message
  pub message : IsMessage sent read
  pub reply : IsReplyTo n t read
  pub serves : MayServe W a n t read

abbrev pub IsHonestReply : (A : Type 0) → World → Address → List ℕ → List ℕ → Type 0
IsHonestReply A W a bytes sent = (q : Query A) → IsRequest bytes (request.Query q) → IsServed W a q.name (type_number q.kind) sent
