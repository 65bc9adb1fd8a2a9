-- Replies (RFC 1035, sections 4.1.1 and 4.2.1).
use Rattle.std.specs.Prelude.{ℕ, Bool, true, false, nat_lt, if◌then◌else◌, Option, Some, None, List, [], ◌∷◌, ◌++◌, length}
use Rattle.rdata.specs.Records.{Record}
use Rattle.message_grammar.specs.Messages.{Header, Question, Message, encoding}
use Rattle.wire.specs.Drafts.{asked_alone}
use Rattle.causes.specs.declared.cause.Cause.{Cause}
use Rattle.causes.specs.declared.cause.Cause.TheVariants.{ReplyTooLarge}
use Rattle.front.specs.Openings.{Opening}
use Rattle.front.specs.declared.queries.Refusal.{Refusal}
use Rattle.front.specs.declared.queries.Refusal.TheVariants.{FormErr, NotImp}
use Rattle.front.specs.declared.queries.Query.{Query}
use Rattle.front.specs.declared.queries.End.{End}
use Rattle.front.specs.declared.queries.End.TheVariants.{Found, NoData, NxDomain}
use Rattle.front.specs.declared.queries.Outcome.{Outcome}
use Rattle.front.specs.declared.queries.Outcome.TheVariants.{Answer, Referral, Refused, Fail}
pub use Rattle.wire.specs.Limits.{limit_of}
use Rattle.wire.specs.declared.via.Via.{Via}
use Rattle.wire.specs.declared.via.Via.TheVariants.{Udp, Tcp}

abbrev pub refusal_rcode : Refusal → ℕ
refusal_rcode FormErr = 1
refusal_rcode NotImp = 4

-- The header of a reply: QR and RA are set; ID, Opcode and RD are the query's.
abbrev pub reply_header : Opening → Bool → Bool → ℕ → Header
reply_header s aa tc rcode = record {
  id = s.id;
  qr = true;
  opcode = s.opcode;
  aa = aa;
  tc = tc;
  rd = s.rd;
  ra = true;
  z = 0;
  rcode = rcode;
}

-- A reply without records.
abbrev pub bare : Opening → List Question → Bool → ℕ → Message
bare s asked tc rcode = record {
  header = reply_header s false tc rcode;
  questions = asked;
  answer = [];
  authority = [];
  additional = [];
}

abbrev pub end_rcode : {A : Type 0} → End A → ℕ
end_rcode (NxDomain soa) = 3
end_rcode _ = 0

abbrev pub found_in : {A : Type 0} → End A → List Record
found_in (Found set) = set
found_in _ = []

abbrev pub denied_by : {A : Type 0} → End A → List Record
denied_by (NoData soa) = soa
denied_by (NxDomain soa) = soa
denied_by _ = []

-- The whole reply: the aliases and then the RRset in the answer, the SOA of a negative answer in authority; a
-- referral's NS set in authority and its addresses in additional.
abbrev pub whole_reply : {A : Type 0} → Query A → Outcome A → Message
whole_reply q (Answer aa aliases end) = record {
  header = reply_header q.start aa false (end_rcode end);
  questions = q.echo ∷ [];
  answer = aliases ++ found_in end;
  authority = denied_by end;
  additional = [];
}
whole_reply q (Referral ns glue) = record {
  header = reply_header q.start false false 0;
  questions = q.echo ∷ [];
  answer = [];
  authority = ns;
  additional = glue;
}
whole_reply q Refused = bare q.start (q.echo ∷ []) false 5
whole_reply q (Fail cause) = bare q.start (q.echo ∷ []) false 2

-- The reply without its records, and with TC (RFC 2181, section 9).
abbrev pub truncated_reply : Message → Message
truncated_reply m = record {
  header = record m.header { tc = true };
  questions = m.questions;
  answer = [];
  authority = [];
  additional = [];
}

abbrev pub failure_of : {A : Type 0} → Outcome A → Option Cause
failure_of (Fail cause) = Some cause
failure_of _ = None

-- The reply that goes out, and the cause of a SERVFAIL. A reply that is too long is truncated on UDP, and on TCP a
-- SERVFAIL goes in its place.
abbrev pub reply_of : {A : Type 0} → Via → Query A → Outcome A → Message × Option Cause
reply_of Udp q o = if nat_lt (limit_of Udp) (length (encoding (whole_reply q o))) then (truncated_reply (whole_reply q o), failure_of o)
    else (whole_reply q o, failure_of o)
reply_of Tcp q o = if nat_lt (limit_of Tcp) (length (encoding (whole_reply q o))) then (bare q.start (q.echo ∷ []) false 2, Some ReplyTooLarge)
    else (whole_reply q o, failure_of o)

-- The reply to a query that is refused without a look-up.
abbrev pub refusal_reply : Refusal → Opening → Option Question → Message
refusal_reply refusal s echo = bare s (asked_alone echo) false (refusal_rcode refusal)
