-- The encoding of a reply that can be written is that reply.
use Rattle.std.proofs.Common.{◌≡◌, refl, arith, ℕ, ◌<◌, ◌≤◌, Bool, true, false, nat_lt, if◌then◌else◌, Option, Some, [], ◌∷◌, length}
use Rattle.std.proofs.lemmas.Bool.Decides.{nat_tests}
use Rattle.dname.specs.Labels.{wire}
use Rattle.message_grammar.specs.Messages.{Message, IsWritable, IsMessage, encoding, folded_message}
use Rattle.message_grammar.proofs.Whole.{encoding_holds}
use Rattle.causes.specs.declared.cause.Cause.{Cause}
use Rattle.causes.specs.declared.cause.Cause.TheVariants.{ReplyTooLarge}
use Rattle.front.specs.Replies.{bare, whole_reply, truncated_reply, failure_of, reply_of}
use Rattle.front.specs.declared.queries.Query.{Query}
use Rattle.front.specs.declared.queries.Outcome.{Outcome}
use Rattle.front.specs.declared.queries.Outcome.TheVariants.{Answer, Referral, Refused, Fail}
use Rattle.front.proofs.Short.{truncated_fits, bare_fits}
use Rattle.wire.specs.declared.via.Via.{Via}
use Rattle.wire.specs.declared.via.Via.TheVariants.{Udp, Tcp}

abbrev IsRead : Message → Type 0
IsRead m = IsMessage (encoding m) (folded_message m)

-- A message in the place of a longer one.
chosen : (l : ℕ) (long whole : Message) (a b : Option Cause) (over : Bool) → nat_lt l (length (encoding whole)) ≡ over → l ≤ 65535 → IsRead long → IsWritable whole
    → IsRead (if◌then◌else◌ {A = Message × Option Cause} over (long, a) (whole, b)).0
chosen l long whole a b true e few is can = is
chosen l long whole a b false e few is can = let short : length (encoding whole) ≤ l = grind (arith, nat_tests) in encoding_holds whole can (omega arith)

-- What a whole reply keeps where its records are left out.
module _ {A : Type 0} (q : Query A) where
  truncated_can : (o : Outcome A) → IsWritable (whole_reply q o) → IsWritable (truncated_reply (whole_reply q o))
  truncated_can o is = record {
    header = record { id = is.header.id; opcode = is.header.opcode; z = is.header.z; rcode = is.header.rcode };
    questions = is.questions;
    answer = tt;
    authority = tt;
    additional = tt;
  }

  bare_can : (o : Outcome A) (tc : Bool) (rcode : ℕ) → rcode < 16 → IsWritable (whole_reply q o) → IsWritable (bare q.start (q.echo ∷ []) tc rcode)
  bare_can (Answer aa aliases end) tc rcode fits is =
      record { header = record { id = is.header.id; opcode = is.header.opcode; z = is.header.z; rcode = fits }; questions = is.questions; answer = tt; authority = tt; additional = tt }
  bare_can (Referral ns glue) tc rcode fits is =
      record { header = record { id = is.header.id; opcode = is.header.opcode; z = is.header.z; rcode = fits }; questions = is.questions; answer = tt; authority = tt; additional = tt }
  bare_can Refused tc rcode fits is =
      record { header = record { id = is.header.id; opcode = is.header.opcode; z = is.header.z; rcode = fits }; questions = is.questions; answer = tt; authority = tt; additional = tt }
  bare_can (Fail cause) tc rcode fits is =
      record { header = record { id = is.header.id; opcode = is.header.opcode; z = is.header.z; rcode = fits }; questions = is.questions; answer = tt; authority = tt; additional = tt }

  pub reply_read_back : (via : Via) (o : Outcome A) → IsWritable (whole_reply q o) → length (wire q.echo.name) ≤ 255 → IsRead (reply_of via q o).0
  reply_read_back Udp o is short =
      let fits : length (encoding (truncated_reply (whole_reply q o))) ≤ 512 = truncated_fits q o _ _ refl refl short in
      chosen 512 (truncated_reply (whole_reply q o)) (whole_reply q o) (failure_of o) (failure_of o) (nat_lt 512 (length (encoding (whole_reply q o)))) refl (omega arith)
      (encoding_holds (truncated_reply (whole_reply q o)) (truncated_can o is) (omega arith)) is
  reply_read_back Tcp o is short =
      let failed = bare q.start (q.echo ∷ []) false 2 in
      let fits : length (encoding failed) ≤ 512 = bare_fits q.start (Some q.echo) 2 failed refl short in
      chosen 65535 failed (whole_reply q o) (Some ReplyTooLarge) (failure_of o) (nat_lt 65535 (length (encoding (whole_reply q o)))) refl (omega arith)
      (encoding_holds failed (bare_can o false 2 (omega arith) is) (omega arith)) is
