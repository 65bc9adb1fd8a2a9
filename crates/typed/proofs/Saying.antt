-- What is written of a typed action is one action, and the one that is wanted.
use Rattle.std.proofs.Common.{◌≡◌, ◌∙◌, ap, subst, refl, ℕ, nat_lt, false, if◌then◌else◌, Option, Some, None, List, [], ◌∷◌, length}
use Rattle.causes.specs.declared.cause.Cause.{Cause}
use Rattle.causes.specs.declared.cause.Cause.TheVariants.{ReplyTooLarge}
use Rattle.message_grammar.specs.Messages.{Question, Message, IsMessage, encoding, folded_message}
use Rattle.wire.specs.declared.via.Via.{Via}
use Rattle.wire.specs.declared.via.Via.TheVariants.{Udp, Tcp}
use Rattle.front.specs.Openings.{Opening}
use Rattle.front.specs.Replies.{whole_reply, truncated_reply, bare, failure_of, reply_of, refusal_reply}
use Rattle.front.specs.declared.queries.Query.{Query}
use Rattle.front.specs.declared.queries.End.TheVariants.{Found, NoData, NxDomain, Outside}
use Rattle.front.specs.declared.queries.Outcome.{Outcome}
use Rattle.front.specs.declared.queries.Outcome.TheVariants.{Answer, Referral, Refused, Fail}
use Rattle.front.specs.declared.queries.Refusal.{Refusal}
use Rattle.runs.specs.States.{Action, Reply, Plain, ClientQuery, Ask}
use Rattle.runs.specs.Messages.{asking_message, sending, IsSent, IsReply, IsRefusal}
use Rattle.events.specs.Plain.{plain, plain_outcome}
use Rattle.typed.specs.Actions.{replied, refused, asked}

abbrev IsRead : Message → Type 0
IsRead m = IsMessage (encoding m) (folded_message m)

-- ---- one action is written

pub written_reply : (who : ClientQuery) (o : Outcome Plain) (a : Action) → IsReply who o a → a ≡ replied who o
unfolding replied
written_reply who o a (bytes, written, is) = is ∙ ap (λ (b : List ℕ). Reply who.client who.way b (reply_of who.way who.query o).1) written.0

pub written_refusal : (client : ℕ) (way : Via) (refusal : Refusal) (start : Opening) (echo : Option Question) (a : Action) → IsRefusal client way refusal start echo a
    → a ≡ refused client way refusal start echo
unfolding refused
written_refusal client way refusal start echo a (bytes, written, is) = is ∙ ap (λ (b : List ℕ). Reply client way b None) written.0

pub written_ask : (port : ℕ) (ask : Ask) (a : Action) → IsSent port ask a → a ≡ asked port ask
unfolding asked
written_ask port ask a (bytes, written, is) = is ∙ ap (sending port ask ask.path) written.0

-- ---- it is the one that is wanted

said_reply : (who : ClientQuery) (o : Outcome Plain) → IsRead (reply_of who.way who.query o).0 → IsReply who o (replied who o)
unfolding replied
said_reply who o read = (encoding (reply_of who.way who.query o).0, (refl, read), refl)

pub said_refusal : (client : ℕ) (way : Via) (refusal : Refusal) (start : Opening) (echo : Option Question) → IsRead (refusal_reply refusal start echo)
    → IsRefusal client way refusal start echo (refused client way refusal start echo)
unfolding refused
said_refusal client way refusal start echo read = (encoding (refusal_reply refusal start echo), (refl, read), refl)

pub said_ask : (port : ℕ) (ask : Ask) → IsRead (asking_message ask) → IsSent port ask (asked port ask)
unfolding asked
said_ask port ask read = (encoding (asking_message ask), (refl, read), refl)

-- A reply does not depend on where its memory comes from.
module _ {A : Type 0} (q : Query A) where
  whole_plainly : (o : Outcome A) → whole_reply q o ≡ whole_reply (plain q) (plain_outcome o)
  whole_plainly (Answer aa aliases (Found set)) = refl
  whole_plainly (Answer aa aliases (NoData soa)) = refl
  whole_plainly (Answer aa aliases (NxDomain soa)) = refl
  whole_plainly (Answer aa aliases Outside) = refl
  whole_plainly (Referral ns glue) = refl
  whole_plainly Refused = refl
  whole_plainly (Fail cause) = refl

  failure_plainly : (o : Outcome A) → failure_of o ≡ failure_of (plain_outcome o)
  failure_plainly (Answer aa aliases end) = refl
  failure_plainly (Referral ns glue) = refl
  failure_plainly Refused = refl
  failure_plainly (Fail cause) = refl

  reply_plainly : (via : Via) (o : Outcome A) → reply_of via q o ≡ reply_of via (plain q) (plain_outcome o)
  reply_plainly Udp o = λ i. if◌then◌else◌ {A = Message × Option Cause} (nat_lt 512 (length (encoding (whole_plainly o i)))) (truncated_reply (whole_plainly o i), failure_plainly o i) (whole_plainly o i, failure_plainly o i)
  reply_plainly Tcp o = λ i. if◌then◌else◌ {A = Message × Option Cause} (nat_lt 65535 (length (encoding (whole_plainly o i)))) (bare q.start (q.echo ∷ []) false 2, Some ReplyTooLarge) (whole_plainly o i, failure_plainly o i)

  pub said_plainly : (client : ℕ) (way : Via) (who : ClientQuery) (o : Outcome A) → record { client = client; way = way; query = plain q } ≡ who → IsRead (reply_of way q o).0
      → IsReply who (plain_outcome o) (replied who (plain_outcome o))
  said_plainly client way who o is read =
      let asked : ClientQuery = record { client = client; way = way; query = plain q } in
      subst (λ (w : ClientQuery). IsReply w (plain_outcome o) (replied w (plain_outcome o))) is
      (said_reply asked (plain_outcome o) (subst (λ (r : Message × Option Cause). IsRead r.0) (reply_plainly way o) read))
