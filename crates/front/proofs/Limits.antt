-- Which reply goes out, by the length of the whole one.
use Rattle.std.proofs.Common.{◌≡◌, ◌∙◌, sym, ap, subst, ℕ, ◌<◌, ◌≤◌, nat_lt, false, if◌then◌else◌, Option, Some, List, [], ◌∷◌, length, refl}
use Rattle.std.proofs.lemmas.Bool.{lt-ltb, le-ltb}
use Rattle.message_grammar.specs.Messages.{Message, encoding}
use Rattle.causes.specs.declared.cause.Cause.{Cause}
use Rattle.causes.specs.declared.cause.Cause.TheVariants.{ReplyTooLarge}
use Rattle.front.specs.Replies.{whole_reply, truncated_reply, bare, failure_of, reply_of}
use Rattle.wire.specs.Limits.{limit_of}
use Rattle.front.specs.declared.queries.Query.{Query}
use Rattle.front.specs.declared.queries.Outcome.{Outcome}
use Rattle.wire.specs.declared.via.Via.{Via}
use Rattle.wire.specs.declared.via.Via.TheVariants.{Udp, Tcp}

fits : {X : Type 0} (n l : ℕ) (x y : X) → l ≤ n → (if nat_lt n l then x else y) ≡ y
fits n l x y short = rw (le-ltb n l short) refl

over : {X : Type 0} (n l : ℕ) (x y : X) → n < l → (if nat_lt n l then x else y) ≡ x
over n l x y long = rw (lt-ltb n l long) refl

pub reply_fits : {A : Type 0} (via : Via) (q : Query A) (o : Outcome A) (m : Message) → m ≡ whole_reply q o → length (encoding m) ≤ limit_of via
    → reply_of via q o ≡ (m, failure_of o)
reply_fits Udp q o m is short =
    fits 512 (length (encoding (whole_reply q o))) _ _ (subst (λ (n : Message). length (encoding n) ≤ 512) is short)
    ∙ ap (λ (n : Message). let r : Message × Option Cause = (n, failure_of o) in r) (sym is)
reply_fits Tcp q o m is short =
    fits 65535 (length (encoding (whole_reply q o))) _ _ (subst (λ (n : Message). length (encoding n) ≤ 65535) is short)
    ∙ ap (λ (n : Message). let r : Message × Option Cause = (n, failure_of o) in r) (sym is)

pub reply_truncated : {A : Type 0} (q : Query A) (o : Outcome A) (m : Message) → m ≡ whole_reply q o → 512 < length (encoding m)
    → reply_of Udp q o ≡ (truncated_reply (whole_reply q o), failure_of o)
reply_truncated q o m is long = over 512 (length (encoding (whole_reply q o))) _ _ (subst (λ (n : Message). 512 < length (encoding n)) is long)

pub reply_fails : {A : Type 0} (q : Query A) (o : Outcome A) (m : Message) → m ≡ whole_reply q o → 65535 < length (encoding m)
    → reply_of Tcp q o ≡ (bare q.start (q.echo ∷ []) false 2, Some ReplyTooLarge)
reply_fails q o m is long = over 65535 (length (encoding (whole_reply q o))) _ _ (subst (λ (n : Message). 65535 < length (encoding n)) is long)

-- What is said of the bytes of a message is said of them with the reply, where that message goes out.
pub reply_said : {A : Type 0} (P : List ℕ → Message → Type 0) (via way : Via) (q : Query A) (o : Outcome A) (m n : Message) (cause : Option Cause) (bytes : List ℕ) → via ≡ way
    → reply_of way q o ≡ (n, cause) → m ≡ n → P bytes m → P bytes (reply_of via q o).0
reply_said P via way q o m n cause bytes on sent is said =
    subst (λ (v : Via). P bytes (reply_of v q o).0) (sym on)
    (subst (λ (r : Message × Option Cause). P bytes r.0) (sym sent) (subst (λ (k : Message). P bytes k) is said))
