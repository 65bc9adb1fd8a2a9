-- A message without records is short.
use Rattle.std.proofs.Common.{◌≡◌, ◌∙◌, sym, ap, subst, arith, ℕ, ◌+◌, ◌≤◌, false, Option, Some, None, IfSome, List, [], ◌∷◌, length, length-append, refl}
use Rattle.std.specs.Int.{bytes_high_first}
use Rattle.dname.specs.Labels.{wire}
use Rattle.message_grammar.specs.Pieces.{Text, plain_bytes, asked_name, flat_piece, put_flat, put}
use Rattle.message_grammar.specs.Messages.{Header, Question, Message, encoding}
use Rattle.wire.specs.Drafts.{asked_alone}
use Rattle.front.specs.Openings.{Opening}
use Rattle.front.specs.Replies.{reply_header, bare, whole_reply, truncated_reply}
use Rattle.front.specs.declared.queries.Query.{Query}
use Rattle.front.specs.declared.queries.Outcome.{Outcome}
use Rattle.front.specs.declared.queries.Outcome.TheVariants.{Answer, Referral, Refused, Fail}

long_two : (n : ℕ) → length (bytes_high_first 2 n) ≡ 2
long_two n = refl

plain_long : (t : Text) (b : List ℕ) → length (put t (flat_piece (plain_bytes b))).bytes ≡ length t.bytes + length b
unfolding put put_flat
plain_long t b = length-append t.bytes b

asked_long : (t : Text) (n : List (List ℕ)) → length (put t (flat_piece (asked_name n))).bytes ≡ length t.bytes + length (wire n)
unfolding put put_flat
asked_long t n = length-append t.bytes (wire n)

-- The header is 12 bytes, a question has its name and 4 bytes.
pub unasked_long : (h : Header) → length (encoding (record { header = h; questions = []; answer = []; authority = []; additional = [] })) ≡ 12
unfolding encoding
unasked_long h = simp (plain_long, long_two) refl

pub asked_once_long : (h : Header) (q : Question)
    → length (encoding (record { header = h; questions = q ∷ []; answer = []; authority = []; additional = [] })) ≡ 16 + length (wire q.name)
unfolding encoding
asked_once_long h q = simp (plain_long, asked_long, long_two) (omega arith)

-- A reply without records fits a datagram.
asked_fits : (h : Header) (q : Question) → length (wire q.name) ≤ 255
    → length (encoding (record { header = h; questions = q ∷ []; answer = []; authority = []; additional = [] })) ≤ 512
asked_fits h q short = let long = asked_once_long h q in omega arith

unasked_fits : (h : Header) → length (encoding (record { header = h; questions = []; answer = []; authority = []; additional = [] })) ≤ 512
unasked_fits h = let long = unasked_long h in omega arith

pub bare_fits : (s : Opening) (echo : Option Question) (rcode : ℕ) (m : Message) → m ≡ bare s (asked_alone echo) false rcode
    → IfSome echo (λ q. length (wire q.name) ≤ 255) → length (encoding m) ≤ 512
bare_fits s None rcode m is short =
    subst (λ (n : Message). length (encoding n) ≤ 512) (sym is) (unasked_fits (reply_header s false false rcode))
bare_fits s (Some q) rcode m is short =
    subst (λ (n : Message). length (encoding n) ≤ 512) (sym is) (asked_fits (reply_header s false false rcode) q short)

truncated_is_fit : {A : Type 0} (q : Query A) (o : Outcome A) → length (wire q.echo.name) ≤ 255 → length (encoding (truncated_reply (whole_reply q o))) ≤ 512
truncated_is_fit q (Answer aa aliases end) short = asked_fits _ q.echo short
truncated_is_fit q (Referral ns glue) short = asked_fits _ q.echo short
truncated_is_fit q Refused short = asked_fits _ q.echo short
truncated_is_fit q (Fail cause) short = asked_fits _ q.echo short

pub truncated_fits : {A : Type 0} (q : Query A) (o : Outcome A) (m n : Message) → m ≡ whole_reply q o → n ≡ truncated_reply m → length (wire q.echo.name) ≤ 255
    → length (encoding n) ≤ 512
truncated_fits q o m n whole is short =
    subst (λ (k : Message). length (encoding k) ≤ 512) (sym (is ∙ ap truncated_reply whole)) (truncated_is_fit q o short)
