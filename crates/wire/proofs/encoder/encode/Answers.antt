-- A message is written as the draft that lends all of it.
use Rattle.std.proofs.Common.{◌∙◌, ◌≡◌, [], ap, subst}
use Rattle.std.proofs.lemmas.Result.{IfOk-weaker}
use Rattle.std.specs.List.{AllByRecursion}
use Rattle.dname.specs.Labels.{IsName}
use Rattle.std.specs.Prelude.{None, Ok}
use Rattle.message_grammar.specs.Messages.{Question, Message, IsMessage, folded_message}
use Rattle.message_grammar.specs.Compression.{IsCompressed}
use Rattle.wire.specs.Drafts.{drafted}
use Rattle.wire.specs.Entries.{message_of}
use Rattle.wire.proofs.Lower.{message_same}
use Rattle.wire.proofs.MessagesRead.{message_read}
use Rattle.wire.proofs.Writing.{lent_is, lent_ok, lent_err, lent_some}
use Rattle.wire.proofs.encoder.encode.Given.{Over}
use Rattle.wire.proofs.encoder.encode.Goals as goal

lent : (g : Over) (c : goal.After-drop-writer-inside-4 g) → Message
lent g c = drafted c.m.inside.header c.as_slice.result.now None c.as_slice-2.result.now [] c.as_slice-3.result.now c.as_slice-4.result.now

same : (g : Over) (c : goal.After-drop-writer-inside-4 g) → lent g c ≡ c.args.m.now
unfolding lent
same g c =
    (λ i. drafted c.m.inside.header (c.as_slice.ensures i) None (c.as_slice-2.ensures i) [] (c.as_slice-3.ensures i) (c.as_slice-4.ensures i))
    ∙ (lent_is c.m.inside.header c.m.inside.questions c.m.inside.answer c.m.inside.authority c.m.inside.additional ∙ c.m.view_is)

pub returns-clause-ok : goal.returns-clause-ok
unfolding lent
returns-clause-ok g c = lent_ok (λ v. v.items) c.in_ok-encode.field-0 c.ok_or.result (lent g c) c.args.m.now c.args.limit (same g c) c.in_ok-encode.ensures.bytes c.ok_or.ensures.value

pub returns-clause-err : goal.returns-clause-err
unfolding lent
returns-clause-err g c = lent_err (λ v. v.items) c.in_ok-encode.field-0 c.ok_or.result (lent g c) c.args.m.now c.args.limit (same g c) c.in_ok-encode.ensures.bytes c.ok_or.ensures.value

pub returns-clause-message : goal.returns-clause-message
unfolding lent
returns-clause-message g c =
    lent_some (λ b m. IsMessage b (folded_message m)) (λ v. v.items) c.in_ok-encode.field-0 c.ok_or.result (lent g c) c.args.m.now (same g c) c.in_ok-encode.ensures.message c.ok_or.ensures.value

pub returns-clause-compressed : goal.returns-clause-compressed
unfolding lent
returns-clause-compressed g c =
    lent_some (λ b m. IsCompressed b m) (λ v. v.items) c.in_ok-encode.field-0 c.ok_or.result (lent g c) c.args.m.now (same g c) c.in_ok-encode.ensures.compressed c.ok_or.ensures.value

pub returns-clause-read : goal.returns-clause-read
unfolding lent
returns-clause-read g c =
    let m = c.args.m.now in
    let kept = message_same m (subst (λ (x : Message). AllByRecursion (λ (q : Question). IsName q.name) x.questions) c.m.view_is c.lower_case_law.ensures) in
    IfOk-weaker c.ok_or.result (λ v. IsMessage v.items (folded_message m)) (λ v. message_of v.items ≡ Ok m)
    (λ v message. message_read v.items (folded_message m) message ∙ ap (λ (x : Message). Ok x) kept)
    (lent_some (λ b x. IsMessage b (folded_message x)) (λ v. v.items) c.in_ok-encode.field-0 c.ok_or.result (lent g c) m (same g c) c.in_ok-encode.ensures.message c.ok_or.ensures.value)
