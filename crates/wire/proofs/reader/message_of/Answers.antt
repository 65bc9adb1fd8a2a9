use Rattle.std.proofs.Common.{arith}
use Rattle.wire.specs.declared.error.WireError.TheVariants.{Short}
use Rattle.wire.specs.Entries.{message_of}
use Rattle.wire.proofs.Walks.{gives_failed}
use Rattle.wire.proofs.Whole.{no_header, first, second, questions_fail, answer_fails, last_fail, whole_read}
use Rattle.wire.proofs.MessagesRead.{message_there, no_message, none_handed_on}
use Rattle.wire.proofs.reader.message_of.Goals as goal

pub returns-then-bytes-lt12-clause-exact : goal.returns-then-bytes-lt12-clause-exact
returns-then-bytes-lt12-clause-exact g c = no_header c.args.bytes.now c.if-bytes-lt12.true

pub returns-then-bytes-lt12-clause-refused : goal.returns-then-bytes-lt12-clause-refused
returns-then-bytes-lt12-clause-refused g c = no_message c.args.bytes.now Short (no_header c.args.bytes.now c.if-bytes-lt12.true)

pub returns-in_err-questions-clause-exact : goal.returns-in_err-questions-clause-exact
returns-in_err-questions-clause-exact g c =
    let bytes = c.args.bytes.now in
    gives_failed (λ m. m) c.from_residual.result c.in_err-questions.field-0.0 (message_of bytes) c.from_residual.ensures.1
    (questions_fail bytes c.two_at.result c.in_err-questions.field-0.0 c.if-bytes-lt12.false c.two_at.ensures c.in_err-questions.ensures)

pub returns-in_err-questions-clause-refused : goal.returns-in_err-questions-clause-refused
returns-in_err-questions-clause-refused g c =
    let bytes = c.args.bytes.now in
    none_handed_on bytes c.from_residual.result c.in_err-questions.field-0.0 c.from_residual.ensures.1
    (questions_fail bytes c.two_at.result c.in_err-questions.field-0.0 c.if-bytes-lt12.false c.two_at.ensures c.in_err-questions.ensures)

pub returns-in_err-answer-clause-exact : goal.returns-in_err-answer-clause-exact
returns-in_err-answer-clause-exact g c =
    let bytes = c.args.bytes.now in
    gives_failed (λ m. m) c.from_residual-in_err-answer.result c.in_err-answer.field-0.0 (message_of bytes) c.from_residual-in_err-answer.ensures.1
    (answer_fails bytes c.two_at-2.result c.in_ok-questions.at c.in_ok-questions.questions c.in_err-answer.field-0.0
    (first bytes c.two_at.result c.in_ok-questions.at c.in_ok-questions.questions c.if-bytes-lt12.false c.two_at.ensures c.in_ok-questions.ensures)
    c.two_at-2.ensures c.in_err-answer.ensures)

pub returns-in_err-answer-clause-refused : goal.returns-in_err-answer-clause-refused
returns-in_err-answer-clause-refused g c =
    let bytes = c.args.bytes.now in
    none_handed_on bytes c.from_residual-in_err-answer.result c.in_err-answer.field-0.0 c.from_residual-in_err-answer.ensures.1
    (answer_fails bytes c.two_at-2.result c.in_ok-questions.at c.in_ok-questions.questions c.in_err-answer.field-0.0
    (first bytes c.two_at.result c.in_ok-questions.at c.in_ok-questions.questions c.if-bytes-lt12.false c.two_at.ensures c.in_ok-questions.ensures)
    c.two_at-2.ensures c.in_err-answer.ensures)

pub returns-in_err-authority-clause-exact : goal.returns-in_err-authority-clause-exact
returns-in_err-authority-clause-exact g c =
    let bytes = c.args.bytes.now in
    gives_failed (λ m. m) c.from_residual-in_err-authority.result c.in_err-authority.field-0.0 (message_of bytes) c.from_residual-in_err-authority.ensures.1
    (last_fail bytes c.in_ok-questions.questions c.in_ok-answer.answer c.in_ok-answer.at c.in_err-authority.field-0.0
    (second bytes c.two_at-2.result c.in_ok-questions.at c.in_ok-answer.at c.in_ok-questions.questions c.in_ok-answer.answer
    (first bytes c.two_at.result c.in_ok-questions.at c.in_ok-questions.questions c.if-bytes-lt12.false c.two_at.ensures c.in_ok-questions.ensures)
    c.two_at-2.ensures c.in_ok-answer.ensures) (c.in_err-authority.ensures c.in_ok-questions.questions c.in_ok-answer.answer))

pub returns-in_err-authority-clause-refused : goal.returns-in_err-authority-clause-refused
returns-in_err-authority-clause-refused g c =
    let bytes = c.args.bytes.now in
    none_handed_on bytes c.from_residual-in_err-authority.result c.in_err-authority.field-0.0 c.from_residual-in_err-authority.ensures.1
    (last_fail bytes c.in_ok-questions.questions c.in_ok-answer.answer c.in_ok-answer.at c.in_err-authority.field-0.0
    (second bytes c.two_at-2.result c.in_ok-questions.at c.in_ok-answer.at c.in_ok-questions.questions c.in_ok-answer.answer
    (first bytes c.two_at.result c.in_ok-questions.at c.in_ok-questions.questions c.if-bytes-lt12.false c.two_at.ensures c.in_ok-questions.ensures)
    c.two_at-2.ensures c.in_ok-answer.ensures) (c.in_err-authority.ensures c.in_ok-questions.questions c.in_ok-answer.answer))

pub returns-clause-exact : goal.returns-clause-exact
returns-clause-exact g c =
    let bytes = c.args.bytes.now in
    whole_read bytes c.read-header.result c.in_ok-questions.questions c.in_ok-answer.answer c.in_ok-authority.authority c.in_ok-authority.additional c.in_ok-answer.at
    (second bytes c.two_at-2.result c.in_ok-questions.at c.in_ok-answer.at c.in_ok-questions.questions c.in_ok-answer.answer
    (first bytes c.two_at.result c.in_ok-questions.at c.in_ok-questions.questions c.if-bytes-lt12.false c.two_at.ensures c.in_ok-questions.ensures)
    c.two_at-2.ensures c.in_ok-answer.ensures) (c.in_ok-authority.ensures c.in_ok-questions.questions c.in_ok-answer.answer) c.read-header.ensures

pub returns-clause-read : goal.returns-clause-read
returns-clause-read g c = message_there c.args.bytes.now _ (λ i. omega (arith, c.type_inv.bytes i)) (returns-clause-exact g c)
