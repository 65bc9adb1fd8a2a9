use Rattle.std.proofs.Common.{arith, ◌∙◌}
use Rattle.wire.specs.declared.error.WireError.TheVariants.{Short}
use Rattle.wire.proofs.MessagesRead.{no_message, none_handed_on}
use Rattle.wire.proofs.Alone.{letters_fail, question_short, question_first, question_alone, not_one}
use Rattle.wire.proofs.reader.decode_question.Goals as goal

pub returns-then-two_at-ne1-clause-read : goal.returns-then-two_at-ne1-clause-read
returns-then-two_at-ne1-clause-read g c = not_one c.args.bytes.now c.two_at.result (λ i. omega (arith, c.type_inv.bytes i)) c.two_at.ensures c.if-two_at-ne1.true

pub returns-in_err-spelling-clause-refused : goal.returns-in_err-spelling-clause-refused
returns-in_err-spelling-clause-refused g c =
    none_handed_on c.args.bytes.now c.from_residual.result c.in_err-spelling.field-0.0 c.from_residual.ensures.1
    (letters_fail c.args.bytes.now c.two_at.result c.in_err-spelling.field-0.0 c.if-bytes-lt12.false c.two_at.ensures c.if-two_at-ne1.false c.in_err-spelling.ensures.is)

pub returns-then-bytes-at-lt4-clause-refused : goal.returns-then-bytes-at-lt4-clause-refused
returns-then-bytes-at-lt4-clause-refused g c =
    no_message c.args.bytes.now Short
    (question_short c.args.bytes.now c.in_ok-spelling.spelling c.two_at.result c.in_ok-spelling.at c.if-bytes-lt12.false c.two_at.ensures c.if-two_at-ne1.false c.in_ok-spelling.ensures.is
    c.in_ok-spelling.ensures.within c.if-bytes-at-lt4.true)

pub returns-in_err-check_sections-clause-refused : goal.returns-in_err-check_sections-clause-refused
returns-in_err-check_sections-clause-refused g c =
    none_handed_on c.args.bytes.now c.from_residual-in_err-check_sections.result c.in_err-check_sections.field-0.0 c.from_residual-in_err-check_sections.ensures.1
    (c.in_err-check_sections.ensures.refused _
    (question_first c.args.bytes.now c.in_ok-spelling.spelling c.two_at.result c.in_ok-spelling.at c.if-bytes-lt12.false c.two_at.ensures c.if-two_at-ne1.false c.in_ok-spelling.ensures.is
    c.in_ok-spelling.ensures.within c.if-bytes-at-lt4.false))

pub returns-clause-read : goal.returns-clause-read
returns-clause-read g c =
    question_alone c.args.bytes.now _ _ c.two_at.result c.in_ok-spelling.at (λ i. omega (arith, c.type_inv.bytes i)) c.if-bytes-lt12.false c.two_at.ensures c.if-two_at-ne1.false
    c.in_ok-spelling.ensures.is c.in_ok-spelling.ensures.within c.if-bytes-at-lt4.false c.in_ok-check_sections.ensures.read (c.in_ok-name.ensures.cases ∙ c.name.ensures) c.two_at-2.ensures
    c.two_at-3.ensures
