use Rattle.std.proofs.Common.{◌∙◌, ap, arith}
use Rattle.wire.specs.declared.error.WireError.TheVariants.{Short, TrailingBytes}
use Rattle.wire.specs.Results.{end_of}
use Rattle.wire.specs.Entries.{section_from, questions_from, message_of}
use Rattle.wire.proofs.MessagesRead.{message_there, no_message, none_handed_on}
use Rattle.wire.proofs.Viewed.{questions_in, as_first, as_second, as_third, too_short, no_questions, no_answer, no_authority, no_additional, more_behind, all_seen}
use Rattle.wire.proofs.Told.{handed_told, surely_none, none_by, short_is_told, rest_is_told}
use Rattle.wire.proofs.Walks.{fails_is, gives_failed}
use Rattle.wire.proofs.view.View.new.Goals as goal

pub returns-then-bytes-lt12-clause-exact : goal.returns-then-bytes-lt12-clause-exact
returns-then-bytes-lt12-clause-exact g c = too_short c.args.bytes.now c.if-bytes-lt12.true

pub returns-then-bytes-lt12-clause-refused : goal.returns-then-bytes-lt12-clause-refused
returns-then-bytes-lt12-clause-refused g c = none_by c.args.bytes.now Short short_is_told (no_message c.args.bytes.now Short (too_short c.args.bytes.now c.if-bytes-lt12.true))

pub returns-in_err-answer-clause-exact : goal.returns-in_err-answer-clause-exact
returns-in_err-answer-clause-exact g c =
    let bytes = c.args.bytes.now in
    gives_failed (λ m. m) c.from_residual.result c.in_err-answer.field-0.0 (message_of bytes) c.from_residual.ensures.1
    (fails_is c.in_err-answer.field-0.0 (message_of bytes) (no_questions bytes c.in_err-answer.field-0.0 c.if-bytes-lt12.false
    (c.in_err-answer.ensures ∙ ap (λ n. end_of (questions_from n bytes 12)) c.two_at.ensures)))

pub returns-in_err-answer-clause-quiet : goal.returns-in_err-answer-clause-quiet
returns-in_err-answer-clause-quiet g c =
    let bytes = c.args.bytes.now in
    handed_told bytes c.from_residual.result c.in_err-answer.field-0.0 c.from_residual.ensures.1
    (no_questions bytes c.in_err-answer.field-0.0 c.if-bytes-lt12.false
    (c.in_err-answer.ensures ∙ ap (λ n. end_of (questions_from n bytes 12)) c.two_at.ensures))

pub returns-in_err-answer-clause-refused : goal.returns-in_err-answer-clause-refused
returns-in_err-answer-clause-refused g c =
    let bytes = c.args.bytes.now in
    surely_none bytes c.from_residual.result (none_handed_on bytes c.from_residual.result c.in_err-answer.field-0.0 c.from_residual.ensures.1
    (fails_is c.in_err-answer.field-0.0 (message_of bytes) (no_questions bytes c.in_err-answer.field-0.0 c.if-bytes-lt12.false
    (c.in_err-answer.ensures ∙ ap (λ n. end_of (questions_from n bytes 12)) c.two_at.ensures))))
    (returns-in_err-answer-clause-quiet g c)

pub returns-in_err-authority-clause-exact : goal.returns-in_err-authority-clause-exact
returns-in_err-authority-clause-exact g c =
    let bytes = c.args.bytes.now in
    gives_failed (λ m. m) c.from_residual-in_err-authority.result c.in_err-authority.field-0.0 (message_of bytes) c.from_residual-in_err-authority.ensures.1
    (fails_is c.in_err-authority.field-0.0 (message_of bytes) (no_answer bytes (questions_in bytes) c.in_ok-answer.answer c.in_err-authority.field-0.0
    (as_first bytes c.in_ok-answer.answer c.if-bytes-lt12.false (c.in_ok-answer.ensures ∙ ap (λ n. end_of (questions_from n bytes 12)) c.two_at.ensures))
    (c.in_err-authority.ensures ∙ ap (λ n. end_of (section_from n bytes c.in_ok-answer.answer)) c.two_at-2.ensures)))

pub returns-in_err-authority-clause-quiet : goal.returns-in_err-authority-clause-quiet
returns-in_err-authority-clause-quiet g c =
    let bytes = c.args.bytes.now in
    handed_told bytes c.from_residual-in_err-authority.result c.in_err-authority.field-0.0 c.from_residual-in_err-authority.ensures.1
    (no_answer bytes (questions_in bytes) c.in_ok-answer.answer c.in_err-authority.field-0.0
    (as_first bytes c.in_ok-answer.answer c.if-bytes-lt12.false (c.in_ok-answer.ensures ∙ ap (λ n. end_of (questions_from n bytes 12)) c.two_at.ensures))
    (c.in_err-authority.ensures ∙ ap (λ n. end_of (section_from n bytes c.in_ok-answer.answer)) c.two_at-2.ensures))

pub returns-in_err-authority-clause-refused : goal.returns-in_err-authority-clause-refused
returns-in_err-authority-clause-refused g c =
    let bytes = c.args.bytes.now in
    surely_none bytes c.from_residual-in_err-authority.result (none_handed_on bytes c.from_residual-in_err-authority.result c.in_err-authority.field-0.0 c.from_residual-in_err-authority.ensures.1
    (fails_is c.in_err-authority.field-0.0 (message_of bytes) (no_answer bytes (questions_in bytes) c.in_ok-answer.answer c.in_err-authority.field-0.0
    (as_first bytes c.in_ok-answer.answer c.if-bytes-lt12.false (c.in_ok-answer.ensures ∙ ap (λ n. end_of (questions_from n bytes 12)) c.two_at.ensures))
    (c.in_err-authority.ensures ∙ ap (λ n. end_of (section_from n bytes c.in_ok-answer.answer)) c.two_at-2.ensures))))
    (returns-in_err-authority-clause-quiet g c)

pub returns-in_err-additional-clause-exact : goal.returns-in_err-additional-clause-exact
returns-in_err-additional-clause-exact g c =
    let bytes = c.args.bytes.now in
    gives_failed (λ m. m) c.from_residual-in_err-additional.result c.in_err-additional.field-0.0 (message_of bytes) c.from_residual-in_err-additional.ensures.1
    (fails_is c.in_err-additional.field-0.0 (message_of bytes) (no_authority bytes (questions_in bytes) c.in_ok-answer.answer c.in_ok-authority.authority c.in_err-additional.field-0.0
    (as_second bytes (questions_in bytes) c.in_ok-answer.answer c.in_ok-authority.authority
    (as_first bytes c.in_ok-answer.answer c.if-bytes-lt12.false (c.in_ok-answer.ensures ∙ ap (λ n. end_of (questions_from n bytes 12)) c.two_at.ensures))
    (c.in_ok-authority.ensures ∙ ap (λ n. end_of (section_from n bytes c.in_ok-answer.answer)) c.two_at-2.ensures))
    (c.in_err-additional.ensures ∙ ap (λ n. end_of (section_from n bytes c.in_ok-authority.authority)) c.two_at-3.ensures)))

pub returns-in_err-additional-clause-quiet : goal.returns-in_err-additional-clause-quiet
returns-in_err-additional-clause-quiet g c =
    let bytes = c.args.bytes.now in
    handed_told bytes c.from_residual-in_err-additional.result c.in_err-additional.field-0.0 c.from_residual-in_err-additional.ensures.1
    (no_authority bytes (questions_in bytes) c.in_ok-answer.answer c.in_ok-authority.authority c.in_err-additional.field-0.0
    (as_second bytes (questions_in bytes) c.in_ok-answer.answer c.in_ok-authority.authority
    (as_first bytes c.in_ok-answer.answer c.if-bytes-lt12.false (c.in_ok-answer.ensures ∙ ap (λ n. end_of (questions_from n bytes 12)) c.two_at.ensures))
    (c.in_ok-authority.ensures ∙ ap (λ n. end_of (section_from n bytes c.in_ok-answer.answer)) c.two_at-2.ensures))
    (c.in_err-additional.ensures ∙ ap (λ n. end_of (section_from n bytes c.in_ok-authority.authority)) c.two_at-3.ensures))

pub returns-in_err-additional-clause-refused : goal.returns-in_err-additional-clause-refused
returns-in_err-additional-clause-refused g c =
    let bytes = c.args.bytes.now in
    surely_none bytes c.from_residual-in_err-additional.result (none_handed_on bytes c.from_residual-in_err-additional.result c.in_err-additional.field-0.0 c.from_residual-in_err-additional.ensures.1
    (fails_is c.in_err-additional.field-0.0 (message_of bytes) (no_authority bytes (questions_in bytes) c.in_ok-answer.answer c.in_ok-authority.authority c.in_err-additional.field-0.0
    (as_second bytes (questions_in bytes) c.in_ok-answer.answer c.in_ok-authority.authority
    (as_first bytes c.in_ok-answer.answer c.if-bytes-lt12.false (c.in_ok-answer.ensures ∙ ap (λ n. end_of (questions_from n bytes 12)) c.two_at.ensures))
    (c.in_ok-authority.ensures ∙ ap (λ n. end_of (section_from n bytes c.in_ok-answer.answer)) c.two_at-2.ensures))
    (c.in_err-additional.ensures ∙ ap (λ n. end_of (section_from n bytes c.in_ok-authority.authority)) c.two_at-3.ensures))))
    (returns-in_err-additional-clause-quiet g c)

pub returns-in_err-end-clause-exact : goal.returns-in_err-end-clause-exact
returns-in_err-end-clause-exact g c =
    let bytes = c.args.bytes.now in
    gives_failed (λ m. m) c.from_residual-in_err-end.result c.in_err-end.field-0.0 (message_of bytes) c.from_residual-in_err-end.ensures.1
    (fails_is c.in_err-end.field-0.0 (message_of bytes) (no_additional bytes (questions_in bytes) c.in_ok-answer.answer c.in_ok-authority.authority c.in_ok-additional.additional c.in_err-end.field-0.0
    (as_third bytes (questions_in bytes) c.in_ok-answer.answer c.in_ok-authority.authority c.in_ok-additional.additional
    (as_second bytes (questions_in bytes) c.in_ok-answer.answer c.in_ok-authority.authority
    (as_first bytes c.in_ok-answer.answer c.if-bytes-lt12.false (c.in_ok-answer.ensures ∙ ap (λ n. end_of (questions_from n bytes 12)) c.two_at.ensures))
    (c.in_ok-authority.ensures ∙ ap (λ n. end_of (section_from n bytes c.in_ok-answer.answer)) c.two_at-2.ensures))
    (c.in_ok-additional.ensures ∙ ap (λ n. end_of (section_from n bytes c.in_ok-authority.authority)) c.two_at-3.ensures))
    (c.in_err-end.ensures ∙ ap (λ n. end_of (section_from n bytes c.in_ok-additional.additional)) c.two_at-4.ensures)))

pub returns-in_err-end-clause-quiet : goal.returns-in_err-end-clause-quiet
returns-in_err-end-clause-quiet g c =
    let bytes = c.args.bytes.now in
    handed_told bytes c.from_residual-in_err-end.result c.in_err-end.field-0.0 c.from_residual-in_err-end.ensures.1
    (no_additional bytes (questions_in bytes) c.in_ok-answer.answer c.in_ok-authority.authority c.in_ok-additional.additional c.in_err-end.field-0.0
    (as_third bytes (questions_in bytes) c.in_ok-answer.answer c.in_ok-authority.authority c.in_ok-additional.additional
    (as_second bytes (questions_in bytes) c.in_ok-answer.answer c.in_ok-authority.authority
    (as_first bytes c.in_ok-answer.answer c.if-bytes-lt12.false (c.in_ok-answer.ensures ∙ ap (λ n. end_of (questions_from n bytes 12)) c.two_at.ensures))
    (c.in_ok-authority.ensures ∙ ap (λ n. end_of (section_from n bytes c.in_ok-answer.answer)) c.two_at-2.ensures))
    (c.in_ok-additional.ensures ∙ ap (λ n. end_of (section_from n bytes c.in_ok-authority.authority)) c.two_at-3.ensures))
    (c.in_err-end.ensures ∙ ap (λ n. end_of (section_from n bytes c.in_ok-additional.additional)) c.two_at-4.ensures))

pub returns-in_err-end-clause-refused : goal.returns-in_err-end-clause-refused
returns-in_err-end-clause-refused g c =
    let bytes = c.args.bytes.now in
    surely_none bytes c.from_residual-in_err-end.result (none_handed_on bytes c.from_residual-in_err-end.result c.in_err-end.field-0.0 c.from_residual-in_err-end.ensures.1
    (fails_is c.in_err-end.field-0.0 (message_of bytes) (no_additional bytes (questions_in bytes) c.in_ok-answer.answer c.in_ok-authority.authority c.in_ok-additional.additional c.in_err-end.field-0.0
    (as_third bytes (questions_in bytes) c.in_ok-answer.answer c.in_ok-authority.authority c.in_ok-additional.additional
    (as_second bytes (questions_in bytes) c.in_ok-answer.answer c.in_ok-authority.authority
    (as_first bytes c.in_ok-answer.answer c.if-bytes-lt12.false (c.in_ok-answer.ensures ∙ ap (λ n. end_of (questions_from n bytes 12)) c.two_at.ensures))
    (c.in_ok-authority.ensures ∙ ap (λ n. end_of (section_from n bytes c.in_ok-answer.answer)) c.two_at-2.ensures))
    (c.in_ok-additional.ensures ∙ ap (λ n. end_of (section_from n bytes c.in_ok-authority.authority)) c.two_at-3.ensures))
    (c.in_err-end.ensures ∙ ap (λ n. end_of (section_from n bytes c.in_ok-additional.additional)) c.two_at-4.ensures))))
    (returns-in_err-end-clause-quiet g c)

pub returns-then-end-bytes-clause-exact : goal.returns-then-end-bytes-clause-exact
returns-then-end-bytes-clause-exact g c =
    let bytes = c.args.bytes.now in
    more_behind bytes (questions_in bytes) c.in_ok-answer.answer c.in_ok-authority.authority c.in_ok-additional.additional c.in_ok-end.end
    (as_third bytes (questions_in bytes) c.in_ok-answer.answer c.in_ok-authority.authority c.in_ok-additional.additional
    (as_second bytes (questions_in bytes) c.in_ok-answer.answer c.in_ok-authority.authority
    (as_first bytes c.in_ok-answer.answer c.if-bytes-lt12.false (c.in_ok-answer.ensures ∙ ap (λ n. end_of (questions_from n bytes 12)) c.two_at.ensures))
    (c.in_ok-authority.ensures ∙ ap (λ n. end_of (section_from n bytes c.in_ok-answer.answer)) c.two_at-2.ensures))
    (c.in_ok-additional.ensures ∙ ap (λ n. end_of (section_from n bytes c.in_ok-authority.authority)) c.two_at-3.ensures))
    (c.in_ok-end.ensures ∙ ap (λ n. end_of (section_from n bytes c.in_ok-additional.additional)) c.two_at-4.ensures) c.if-end-bytes.true

pub returns-then-end-bytes-clause-refused : goal.returns-then-end-bytes-clause-refused
returns-then-end-bytes-clause-refused g c = none_by c.args.bytes.now TrailingBytes rest_is_told (no_message c.args.bytes.now TrailingBytes (returns-then-end-bytes-clause-exact g c))

pub returns-clause-exact : goal.returns-clause-exact
returns-clause-exact g c =
    let bytes = c.args.bytes.now in
    all_seen bytes (questions_in bytes) c.in_ok-answer.answer c.in_ok-authority.authority c.in_ok-additional.additional c.in_ok-end.end
    (as_third bytes (questions_in bytes) c.in_ok-answer.answer c.in_ok-authority.authority c.in_ok-additional.additional
    (as_second bytes (questions_in bytes) c.in_ok-answer.answer c.in_ok-authority.authority
    (as_first bytes c.in_ok-answer.answer c.if-bytes-lt12.false (c.in_ok-answer.ensures ∙ ap (λ n. end_of (questions_from n bytes 12)) c.two_at.ensures))
    (c.in_ok-authority.ensures ∙ ap (λ n. end_of (section_from n bytes c.in_ok-answer.answer)) c.two_at-2.ensures))
    (c.in_ok-additional.ensures ∙ ap (λ n. end_of (section_from n bytes c.in_ok-authority.authority)) c.two_at-3.ensures))
    (c.in_ok-end.ensures ∙ ap (λ n. end_of (section_from n bytes c.in_ok-additional.additional)) c.two_at-4.ensures) c.if-end-bytes.false

pub returns-clause-read : goal.returns-clause-read
returns-clause-read g c = message_there c.args.bytes.now _ (λ i. omega (arith, c.type_inv.bytes i)) (returns-clause-exact g c)
