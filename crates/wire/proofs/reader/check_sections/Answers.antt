use Rattle.std.proofs.Common.{◌∙◌, ap, refl}
use Rattle.wire.specs.declared.error.WireError.TheVariants.{TrailingBytes}
use Rattle.wire.specs.Results.{end_of}
use Rattle.wire.specs.Entries.{section_from, message_of}
use Rattle.wire.proofs.Alone.{behind_handed_on}
use Rattle.wire.proofs.Viewed.{as_second, as_third, no_answer, no_authority, no_additional, more_behind, sections, all_seen}
use Rattle.wire.proofs.Walks.{fails_is}
use Rattle.wire.proofs.reader.check_sections.Goals as goal

pub returns-in_err-authority-clause-refused : goal.returns-in_err-authority-clause-refused
returns-in_err-authority-clause-refused g c =
    let bytes = c.args.bytes.now in
    behind_handed_on bytes c.args.at c.from_residual.result c.in_err-authority.field-0.0 c.from_residual.ensures.1
    (λ questions so. fails_is c.in_err-authority.field-0.0 (message_of bytes) (no_answer bytes questions c.args.at c.in_err-authority.field-0.0 (record { so_far = so }) (c.in_err-authority.ensures ∙ ap (λ n. end_of (section_from n bytes c.args.at)) c.two_at.ensures)))

pub returns-in_err-additional-clause-refused : goal.returns-in_err-additional-clause-refused
returns-in_err-additional-clause-refused g c =
    let bytes = c.args.bytes.now in
    behind_handed_on bytes c.args.at c.from_residual-in_err-additional.result c.in_err-additional.field-0.0 c.from_residual-in_err-additional.ensures.1
    (λ questions so. fails_is c.in_err-additional.field-0.0 (message_of bytes) (no_authority bytes questions c.args.at c.in_ok-authority.authority c.in_err-additional.field-0.0
    (as_second bytes questions c.args.at c.in_ok-authority.authority (record { so_far = so }) (c.in_ok-authority.ensures ∙ ap (λ n. end_of (section_from n bytes c.args.at)) c.two_at.ensures))
    (c.in_err-additional.ensures ∙ ap (λ n. end_of (section_from n bytes c.in_ok-authority.authority)) c.two_at-2.ensures)))

pub returns-in_err-end-clause-refused : goal.returns-in_err-end-clause-refused
returns-in_err-end-clause-refused g c =
    let bytes = c.args.bytes.now in
    behind_handed_on bytes c.args.at c.from_residual-in_err-end.result c.in_err-end.field-0.0 c.from_residual-in_err-end.ensures.1
    (λ questions so. fails_is c.in_err-end.field-0.0 (message_of bytes) (no_additional bytes questions c.args.at c.in_ok-authority.authority c.in_ok-additional.additional c.in_err-end.field-0.0
    (as_third bytes questions c.args.at c.in_ok-authority.authority c.in_ok-additional.additional
    (as_second bytes questions c.args.at c.in_ok-authority.authority (record { so_far = so }) (c.in_ok-authority.ensures ∙ ap (λ n. end_of (section_from n bytes c.args.at)) c.two_at.ensures))
    (c.in_ok-additional.ensures ∙ ap (λ n. end_of (section_from n bytes c.in_ok-authority.authority)) c.two_at-2.ensures))
    (c.in_err-end.ensures ∙ ap (λ n. end_of (section_from n bytes c.in_ok-additional.additional)) c.two_at-3.ensures)))

pub returns-then-end-bytes-clause-refused : goal.returns-then-end-bytes-clause-refused
returns-then-end-bytes-clause-refused g c =
    let bytes = c.args.bytes.now in
    λ questions so. fails_is TrailingBytes (message_of bytes) (more_behind bytes questions c.args.at c.in_ok-authority.authority c.in_ok-additional.additional c.in_ok-end.end
    (as_third bytes questions c.args.at c.in_ok-authority.authority c.in_ok-additional.additional
    (as_second bytes questions c.args.at c.in_ok-authority.authority (record { so_far = so }) (c.in_ok-authority.ensures ∙ ap (λ n. end_of (section_from n bytes c.args.at)) c.two_at.ensures))
    (c.in_ok-additional.ensures ∙ ap (λ n. end_of (section_from n bytes c.in_ok-authority.authority)) c.two_at-2.ensures))
    (c.in_ok-end.ensures ∙ ap (λ n. end_of (section_from n bytes c.in_ok-additional.additional)) c.two_at-3.ensures) c.if-end-bytes.true)

pub returns-clause-read : goal.returns-clause-read
returns-clause-read g c =
    let bytes = c.args.bytes.now in
    λ questions so. (
      sections bytes questions c.args.at c.in_ok-authority.authority c.in_ok-additional.additional,
      all_seen bytes questions c.args.at c.in_ok-authority.authority c.in_ok-additional.additional c.in_ok-end.end
          (as_third bytes questions c.args.at c.in_ok-authority.authority c.in_ok-additional.additional
          (as_second bytes questions c.args.at c.in_ok-authority.authority (record { so_far = so }) (c.in_ok-authority.ensures ∙ ap (λ n. end_of (section_from n bytes c.args.at)) c.two_at.ensures))
          (c.in_ok-additional.ensures ∙ ap (λ n. end_of (section_from n bytes c.in_ok-authority.authority)) c.two_at-2.ensures))
          (c.in_ok-end.ensures ∙ ap (λ n. end_of (section_from n bytes c.in_ok-additional.additional)) c.two_at-3.ensures) c.if-end-bytes.false,
      refl,
    )
