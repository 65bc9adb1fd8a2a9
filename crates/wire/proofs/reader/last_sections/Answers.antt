use Rattle.wire.specs.Entries.{message_second}
use Rattle.wire.proofs.Walks.{gives_failed}
use Rattle.wire.proofs.Whole.{authority_fails, additional_fails, last_trailing, last_read}
use Rattle.wire.proofs.reader.last_sections.Goals as goal

pub returns-in_err-authority : goal.returns-in_err-authority
returns-in_err-authority g c questions answer =
    let bytes = c.args.bytes.now in
    gives_failed _ c.from_residual.result c.in_err-authority.field-0.0 (message_second bytes questions (answer, c.args.at)) c.from_residual.ensures.1
    (authority_fails bytes c.two_at.result c.args.at questions answer c.in_err-authority.field-0.0 c.two_at.ensures c.in_err-authority.ensures)

pub returns-in_err-additional : goal.returns-in_err-additional
returns-in_err-additional g c questions answer =
    let bytes = c.args.bytes.now in
    gives_failed _ c.from_residual-in_err-additional.result c.in_err-additional.field-0.0 (message_second bytes questions (answer, c.args.at))
    c.from_residual-in_err-additional.ensures.1
    (additional_fails bytes c.two_at.result c.two_at-2.result c.args.at c.in_ok-authority.at questions answer c.in_ok-authority.authority c.in_err-additional.field-0.0
    c.two_at.ensures c.in_ok-authority.ensures c.two_at-2.ensures c.in_err-additional.ensures)

pub returns-then-at-bytes : goal.returns-then-at-bytes
returns-then-at-bytes g c questions answer =
    last_trailing c.args.bytes.now c.two_at.result c.two_at-2.result c.args.at c.in_ok-authority.at c.in_ok-additional.at questions answer c.in_ok-authority.authority
    c.in_ok-additional.additional c.two_at.ensures c.in_ok-authority.ensures c.two_at-2.ensures c.in_ok-additional.ensures c.if-at-bytes.true

pub returns : goal.returns
returns g c questions answer =
    last_read c.args.bytes.now c.two_at.result c.two_at-2.result c.args.at c.in_ok-authority.at c.in_ok-additional.at questions answer c.in_ok-authority.authority
    c.in_ok-additional.additional c.two_at.ensures c.in_ok-authority.ensures c.two_at-2.ensures c.in_ok-additional.ensures c.if-at-bytes.false
