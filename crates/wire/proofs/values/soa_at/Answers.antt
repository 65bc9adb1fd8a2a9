use Rattle.std.proofs.Common.{◌+◌, Ok, sym, ◌∙◌}
use Rattle.rdata.specs.Data.{Soa}
use Rattle.rdata.specs.Kept.{datum}
use Rattle.rdata.specs.declared.rtype.RType.TheVariants as served
use Rattle.wire.specs.Values.{form_at}
use Rattle.wire.proofs.Walks.{gives_failed}
use Rattle.wire.proofs.SoaRead.{primary_fails, mailbox_fails, numbers_short, numbers_read}
use Rattle.wire.proofs.values.soa_at.Goals as goal

pub returns-in_err-primary : goal.returns-in_err-primary
returns-in_err-primary g c =
    gives_failed (λ x. (datum x.0, x.1)) c.from_residual.result c.in_err-primary.field-0.0 (form_at served.Soa c.args.bytes.now c.args.at c.args.end) c.from_residual.ensures.1
    (primary_fails c.args.bytes.now c.args.at c.args.end c.in_err-primary.field-0.0 c.in_err-primary.ensures.is)

pub returns-in_err-mailbox : goal.returns-in_err-mailbox
returns-in_err-mailbox g c =
    gives_failed (λ x. (datum x.0, x.1)) c.from_residual-in_err-mailbox.result c.in_err-mailbox.field-0.0 (form_at served.Soa c.args.bytes.now c.args.at c.args.end)
    c.from_residual-in_err-mailbox.ensures.1
    (mailbox_fails c.args.bytes.now c.args.at c.in_ok-primary.at c.args.end c.in_ok-primary.primary c.in_err-mailbox.field-0.0 c.in_ok-primary.ensures.is c.in_err-mailbox.ensures.is)

pub returns-then-end-at-lt20 : goal.returns-then-end-at-lt20
returns-then-end-at-lt20 g c =
    numbers_short c.args.bytes.now c.args.at c.in_ok-primary.at c.in_ok-mailbox.at c.args.end c.in_ok-primary.primary c.in_ok-mailbox.mailbox c.in_ok-primary.ensures.is
    c.in_ok-mailbox.ensures.is c.if-end-at-lt20.true

pub returns : goal.returns
returns g c =
    let soa = c.in_ok-soa.ensures.ok ∙ c.soa_of.ensures in
    numbers_read c.args.bytes.now c.args.at c.in_ok-primary.at c.in_ok-mailbox.at c.args.end c.in_ok-primary.primary c.in_ok-mailbox.mailbox c.in_ok-primary.ensures.is
    c.in_ok-mailbox.ensures.is c.if-end-at-lt20.false
    ∙ (λ i. Ok (Soa (sym soa i), c.in_ok-mailbox.at + 20))
