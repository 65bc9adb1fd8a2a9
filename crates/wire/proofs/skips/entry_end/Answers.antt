use Rattle.std.proofs.Common.{◌∙◌, Err, sym, ap}
use Rattle.wire.specs.Results.{end_of}
use Rattle.wire.proofs.Skipping.{handed, skip_refused, by_body, skip_done, form_fails, form_spare, form_fills}
use Rattle.wire.proofs.skips.entry_end.Goals as goal

pub returns-in_err-past : goal.returns-in_err-past
returns-in_err-past c =
    handed c.from_residual.result c.in_err-past.field-0.0 c.from_residual.ensures.1
    ∙ sym (ap end_of (skip_refused c.args.bytes.now c.args.at c.in_err-past.field-0.0 c.in_err-past.ensures.is))

pub returns-in_err-kind : goal.returns-in_err-kind
returns-in_err-kind c =
    handed c.from_residual-in_err-kind.result c.in_err-kind.field-0.0 c.from_residual-in_err-kind.ensures.1
    ∙ sym (ap end_of (by_body c.args.bytes.now c.args.at c.in_ok-past.past (Err c.in_err-kind.field-0.0) c.in_ok-past.ensures.is c.in_err-kind.ensures.is))

pub returns-in-None : goal.returns-in-None
returns-in-None c =
    sym (ap end_of (skip_done c.args.bytes.now c.args.at c.in_ok-past.past c.in_ok-kind.size c.in_ok-kind.kind c.in_ok-past.ensures.is c.in_ok-kind.ensures.is c.in-None.is))

pub returns-in_err-form_end-in-Some : goal.returns-in_err-form_end-in-Some
returns-in_err-form_end-in-Some c =
    handed c.from_residual-in_err-form_end-in-Some.result c.in_err-form_end-in-Some.field-0.0 c.from_residual-in_err-form_end-in-Some.ensures.1
    ∙ form_fails c.args.bytes.now c.args.at c.in_ok-past.past c.in_ok-kind.size c.in_ok-kind.kind c.in-Some.kind c.in_err-form_end-in-Some.field-0.0 c.in_ok-past.ensures.is
    c.in_ok-kind.ensures.is c.in-Some.is c.in_err-form_end-in-Some.ensures

pub returns-then-branch-end : goal.returns-then-branch-end
returns-then-branch-end c =
    form_spare c.args.bytes.now c.args.at c.in_ok-past.past c.in_ok-kind.size c.in_ok-form_end-in-Some.field-0 c.in_ok-kind.kind c.in-Some.kind c.in_ok-past.ensures.is
    c.in_ok-kind.ensures.is c.in-Some.is c.in_ok-form_end-in-Some.ensures c.if-branch-end.true

pub returns-else-branch-end : goal.returns-else-branch-end
returns-else-branch-end c =
    form_fills c.args.bytes.now c.args.at c.in_ok-past.past c.in_ok-kind.size c.in_ok-form_end-in-Some.field-0 c.in_ok-kind.kind c.in-Some.kind c.in_ok-past.ensures.is
    c.in_ok-kind.ensures.is c.in-Some.is c.in_ok-form_end-in-Some.ensures c.if-branch-end.false
