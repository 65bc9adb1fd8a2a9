use Rattle.std.proofs.Common.{Err}
use Rattle.wire.proofs.Skipping.{handed, skipping_refused, skip_refused, by_body, skip_done, skip_kept}
use Rattle.wire.proofs.records.skipped_end.Goals as goal

pub returns-in_err-past : goal.returns-in_err-past
returns-in_err-past c =
    skipping_refused c.from_residual.result c.in_err-past.field-0.0 _ (handed c.from_residual.result c.in_err-past.field-0.0 c.from_residual.ensures.1)
    (skip_refused c.args.bytes.now c.args.at c.in_err-past.field-0.0 c.in_err-past.ensures.is)

pub returns-in_err-kind : goal.returns-in_err-kind
returns-in_err-kind c =
    skipping_refused c.from_residual-in_err-kind.result c.in_err-kind.field-0.0 _
    (handed c.from_residual-in_err-kind.result c.in_err-kind.field-0.0 c.from_residual-in_err-kind.ensures.1)
    (by_body c.args.bytes.now c.args.at c.in_ok-past.past (Err c.in_err-kind.field-0.0) c.in_ok-past.ensures.is c.in_err-kind.ensures.is)

pub returns-in-None : goal.returns-in-None
returns-in-None c =
    skip_done c.args.bytes.now c.args.at c.in_ok-past.past c.in_ok-kind.size c.in_ok-kind.kind c.in_ok-past.ensures.is c.in_ok-kind.ensures.is c.in-None.is

pub returns-in-Some : goal.returns-in-Some
returns-in-Some c =
    skip_kept c.args.bytes.now c.args.at c.in_ok-past.past c.in_ok-kind.size c.in_ok-kind.kind c.in-Some.field-0 c.in_ok-past.ensures.is c.in_ok-kind.ensures.is c.in-Some.is
