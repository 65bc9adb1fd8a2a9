use Rattle.std.proofs.Common.{◌∙◌}
use Rattle.wire.proofs.Skipping.{handed}
use Rattle.wire.proofs.Ends.{asked_on, asked_fail}
use Rattle.wire.proofs.skips.questions_end.Goals as goal

pub returns-in_err-place : goal.returns-in_err-place
returns-in_err-place c =
    handed c.from_residual.result c.in_err-place.field-0.0 c.from_residual.ensures.1
    ∙ asked_fail c.args.bytes.now c.args.count c.args.at c.loop.counter c.loop.place c.in_err-place.field-0.0 c.loop.invariant c.loop-test.true c.in_err-place.ensures

pub loop-preserved : goal.loop-preserved
loop-preserved c = asked_on c.args.bytes.now c.args.count c.args.at c.loop.counter c.loop.place c.in_ok-place.place c.loop.invariant c.loop-test.true c.in_ok-place.ensures
