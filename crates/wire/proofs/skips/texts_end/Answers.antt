use Rattle.std.proofs.Common.{◌∙◌}
use Rattle.wire.proofs.Skipping.{handed}
use Rattle.wire.proofs.Ends.{texts_on, texts_fail}
use Rattle.wire.proofs.skips.texts_end.Goals as goal

pub returns-in_err-place-2 : goal.returns-in_err-place-2
returns-in_err-place-2 c =
    handed c.from_residual-in_err-place-2.result c.in_err-place-2.field-0.0 c.from_residual-in_err-place-2.ensures.1
    ∙ texts_fail c.args.bytes.now c.args.at c.args.end c.loop-place.place c.in_err-place-2.field-0.0 c.loop-place.invariant c.loop-place-test.true c.in_err-place-2.ensures.is

pub loop-place-preserved : goal.loop-place-preserved
loop-place-preserved c =
    texts_on c.args.bytes.now c.args.at c.args.end c.loop-place.place c.in_ok-place-2.place c.loop-place.invariant c.loop-place-test.true c.in_ok-place-2.ensures.is
    c.in_ok-place-2.ensures.within.0
