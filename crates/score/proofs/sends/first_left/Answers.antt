-- One more that is not left.
use Rattle.std.proofs.Common.{arith}
use Rattle.score.proofs.Left.{one_more}
use Rattle.score.proofs.sends.first_left.Goals as goal

pub loop-place-preserved : goal.loop-place-preserved
loop-place-preserved c =
    (omega arith, one_more c.args.marks.now c.loop-place.place _ c.loop-place-test.true c.loop-place.invariant.1 c.if-marks-place.false)
