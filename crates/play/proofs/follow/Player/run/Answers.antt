-- Round by round, until none is left.
use Rattle.std.proofs.Common.{refl, sym, arith}
use Rattle.play.specs.Seen.{state_of}
use Rattle.play.proofs.Playing.{stays, one_round, all_rounds, carried}
use Rattle.play.proofs.follow.Player.run.Goals as goal

pub loop-number-init : goal.loop-number-init
loop-number-init g c = stays (state_of c.args.self.now)

pub loop-number-preserved : goal.loop-number-preserved
loop-number-preserved g c =
    one_round (state_of c.args.self.now) (state_of c.loop-number.self) (state_of c.come.new.self) c.in-Some.number c.loop-number.invariant (sym c.in-Some.ensures.lowest)
    (carried c.in-Some.number (state_of c.loop-number.self) (state_of c.come.new.self) (c.take_lowest.new.self).marks c.in-Some.ensures.some.0 c.in_ok-come.ensures.is)

pub loop-number-smaller : goal.loop-number-smaller
loop-number-smaller g c = omega (arith, c.in-Some.ensures.some.1, c.in-Some.ensures.bound, c.in_ok-come.ensures.passed)

pub returns : goal.returns
returns g c =
    all_rounds (state_of c.args.self.now) (state_of c.loop-number.self) (c.take_lowest.new.self).marks c.loop-number.invariant c.in_default.ensures.lowest (c.in_default.ensures.none refl)
