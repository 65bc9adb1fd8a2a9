-- The ask is left no more, and goes by the same way.
use Rattle.std.proofs.lemmas.Result.{on_ok_weaker}
use Rattle.play.specs.Seen.{state_of}
use Rattle.play.proofs.Playing.{carried}
use Rattle.play.proofs.follow.Player.carry.Goals as goal

pub returns : goal.returns
returns g c =
    on_ok_weaker c.come.result (carried c.args.number (state_of c.args.self.now) (state_of c.come.new.self) (c.take_off.new.self).marks c.take_off.ensures.marks)
    c.come.ensures.is
