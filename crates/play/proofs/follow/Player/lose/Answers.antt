-- It is left no more.
use Rattle.std.proofs.Common.{refl}
use Rattle.std.proofs.lemmas.Result.{on_ok_weaker}
use Rattle.network.specs.Networks.{Lose}
use Rattle.score.specs.Sends.{taken_off}
use Rattle.play.specs.Seen.{state_of}
use Rattle.play.proofs.Playing.{occurred}
use Rattle.play.proofs.follow.Player.lose.Goals as goal

pub returns : goal.returns
returns g c =
    let p = c.args.self.now in
    let k = c.args.number in
    let sends = ((p.show).sends).marks in
    on_ok_weaker c.happen.result
    (occurred (Lose p.moment k) (state_of p) (state_of (record p { show = c.happen.new.self })) (c.take_off.new.self).marks (taken_off sends k) c.take_off.ensures.marks refl)
    c.happen.ensures.is
