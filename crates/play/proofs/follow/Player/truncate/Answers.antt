-- It is left no more, unless it went over TCP.
use Rattle.std.proofs.Common.{refl}
use Rattle.std.proofs.lemmas.Result.{on_ok_weaker}
use Rattle.network.specs.Networks.{CarryTruncated}
use Rattle.score.specs.Sends.{way_at}
use Rattle.play.specs.Plays.{take_truncated}
use Rattle.play.specs.Seen.{state_of}
use Rattle.play.proofs.Playing.{occurred}
use Rattle.play.proofs.follow.Player.truncate.Goals as goal

pub returns : goal.returns
returns g c =
    let p = c.args.self.now in
    let k = c.args.number in
    let sends = ((p.show).sends).marks in
    on_ok_weaker c.happen.result
    (occurred (CarryTruncated p.moment k) (state_of p) (state_of (record p { show = c.happen.new.self })) (c.take_truncated.new.sends).marks (take_truncated sends k (way_at sends k)) c.take_truncated.ensures refl)
    c.happen.ensures.is
