-- The client is heard under its number.
use Rattle.std.proofs.Common.{refl}
use Rattle.std.proofs.lemmas.Result.{on_ok_weaker}
use Rattle.play.specs.Seen.{state_of}
use Rattle.play.proofs.Playing.{asked}
use Rattle.play.proofs.follow.Player.ask.Goals as goal

pub returns : goal.returns
returns g c =
    on_ok_weaker c.ask.result
    (asked c.args.way c.in_ok-client.client c.args.bytes c.as_slice.result.now c.push.new.self (state_of c.args.self.now)
    (state_of (record c.args.self.now { show = c.ask.new.self })) c.in_ok-client.ensures.number c.as_slice.ensures.is c.in_ok-client.ensures.heard refl)
    c.ask.ensures
