-- Nothing but the event.
use Rattle.std.proofs.Common.{refl}
use Rattle.std.proofs.lemmas.Result.{on_ok_weaker}
use Rattle.play.proofs.follow.Player.tick.Goals as goal

pub returns : goal.returns
returns g c = on_ok_weaker c.happen.result (λ h. (refl, h)) c.happen.ensures.is
