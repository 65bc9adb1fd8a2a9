-- One order more.
use Rattle.script.specs.Orders.{order_seen}
use Rattle.play.specs.Seen.{state_of}
use Rattle.play.proofs.Playing.{one_more}
use Rattle.play.proofs.follow.Player.follow_all.Goals as goal

pub loop-order-preserved : goal.loop-order-preserved
loop-order-preserved g c =
    one_more order_seen c.loop-order.yielded c.in-Some.order (state_of c.args.self.now) (state_of c.loop-order.self) (state_of c.follow.new.self) c.loop-order.invariant
    c.in_ok-follow.ensures
