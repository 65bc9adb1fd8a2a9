-- Every reply that is counted is right, whatever the script.
use Rattle.std.proofs.Common.{map, string_bytes}
use Rattle.std.proofs.lemmas.Result.{IfOk-weaker}
use Rattle.script.specs.Orders.{order_seen}
use Rattle.play.specs.Seen.{state_of}
use Rattle.play.proofs.Right.{is_played}
use Rattle.play.proofs.follow.play.Goals as goal

pub returns : goal.returns
returns g c =
    IfOk-weaker c.end.result _ _
    (λ text is. is_played c.args.world (map order_seen c.args.orders.items) (state_of c.in_ok-player.player) (state_of c.follow_all.new.self) (string_bytes text) c.network_law.ensures.right
    c.well_formed_law.ensures c.in_ok-player.ensures c.in_ok-follow_all.ensures is)
    c.end.ensures
