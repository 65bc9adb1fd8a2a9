-- Nothing was seen yet.
use Rattle.std.proofs.Common.{string_bytes}
use Rattle.play.proofs.Playing.{begun}
use Rattle.play.proofs.follow.Player.of.Goals as goal

pub returns : goal.returns
returns g c =
    begun c.args.network c.new.result c.new-2.result c.new-3.result (string_bytes c.new-4.result) c.new.ensures c.new-2.ensures c.new-3.ensures c.new-4.ensures.bytes
