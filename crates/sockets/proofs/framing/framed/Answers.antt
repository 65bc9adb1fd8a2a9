use Rattle.sockets.proofs.Streams.{frame_first}
use Rattle.std.proofs.Common.{rules}
use Rattle.sockets.proofs.framing.framed.Goals as goal

pub returns : goal.returns
returns c = frame_first c.args.got.now c.in_ok-head.head.now c.in_ok-head.rest.now c.from-count.result (search rules) (search rules) (search rules) (search rules)
