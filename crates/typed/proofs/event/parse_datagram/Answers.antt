use Rattle.std.proofs.Common.{refl}
use Rattle.events.specs.Paths.{endpoint_view}
use Rattle.typed.proofs.event.parse_datagram.Goals as goal

pub returns-in-None : goal.returns-in-None
returns-in-None g c = (
  c.args.moment,
  c.args.socket,
  endpoint_view c.args.from,
  c.args.bytes.now,
  refl,
  rw c.in-None.is at c.in_ok-read.ensures,
)
