-- Where actions go.
use Rattle.std.specs.Prelude.{ℕ}
use Rattle.wire.specs.declared.via.Via.{Via}
use Rattle.wire.specs.declared.via.Via.TheVariants.{Udp, Tcp}
use Rattle.events.specs.declared.action.Action.{Action}
use Rattle.events.specs.declared.action.Action.TheVariants.{Reply, Send, TcpAsk}
use Rattle.dispatch.specs.Senders.{sender_in}
use Rattle.dispatch.specs.declared.destinations.Destination.{Destination}
use Rattle.dispatch.specs.declared.destinations.Destination.TheVariants.{Client, Stream, Server, Worker}

-- A reply goes by the way by which its query came: back to the sender that its number holds, or on the stream.
abbrev pub reply_target : Via → ℕ → Destination
reply_target Udp client = Client (sender_in client)
reply_target Tcp client = Stream client

abbrev pub target : {A : Type 0} → Action A → Destination
target (Reply client way bytes cause) = reply_target way client
target (Send sock to bytes) = Server sock to
target (TcpAsk number to bytes) = Worker number to
