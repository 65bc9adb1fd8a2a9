-- Who asks, and what admission counts together.
use Rattle.std.specs.Prelude.{ℕ, Option, Some, None}
use Rattle.wire.specs.declared.via.Via.{Via}
use Rattle.wire.specs.declared.via.Via.TheVariants.{Udp, Tcp}
use Rattle.events.specs.declared.action.Action.{Action}
use Rattle.events.specs.declared.action.Action.TheVariants.{Reply, Send, TcpAsk}
use Rattle.dispatch.specs.Places.{client_in}
use Rattle.server.specs.declared.query.Asker.{Asker}

-- A sender of datagrams counts by its own number, a stream by its address and place.
abbrev pub admission_client : Via → ℕ → ℕ
admission_client Udp client = client
admission_client Tcp client = client_in client

-- Whom an action replies to.
abbrev pub asker_in : {A : Type 0} → Action A → Option Asker
asker_in (Reply client way bytes cause) = Some (record { client = client; way = way })
asker_in (Send sock to bytes) = None
asker_in (TcpAsk number to bytes) = None
