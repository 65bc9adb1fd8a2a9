-- The destinations of asks, and their ways, as plain values.
use Rattle.std.specs.Prelude.{ℕ, List}
use Rattle.runs.specs.States.{Endpoint as EndpointSpec, Action, Send, TcpAsk, Path as PathSpec, ByUdp, ByTcp}
use Rattle.events.specs.declared.path.Endpoint.{Endpoint}
use Rattle.events.specs.declared.path.Path.{Path}
use Rattle.events.specs.declared.path.Path.TheVariants.{Udp, Tcp}

abbrev pub endpoint_view : Endpoint → EndpointSpec
endpoint_view e = record { address = e.address; port = e.port }

abbrev pub path_view : Path → PathSpec
path_view (Udp sock) = ByUdp sock
path_view (Tcp number) = ByTcp number

-- Bytes to a server: a datagram, or an ask over TCP.
abbrev pub directed : PathSpec → EndpointSpec → List ℕ → Action
directed (ByUdp sock) to bytes = Send sock to bytes
directed (ByTcp number) to bytes = TcpAsk number to bytes
