-- How the fault of a stream is told.
use Rattle.counters.specs.declared.labels.AskFault.{AskFault}
use Rattle.counters.specs.declared.labels.AskFault.TheVariants as ask
use Rattle.counters.specs.declared.labels.SocketFault.TheVariants as socket
use Rattle.counters.specs.declared.outcome.Outcome.{Outcome}
use Rattle.counters.specs.declared.labels.Way.TheVariants as way
use Rattle.counters.specs.declared.outcome.Outcome.TheVariants.{AskFailed, MemoryRefused, SocketFailed}
use Rattle.server.specs.declared.framed_stream.StreamFault.{StreamFault}
use Rattle.server.specs.declared.framed_stream.StreamFault.TheVariants.{Memory, Refused, Silent, Reset}

-- An ask over TCP that has failed.
abbrev pub failed : AskFault → Outcome
failed fault = AskFailed way.Tcp fault

-- Of a stream to a server.
abbrev pub ask_outcome : StreamFault → Outcome
ask_outcome Memory = MemoryRefused
ask_outcome Refused = failed ask.Refused
ask_outcome Silent = failed ask.Silent
ask_outcome Reset = failed ask.Reset

-- Of a client's stream.
abbrev pub stream_outcome : StreamFault → Outcome
stream_outcome Memory = MemoryRefused
stream_outcome Refused = SocketFailed socket.Stream
stream_outcome Silent = SocketFailed socket.Stream
stream_outcome Reset = SocketFailed socket.Stream
