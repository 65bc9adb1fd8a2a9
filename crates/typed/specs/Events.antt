-- An event as it was read, without its bytes.
use Rattle.std.specs.Prelude.{◌≡◌, ℕ, Option, None, List}
use Rattle.wire.specs.declared.via.Via.{Via}
use Rattle.wire.specs.declared.via.Via.TheVariants.{Udp, Tcp}
use Rattle.front.specs.Queries.{IsRequest}
use Rattle.front.specs.declared.queries.Request.{Request}
use Rattle.classify.specs.Read.{Reading, IsReadFrom, AreRead}
use Rattle.runs.specs.States.{Endpoint, Event, Plain}
use Rattle.runs.specs.States as told

-- A client's request; a datagram with what was read of its message; a reply over TCP, with what was read of it if it
-- replies to a question; the failure of an ask over TCP; a tick.
pub data Parsed : Type 0 where
  Client : ℕ → ℕ → Via → Request Plain → Parsed
  Datagram : ℕ → ℕ → Endpoint → Reading → Parsed
  TcpReply : ℕ → ℕ → Option Reading → Parsed
  TcpFailed : ℕ → ℕ → Parsed
  Tick : ℕ → Parsed

-- The event is read as this.
abbrev pub ReadAs : Event → Parsed → Type 0
ReadAs e (Client now client way request) = (bytes : List ℕ) × (e ≡ told.Client now client way bytes) × IsRequest bytes request
ReadAs e (Datagram now sock from reading) = (bytes : List ℕ) × (e ≡ told.Datagram now sock from bytes) × IsReadFrom Udp bytes reading
ReadAs e (TcpReply now number reading) = (bytes : List ℕ) × (e ≡ told.TcpReply now number bytes) × AreRead Tcp bytes reading
ReadAs e (TcpFailed now number) = e ≡ told.TcpFailed now number
ReadAs e (Tick now) = e ≡ told.Tick now

-- Some event is read so.
pub record HasBytes (p : Parsed) : Type 0 where
  pub event : Event
  pub reads : ReadAs event p

-- A datagram that replies to no question of a served type, and so to no ask.
abbrev pub RepliesToNone : Event → Type 0
RepliesToNone e = (now sock : ℕ) × (from : Endpoint) × (bytes : List ℕ) × (e ≡ told.Datagram now sock from bytes) × AreRead Udp bytes None
