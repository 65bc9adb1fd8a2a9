-- A network in memory: a resolver, and the servers of a world, which reply to what it asks. A reply is carried
-- in any order, any number of times, truncated or not, or is lost. Moments are milliseconds.
use Rattle.std.specs.Prelude.{◌≡◌, ℕ, ◌+◌, ◌-◌, ◌<◌, ◌≤◌, ◌⊎◌, true, cond, nat_eq, Option, Some, None, List, [], ◌∷◌, ◌++◌, length, slice_get}
use Rattle.message_grammar.specs.Messages.{Message, IsMessage, encoding}
use Rattle.causes.specs.declared.cause.Cause.{Cause}
use Rattle.wire.specs.Limits.{limit_of}
use Rattle.wire.specs.declared.via.Via.{Via}
use Rattle.wire.specs.declared.via.Via.TheVariants as via
use Rattle.world_truth.specs.Worlds.{World}
use Rattle.worlds.specs.Hosting.{IsHostReply}
use Rattle.runs.specs.States.{Endpoint, Plain, Path, ByUdp, ByTcp, Served, State}
use Rattle.runs.specs.States as resolver
use Rattle.runs.specs.Steps.{Step}

-- ---- what is in it

-- An ask that went out: how, where to, and its bytes.
pub record Sent : Type 0 where
  pub path : Path
  pub to : Endpoint
  pub bytes : List ℕ

-- `sends`: all asks that went out, in their order; the first one has number 1.
pub record Network : Type 0 where
  pub world : World
  pub resolver : State
  pub sends : List Sent

abbrev pub sent_at : List Sent → ℕ → Option Sent
sent_at sends k = cond (nat_eq k 0) None (slice_get sends (k - 1))

-- Each event has its moment. A client's bytes, with its number and its way; the reply to an ask comes, over UDP
-- whole or truncated, or over TCP; an ask is lost; time passes.
pub data NetworkEvent : Type 0 where
  Client : ℕ → ℕ → Via → List ℕ → NetworkEvent
  Carry : ℕ → ℕ → NetworkEvent
  CarryTruncated : ℕ → ℕ → NetworkEvent
  CarryTcp : ℕ → ℕ → NetworkEvent
  Lose : ℕ → ℕ → NetworkEvent
  Tick : ℕ → NetworkEvent

-- What the resolver does. An ask, over UDP or over TCP, shows the number under which it stands in the network.
pub data NetworkAction : Type 0 where
  Reply : ℕ → Via → List ℕ → Option Cause → NetworkAction
  WasSent : ℕ → NetworkAction
  WasAsked : ℕ → NetworkAction
  MoreDue : NetworkAction

-- ---- what comes of an ask

-- What the server at its address replies, if anything.
abbrev pub IsGiven : World → Sent → Option (List ℕ) → Type 0
IsGiven W x given = IsHostReply Plain W ((x.to).address).0 x.bytes given

-- A truncated reply: its header with TC, and its question (RFC 2181, section 9).
abbrev pub truncated : Message → Message
truncated m = record { header = record m.header { tc = true }; questions = m.questions; answer = []; authority = []; additional = [] }

pub record IsTruncatedReply (given come : List ℕ) : Type 0 where
  pub read : Message
  pub message : IsMessage given read
  pub encoded : come ≡ encoding (truncated read)
  pub stands : IsMessage come (truncated read)

-- Over UDP a reply comes whole where it has at most 512 bytes, and truncated where it has more (RFC 1035, section 4.2.1).
abbrev pub IsFitReply : List ℕ → List ℕ → Type 0
IsFitReply given come = ((length given ≤ limit_of via.Udp) × (come ≡ given)) ⊎ ((limit_of via.Udp < length given) × IsTruncatedReply given come)

-- A datagram with the reply, from whom was asked; nothing from a server that does not reply.
abbrev pub IsDatagram : (List ℕ → List ℕ → Type 0) → ℕ → ℕ → Endpoint → Option (List ℕ) → Option resolver.Event → Type 0
IsDatagram comes now sock from None event = event ≡ None
IsDatagram comes now sock from (Some given) event = (come : List ℕ) × comes given come × (event ≡ Some (resolver.Datagram now sock from come))

-- Over TCP a server that does not reply is a failure of the ask.
abbrev pub IsStream : ℕ → ℕ → Option (List ℕ) → Option resolver.Event → Type 0
IsStream now number None event = event ≡ Some (resolver.TcpFailed now number)
IsStream now number (Some given) event = event ≡ Some (resolver.TcpReply now number given)

-- An ask that went out the other way is not carried.
abbrev pub OverUdp : World → (List ℕ → List ℕ → Type 0) → ℕ → Sent → Path → Option resolver.Event → Type 0
OverUdp W comes now x (ByUdp sock) event = (given : Option (List ℕ)) × IsGiven W x given × IsDatagram comes now sock x.to given event
OverUdp W comes now x (ByTcp number) event = event ≡ None

abbrev pub OverTcp : World → ℕ → Sent → Path → Option resolver.Event → Type 0
OverTcp W now x (ByUdp sock) event = event ≡ None
OverTcp W now x (ByTcp number) event = (given : Option (List ℕ)) × IsGiven W x given × IsStream now number given event

-- A lost datagram is nothing, a lost ask over TCP its failure.
abbrev pub lost : ℕ → Path → Option resolver.Event
lost now (ByUdp sock) = None
lost now (ByTcp number) = Some (resolver.TcpFailed now number)

-- ---- what an event is to the resolver: an event of its own, or nothing

-- Nothing is carried under a number that never went out.
abbrev pub OfSend : (Sent → Option resolver.Event → Type 0) → Option Sent → Option resolver.Event → Type 0
OfSend Of None event = event ≡ None
OfSend Of (Some x) event = Of x event

abbrev pub Reaches : Network → NetworkEvent → Option resolver.Event → Type 0
Reaches s (Client now client way bytes) event = event ≡ Some (resolver.Client now client way bytes)
Reaches s (Carry now k) event = OfSend (λ x. OverUdp s.world IsFitReply now x x.path) (sent_at s.sends k) event
Reaches s (CarryTruncated now k) event = OfSend (λ x. OverUdp s.world IsTruncatedReply now x x.path) (sent_at s.sends k) event
Reaches s (CarryTcp now k) event = OfSend (λ x. OverTcp s.world now x x.path) (sent_at s.sends k) event
Reaches s (Lose now k) event = OfSend (λ x e. e ≡ lost now x.path) (sent_at s.sends k) event
Reaches s (Tick now) event = event ≡ Some (resolver.Tick now)

-- ---- one step

-- The asks among what the resolver does.
abbrev pub sends_among : List resolver.Action → List Sent
sends_among [] = []
sends_among (resolver.Reply client way bytes cause ∷ out) = sends_among out
sends_among (resolver.Send sock to bytes ∷ out) = record { path = ByUdp sock; to = to; bytes = bytes } ∷ sends_among out
sends_among (resolver.TcpAsk number to bytes ∷ out) = record { path = ByTcp number; to = to; bytes = bytes } ∷ sends_among out
sends_among (resolver.MoreDue ∷ out) = sends_among out

abbrev pub sends_in : Option (List resolver.Action) → List Sent
sends_in None = []
sends_in (Some out) = sends_among out

-- What it does as it is shown, where so many asks went out before.
abbrev pub numbered : ℕ → List resolver.Action → List NetworkAction
numbered n [] = []
numbered n (resolver.Reply client way bytes cause ∷ out) = Reply client way bytes cause ∷ numbered n out
numbered n (resolver.Send sock to bytes ∷ out) = WasSent (n + 1) ∷ numbered (n + 1) out
numbered n (resolver.TcpAsk number to bytes ∷ out) = WasAsked (n + 1) ∷ numbered (n + 1) out
numbered n (resolver.MoreDue ∷ out) = MoreDue ∷ numbered n out

abbrev pub shown : ℕ → Option (List resolver.Action) → Option (List NetworkAction)
shown n None = None
shown n (Some out) = Some (numbered n out)

-- The resolver takes a step by what reaches it. Where memory was wanting in that step no ask goes out.
pub record Passes (old : Network) (event : NetworkEvent) (out : Option (List NetworkAction)) (new : Network) : Type 0 where
  pub brought : resolver.Event
  pub reaches : Reaches old event (Some brought)
  pub served : Served
  pub actions : Option (List resolver.Action)
  pub step : Step old.resolver brought served actions new.resolver
  pub world : new.world ≡ old.world
  pub sends : new.sends ≡ old.sends ++ sends_in actions
  pub out_is : out ≡ shown (length old.sends) actions

-- Nothing reaches the resolver; memory is wanting before its step, and nothing changes; or it takes a step.
abbrev pub NetworkStep : Network → NetworkEvent → Option (List NetworkAction) → Network → Type 0
NetworkStep old event out new =
    (Reaches old event None × (out ≡ Some []) × (new ≡ old)) ⊎ ((out ≡ None) × (new ≡ old)) ⊎ Passes old event out new
