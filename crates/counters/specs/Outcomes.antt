-- What each outcome adds to the counters.
use Rattle.std.specs.Prelude.{◌≡◌, ℕ, Bool, true, false, cond, List, [], ◌∷◌, ◌++◌, Option, Some, None, IfSome}
use Rattle.counters.specs.Labels.{type_of, rcode_of, bucket_of}
use Rattle.counters.specs.declared.counter.Counter.{Counter}
use Rattle.counters.specs.declared.counter.Counter.TheVariants as counter
use Rattle.counters.specs.declared.labels.Rcode.{Rcode}
use Rattle.counters.specs.declared.labels.Rcode.TheVariants as rcode
use Rattle.counters.specs.declared.labels.Source.{Source}
use Rattle.counters.specs.declared.labels.Source.TheVariants as source
use Rattle.causes.specs.declared.cause.Cause.{Cause}
use Rattle.counters.specs.declared.outcome.Reply.{Reply}
use Rattle.counters.specs.declared.outcome.Outcome.{Outcome}
use Rattle.counters.specs.declared.outcome.Outcome.TheVariants.{Query, Replied, Asked, AskFailed, Foreign, Held, Dropped, MemoryRefused, SocketFailed}

-- So much for that counter.
pub record Addition : Type 0 where
  pub counter : Counter
  pub amount : ℕ

abbrev pub one : Counter → Addition
one c = record { counter = c; amount = 1 }

-- What it was made of: AA is set for what a zone of the server's own says (RFC 1035, section 4.1.1).
abbrev pub source_of : Bool → Bool → Source
source_of true asked = source.Local
source_of false true = source.Servers
source_of false false = source.Cache

-- NOERROR and NXDOMAIN alone are answers.
abbrev pub answers : Rcode → Source → List Addition
answers rcode.NoError s = one (counter.Answer s) ∷ []
answers rcode.NxDomain s = one (counter.Answer s) ∷ []
answers rcode.FormErr s = []
answers rcode.ServFail s = []
answers rcode.NotImp s = []
answers rcode.Refused s = []
answers rcode.Other s = []

abbrev pub failures : Option Cause → List Addition
failures None = []
failures (Some c) = one (counter.Failure c) ∷ []

-- One reply more in its bucket, and its milliseconds in the sum, where it is known when its query came.
abbrev pub waits : Option ℕ → List Addition
waits None = []
waits (Some ms) = one (counter.Waited (bucket_of ms)) ∷ record { counter = counter.WaitedMillis; amount = ms } ∷ []

abbrev pub replied : Reply → List Addition
replied r =
    one (counter.Reply (rcode_of r.rcode))
    ∷ (answers (rcode_of r.rcode) (source_of r.authoritative r.asked) ++ (failures r.cause
    ++ (cond r.truncated (one counter.Truncated ∷ []) [] ++ waits r.millis)))

abbrev pub counted : Outcome → List Addition
counted (Query w number) = one (counter.Query w (type_of number)) ∷ []
counted (Replied r) = replied r
counted (Asked w) = one (counter.Ask w) ∷ []
counted (AskFailed w f) = one (counter.FailedAsk w f) ∷ []
counted Foreign = one counter.ForeignDatagram ∷ []
counted Held = one counter.HeldQuery ∷ []
counted (Dropped n) = record { counter = counter.DroppedQuery; amount = n } ∷ []
counted MemoryRefused = one counter.RefusedMemory ∷ []
counted (SocketFailed f) = one (counter.FailedSocket f) ∷ []

-- Of what was added before, where it is known, these come behind.
abbrev pub Adds : Option (List Addition) → List Addition → Option (List Addition) → Type 0
Adds old more new = IfSome old (λ before. new ≡ Some (before ++ more))
