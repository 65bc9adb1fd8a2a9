-- Which kind of thing a counter counts, for the laws.
use Rattle.std.specs.Prelude.{ℕ, Bool, true, false, List, nat_eq}
use Rattle.std.specs.List.{count_by}
use Rattle.counters.specs.declared.counter.Counter.{Counter}
use Rattle.counters.specs.declared.counter.Counter.TheVariants as counter
use Rattle.counters.specs.declared.labels.Rcode.{Rcode}
use Rattle.counters.specs.declared.labels.Rcode.TheVariants as rcode
use Rattle.counters.specs.Outcomes.{Addition}

abbrev pub is_answer : Rcode → Bool
is_answer rcode.NoError = true
is_answer rcode.NxDomain = true
is_answer rcode.FormErr = false
is_answer rcode.ServFail = false
is_answer rcode.NotImp = false
is_answer rcode.Refused = false
is_answer rcode.Other = false

abbrev pub bit : Bool → ℕ
bit true = 1
bit false = 0

-- 1 an RCODE, 2 a source, 3 a cause, 4 a cut reply, 5 a time, 6 the sum of times, 0 all that no reply adds to.
abbrev pub kind_number : Counter → ℕ
kind_number (counter.Query w t) = 0
kind_number (counter.Reply r) = 1
kind_number counter.Truncated = 4
kind_number (counter.Failure c) = 3
kind_number (counter.Answer s) = 2
kind_number (counter.Ask w) = 0
kind_number (counter.FailedAsk w f) = 0
kind_number counter.ForeignDatagram = 0
kind_number counter.HeldQuery = 0
kind_number counter.DroppedQuery = 0
kind_number counter.RefusedMemory = 0
kind_number (counter.FailedSocket f) = 0
kind_number (counter.Waited b) = 5
kind_number counter.WaitedMillis = 6

-- How many additions are to a counter of this kind.
abbrev pub times : ℕ → List Addition → ℕ
times kind added = count_by (λ (a : Addition). nat_eq (kind_number a.counter) kind) added
