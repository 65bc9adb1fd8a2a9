-- A query that comes, and is opened or over.
use Rattle.std.proofs.Common.{ℕ, ◌+◌, ◌<◌, ◌≤◌, length, List, refl, ap, arith}
use Rattle.resolution.specs.Jobs.{Stores, Job, Next, AskUdp, AskTcp, Done, Fail}
use Rattle.causes.specs.declared.cause.Cause.TheVariants as cause
use Rattle.front.specs.declared.queries.Outcome.TheVariants as outcome
use Rattle.runs.specs.States.{Action, ClientQuery, State, Own, OpenQuery}
use Rattle.runs.specs.Steps.{most_open, IsAsk, Comes, Ends, at_once, crowded, admitted}
use Rattle.open_queries.specs.Lookups.{HasNo}
use Rattle.engine.specs.ResolverStates.{IsSound}
use Rattle.engine.specs.Moves.{Opens}

pub next_is_fresh : (s : State) → IsSound s → HasNo s.queries s.opened
next_is_fresh s sound = λ q there same. let below : q.number < s.opened = sound.opened q there in omega arith

-- Once it is open, one more is opened.
pub raise : (s : State) (who : ClientQuery) (k : ℕ) (job : Job) (stores : Stores) (out : List Action) (mid : State) (next : Next) → IsAsk next → Comes s who k s.opened next job stores out mid
    → Comes s who k (s.opened + 1) next job stores out (record mid { opened = s.opened + 1 })
raise s who k job stores out mid (AskUdp server n t) asks h = record {
  ask = h.ask;
  for = h.for;
  goes = h.goes;
  waits = record { action = h.waits.action; sent = h.waits.sent; out_is = h.waits.out_is; queries = h.waits.queries; state = ap (λ (z : State). record z { opened = s.opened + 1 }) h.waits.state };
}
raise s who k job stores out mid (AskTcp server n t) asks h = record {
  ask = h.ask;
  for = h.for;
  goes = h.goes;
  waits = record { action = h.waits.action; sent = h.waits.sent; out_is = h.waits.out_is; queries = h.waits.queries; state = ap (λ (z : State). record z { opened = s.opened + 1 }) h.waits.state };
}
raise s who k job stores out mid (Done chain last) asks h = absurd asks
raise s who k job stores out mid (Fail c) asks h = absurd asks

pub opens_at_once : (s : State) (who : ClientQuery) (next : Next) (job : Job) (out : List Action) (new : State) → (IsAsk next → ⊥) → Comes s who s.opened s.opened next job s.stores out new → Opens s who next job out new
opens_at_once s who next job out new over comes = record { served = Own; opened = at_once refl over comes }

pub opens_not : (s : State) (who : ClientQuery) (next : Next) (job : Job) (out : List Action) (new : State) → IsAsk next → most_open ≤ length s.queries → Ends s who s.opened (outcome.Fail cause.TooManyOpen) s.stores out new
    → Opens s who next job out new
opens_not s who next job out new asks full ends = record { served = Own; opened = crowded refl asks full ends }

pub opens_new : (s : State) (who : ClientQuery) (next : Next) (job : Job) (out : List Action) (new : State) → IsAsk next → length s.queries < most_open → Comes s who s.opened (s.opened + 1) next job s.stores out new
    → Opens s who next job out new
opens_new s who next job out new asks room comes = record { served = OpenQuery s.opened; opened = admitted refl asks room comes }
