-- What workers do in one network.
use Rattle.std.specs.Prelude.{◌≡◌, ℕ, ◌+◌, zero, suc, Option, Some, None, Result, Ok, Err, List, [], ◌∷◌, map, reverse, length, flat_map}
use Rattle.memory.specs.declared.Starved.{Starved}
use Rattle.book.specs.Histories.{Line}
use Rattle.network.specs.Networks.{NetworkAction, Reply, WasSent, WasAsked, MoreDue, Network}
use Rattle.network.specs.Laws.{Line as LineSpec, Throughout, RepliesAreRight}
use Rattle.simnet.specs.declared.event.SimEvent.{SimEvent}
use Rattle.simnet.specs.Promises.{Moves}
use Rattle.simnet.specs.Views.{sim_event_view}
use Rattle.workers.specs.Runs.{HaveRun}
use Rattle.storm.specs.FollowUps.{asked, follow_ups_of}
use Rattle.storm.specs.declared.query.StormQuery.{StormQuery}

-- An event by a worker, and what came out.
abbrev pub Entry : Type 0 → Type 0
Entry A = Line (SimEvent A) (List NetworkAction)

-- h, the oldest entry first, is one legal history of a network that began as `start`. Each worker's entries
-- in it are those that the worker kept: its queries in their order, each followed by the replies to all asks
-- that come of it, that of the oldest ask first.
abbrev pub IsRunOf : {A : Type 0} → Network → List (List (StormQuery A)) → List (Entry A) → List (List (Entry A)) → Type 0
IsRunOf start queries h lists = HaveRun Moves (λ s. s ≡ start) asked follow_ups_of queries h lists

-- What came out, if memory was not wanting.
abbrev pub out_of : Result (List NetworkAction) Starved → Option (List NetworkAction)
out_of (Ok out) = Some out
out_of (Err starved) = None

-- An entry as a line of a network's history.
abbrev pub seen : {A : Type 0} → Entry A → LineSpec
seen e = record { event = sim_event_view e.event; out = out_of e.out }

-- Every reply in it is right.
abbrev pub AreRight : {A : Type 0} → Network → List (Entry A) → Type 0
AreRight start h = Throughout (RepliesAreRight start.world) (map seen (reverse h))

-- The numbers of the asks that go out.
abbrev pub asks_in : List NetworkAction → List ℕ
asks_in [] = []
asks_in (Reply client way bytes cause ∷ out) = asks_in out
asks_in (WasSent k ∷ out) = k ∷ asks_in out
asks_in (WasAsked k ∷ out) = k ∷ asks_in out
asks_in (MoreDue ∷ out) = asks_in out

abbrev pub asks_of : Option (List NetworkAction) → List ℕ
asks_of (Some out) = asks_in out
asks_of None = []

-- So many numbers from that one on.
abbrev pub numbers : ℕ → ℕ → List ℕ
numbers from zero = []
numbers from (suc n) = from ∷ numbers (from + 1) n

abbrev pub asks_shown : {A : Type 0} → List (Entry A) → List ℕ
asks_shown h = flat_map (λ e. asks_of (out_of e.out)) h

-- The asks have the numbers from 1 on, in their order: an older one has a lower number.
abbrev pub AreNumbered : {A : Type 0} → List (Entry A) → Type 0
AreNumbered h = asks_shown h ≡ numbers 1 (length (asks_shown h))
