-- The stores where memory runs out in the work on a query: an input was used in part, or it was used and some rules
-- came, and part of one more.
use Rattle.std.specs.Prelude.{◌≡◌, ℕ, ◌⊎◌, Option, Some, None, List, ◌∷◌}
use Rattle.dname.specs.Labels.{Name}
use Rattle.rdata.specs.declared.addr.Addr.{Addr}
use Rattle.zone.specs.Zones.{a_type}
use Rattle.zone.specs.Links.{Link}
use Rattle.message_grammar.specs.Messages.{Message}
use Rattle.wire.specs.declared.via.Via.{Via}
use Rattle.classify.specs.Classes as class
use Rattle.classify.specs.Classes.{class_of}
use Rattle.referral.specs.Cuts.{after_best}
use Rattle.cache.specs.Keys.{Key}
use Rattle.cache.specs.Cached.{Hit, Question, lent, moved}
use Rattle.cache.specs.Failures.{FailedAsk}
use Rattle.resolution.specs.Jobs.{Home, Stores, with_answer, with_told, Search, Job, Input, Start, Told, TimedOut, TcpFailed, Seek, Go, Point}
use Rattle.resolution.specs.Rules.{IsRemote, asked_of, IsTurnOf, PassesOver, Rules, KeepsAnswer, Enters}

-- ---- part of an input

-- What was written of a message for a search: its server answered, and failed where the message says so; and then the
-- whole link that is its answer, or none of it.
abbrev pub IsToldInPart : ℕ → Search → Via → Addr → Message → Stores → Stores → Type 0
IsToldInPart now s via server m stores after =
    (after ≡ with_told now s server m stores)
    ⊎ ((l : Link) × (class_of (s.frame).zone s.name s.kind via m ≡ class.Answer l) × KeepsAnswer now s l (with_told now s server m stores) after)

-- The penalty of a server that answered is halved, whatever comes then. Of an input that is no message nothing was
-- written.
abbrev pub EntersInPart : ℕ → Input → Job → Stores → Stores → Type 0
EntersInPart now Start j stores after = after ≡ stores
EntersInPart now (Told via server m) j stores after =
    (after ≡ with_answer stores server)
    ⊎ ((s : Search) × (rest : List Search) × (j.searches ≡ s ∷ rest) × IsToldInPart now s via server m stores after)
EntersInPart now (TimedOut server) j stores after = after ≡ stores
EntersInPart now (TcpFailed server) j stores after = after ≡ stores

-- ---- part of a rule

-- The stores after a question that is looked up without asking: the entry of the cache that answers it goes first;
-- where none does, the deepest delegation over its name.
abbrev pub looked_up_by : Option (Key × Hit) → Name → ℕ → Stores → Stores
looked_up_by (Some found) n now stores = record stores { cache = moved (Some found) stores.cache }
looked_up_by None n now stores = record stores { delegations = after_best n now stores.delegations }

abbrev pub after_look_up : Question → ℕ → Stores → Stores
after_look_up a now stores = looked_up_by (lent a now stores.cache) a.name now stores

-- A remote question was looked up, or it was not.
abbrev pub LooksInPart : Home → ℕ → Name → ℕ → Stores → Stores → Type 0
LooksInPart home now n t stores after = (after ≡ stores) ⊎ (IsRemote home n t × (after ≡ after_look_up (asked_of home n t) now stores))

-- The task looks up this name and type: the query's own, or those of a server's name that has its turn.
abbrev pub IsSoughtAt : Point → Name → ℕ → Type 0
IsSoughtAt p n t =
    ((p.task ≡ Seek) × (n ≡ (p.job).name) × (t ≡ (p.job).kind))
    ⊎ ((p.task ≡ Go) × (t ≡ a_type) × ((s : Search) × (rest : List Search) × IsTurnOf p.job s rest n))

pub data IsPart (home : Home) (now : ℕ) (p : Point) (after : Stores) : Type 0 where
  -- No entry was used.
  untouched : after ≡ p.stores → IsPart home now p after
  -- The name was looked up, and what was found could not be used.
  looked : (n : Name) (t : ℕ) → IsSoughtAt p n t → IsRemote home n t → after ≡ after_look_up (asked_of home n t) now p.stores → IsPart home now p after
  -- Some addresses that failed lately were passed over.
  passed : (n : ℕ) (s t : Search) (rest : List Search) (failures : List (FailedAsk × ℕ)) → p.task ≡ Go → (p.job).searches ≡ s ∷ rest
      → PassesOver now n s (p.stores).failures t failures → after ≡ record p.stores { failures = failures } → IsPart home now p after

-- ---- one call

-- The stores where memory ran out in the work on one input.
pub data Stops (home : Home) (now : ℕ) (input : Input) (old : Job) (stores after : Stores) : Type 0 where
  -- While the input was used.
  in_input : EntersInPart now input old stores after → Stops home now input old stores after
  -- After the input and so many rules, in the next one.
  in_rule : (first last : Point) (count : ℕ) → Enters now input old stores first → Rules home now count first last → IsPart home now last after → Stops home now input old stores after
