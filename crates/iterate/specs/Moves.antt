-- One move of a job at work: a rule, or the result that goes out where no rule applies.
use Rattle.std.specs.Prelude.{◌≡◌, ℕ, zero, suc, Bool, true, false, Some, List, [], ◌∷◌, ◌++◌}
use Rattle.dname.specs.Labels.{Name}
use Rattle.rdata.specs.Records.{Record}
use Rattle.rdata.specs.declared.addr.Addr.{Addr}
use Rattle.lru_laws.specs.Orders.{used}
use Rattle.retry.specs.Plans.{upcoming}
use Rattle.cache.specs.Failures.{same_failed}
use Rattle.frames.specs.Frames.{after_add, fresh_addresses}
use Rattle.resolution.specs.Jobs.{Home, Stores, level_of, Taken, AreFresh, IsDead, AreAddressesOf, Search, with_frame, ask_of, fails_now, Job, Next, Task, Point, point}
use Rattle.resolution.specs.Rules.{PassesOver, IsFree, Rule, Leaves}

-- The work goes on with a task, or something goes out.
pub data Move : Type 0 where
  Onward : Task → Move
  Out : Next → Move

abbrev pub IsMove : Home → ℕ → Point → Move → Job → Stores → Type 0
IsMove home now p (Onward task) job stores = Rule home now p (point task job stores)
IsMove home now p (Out next) job stores = Leaves home now p next job stores

-- A job with one search more, and with one as its only search.
abbrev pub with_search : Job → Search → Job
with_search j s = record j { searches = s ∷ j.searches }

-- A job with one search more, in which servers were passed over.
abbrev pub skipping : Job → Search → Job
skipping j s = record j { searches = s ∷ j.searches; skipped = true }

abbrev pub begun : Job → Search → Job
begun j s = record j { searches = s ∷ [] }

-- A search with the addresses of a set: those that are not known yet are asked next.
abbrev pub IsAdded : Stores → List Record → Search → Search → Type 0
IsAdded stores set before after =
    (found : List Addr) × AreAddressesOf set found × (after ≡ with_frame before (after_add (level_of stores) before.frame (fresh_addresses before.frame found)))

-- A job with one alias more, which leads to a name.
abbrev pub followed : Job → Taken → Name → Job
followed j l n = record j { chain = j.chain ++ l ∷ []; name = n }

-- A chain up to its first link that has expired, and that link.
pub record IsTakenFrom (now : ℕ) (old : List Taken) (d : Taken) (new : List Taken) : Type 0 where
  pub back : List Taken
  pub parts : old ≡ new ++ d ∷ back
  pub fresh : AreFresh now new
  pub dead : IsDead now d

-- The first link of the chain that has expired is sought again; true where there was one.
abbrev pub IsRestart : ℕ → Job → Job → Bool → Type 0
IsRestart now old new true = (d : Taken) × (front : List Taken) × IsTakenFrom now old.chain d front × (new ≡ record old { chain = front; name = d.name; searches = [] })
IsRestart now old new false = AreFresh now old.chain × (new ≡ old)

-- The address that comes next lately failed, and its failure is the most recently used; or it did not, and nothing
-- changed.
abbrev pub IsNextFailed : ℕ → Search → Stores → Stores → Bool → Type 0
IsNextFailed now s old new true =
    (server : Addr) × (upcoming (s.frame).plan ≡ Some server) × (fails_now now old.failures s server ≡ true)
    × (new ≡ record old { failures = used same_failed (ask_of s server) old.failures })
IsNextFailed now s old new false = IsFree now s old.failures × (new ≡ old)

-- The addresses that come next and lately failed were passed over; true where there was one.
abbrev pub has_some : ℕ → Bool
has_some zero = false
has_some (suc n) = true

-- Some of them were passed over, where memory ran out on the way.
pub record ArePassedInPart (now : ℕ) (before : Search) (old new : Stores) : Type 0 where
  pub count : ℕ
  pub after : Search
  pub passes : PassesOver now count before old.failures after new.failures
  pub stores : new ≡ record old { failures = new.failures }

pub record ArePassed (now : ℕ) (before : Search) (old : Stores) (after : Search) (new : Stores) (some : Bool) : Type 0 where
  pub count : ℕ
  pub passes : PassesOver now count before old.failures after new.failures
  pub free : IsFree now after new.failures
  pub stores : new ≡ record old { failures = new.failures }
  pub is_some : some ≡ has_some count
