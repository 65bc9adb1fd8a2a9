-- The laws that the functions of this crate state.
use Rattle.std.specs.Prelude.{◌≡◌, ℕ, ◌+◌, ◌*◌, ◌≤◌, false, length}
use Rattle.dname.specs.Labels.{Name}
use Rattle.zone.specs.Links.{Link}
use Rattle.resolution.specs.Jobs.{Home, Stores, is_dead, received_link, Job, Input, Next, Point}
use Rattle.resolution.specs.Rules.{Rules, Enters, Advances, BringsOnly}
use Rattle.resolution.specs.Stops.{Stops}

-- Whatever the input, only so many rules can follow: with eight aliases and four searches 488.
abbrev pub RulesEnd : Type 0
RulesEnd = (home : Home) (now : ℕ) (input : Input) (j : Job) (stores : Stores) (first : Point) (n : ℕ) (last : Point)
    → Enters now input j stores first → Rules home now n first last → n ≤ 320 + 20 * length j.chain + 2 * length j.searches

-- A link that was accepted for a query serves that query, whatever its TTL.
abbrev pub ReceivedServes : Type 0
ReceivedServes = (n : Name) (l : Link) (since now : ℕ) → is_dead now (received_link n l since) ≡ false

-- The stores after a whole call are among those that may stand where memory ran out on the way.
abbrev pub AdvancesStop : Type 0
AdvancesStop = (home : Home) (now : ℕ) (input : Input) (old : Job) (stores : Stores) (next : Next) (new : Job) (after : Stores) → Advances home now input old stores next new after
    → Stops home now input old stores after

-- Where memory ran out, nothing is new in the stores beside what was accepted, and nothing is gone beside what one keep
-- of that pushes out.
abbrev pub StopsBringOnly : Type 0
StopsBringOnly = (home : Home) (now : ℕ) (input : Input) (old : Job) (stores after : Stores) → Stops home now input old stores after → BringsOnly input now old stores after
