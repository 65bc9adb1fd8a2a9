-- Whether the answer to a question is at hand.
use Rattle.std.specs.Prelude.{◌≡◌, ℕ, ◌≤◌, Option, Some, List, length, option_map}
use Rattle.dname.specs.Labels.{Name}
use Rattle.rdata.specs.Records.{Record}
use Rattle.zone.specs.Links.{Alias}
use Rattle.zone.specs.Look.{Local, Linked, Cut, NotHere}
use Rattle.front.specs.Chains.{alias_target}
use Rattle.cache.specs.Keys.{Key}
use Rattle.cache.specs.Cached.{Hit, lent, hit_of}
use Rattle.resolution.specs.Jobs.{Home, Taken, local_link, kept_link, IsEnding}
use Rattle.resolution.specs.Rules.{asked_by}
use Rattle.resolution.specs.Held.{IsHeldChain}

-- At most so many aliases lead from a name to an end, and all of these links are held.
pub record IsAtHand (home : Home) (now t : ℕ) (es : List (Key × Hit)) (n : Name) (most : ℕ) : Type 0 where
  pub aliases : List Taken
  pub last : Taken
  pub few : length aliases ≤ most
  pub held : IsHeldChain home now t es n aliases last

-- The link of a name, by what the local zones say of it: theirs, or else the cache's answer to what they leave open.
abbrev pub given_by : Local → ℕ → Name → ℕ → List (Key × Hit) → Option Taken
given_by (Linked l) now n t es = Some (local_link n l)
given_by (Cut at ns glue) now n t es = option_map (kept_link n) (hit_of (lent (asked_by (Cut at ns glue) n t) now es))
given_by NotHere now n t es = option_map (kept_link n) (hit_of (lent (asked_by NotHere n t) now es))

-- There is no link, or one that is an end.
abbrev pub EndsIn : Option Taken → Type 0
EndsIn o = (l : Taken) → o ≡ Some l → IsEnding l.link

-- The link is an alias of that name.
pub record LeadsTo (o : Option Taken) (n : Name) : Type 0 where
  pub link : Taken
  pub alias : Record
  pub is : o ≡ Some link
  pub is_alias : link.link ≡ Alias alias
  pub target : n ≡ alias_target alias
