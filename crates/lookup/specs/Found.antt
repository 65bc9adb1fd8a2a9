-- The result of a look-up without a query to a server.
use Rattle.std.specs.Prelude.{◌≡◌, ℕ, Option, Some, None}
use Rattle.dname.specs.Labels.{Name, IsName, root}
use Rattle.zone.specs.Zones.{IsBeneath}
use Rattle.zone.specs.Look as local
use Rattle.referral.specs.Cuts.{Cut, IsBest}
use Rattle.cache.specs.Cached.{Hit, asked_to, lent, hit_of, IsHeld}
use Rattle.resolution.specs.Jobs.{Home, Stores, Taken, kept_link}
use Rattle.resolution.specs.Rules.{Finds, Misses, Begins}
use Rattle.lookup.specs.Views.{after_look, after_best}
use Rattle.lookup.specs.declared.lookup.Found.{Found}
use Rattle.lookup.specs.declared.lookup.Found.TheVariants as found
use Rattle.lookup.specs.declared.lookup.Kept.{Kept}
use Rattle.lookup.specs.declared.lookup.Kept.TheVariants as kept

-- The result: a link, or the cut where servers are sought.
abbrev pub IsFound : {A : Type 0} → Home → ℕ → Name → ℕ → Stores → Found A → Stores → Type 0
IsFound home now n t old (found.Known l) new = Finds home now n t old l new
IsFound home now n t old (found.Start c) new = Misses home now n t old c new

-- The result of the cache and the delegations, where an NXDOMAIN of a name above counts up to `top`: a link of the
-- cache, or else the deepest cut.
pub record IsHit (top : Name) (now : ℕ) (n : Name) (t : ℕ) (old : Stores) (l : Taken) (new : Stores) : Type 0 where
  pub hit : Hit
  pub found : hit_of (lent (asked_to top n t) now old.cache) ≡ Some hit
  pub held : IsHeld (asked_to top n t) now old.cache hit
  pub link : l ≡ kept_link n hit
  pub stores : new ≡ after_look old (asked_to top n t) now

pub record IsMiss (top : Name) (now : ℕ) (n : Name) (t : ℕ) (old : Stores) (best : Option Cut) (new : Stores) : Type 0 where
  pub name : IsName n
  pub miss : hit_of (lent (asked_to top n t) now old.cache) ≡ None
  pub is_best : IsBest n now old.delegations best
  pub stores : new ≡ after_best old n now

abbrev pub IsKept : {A : Type 0} → Name → ℕ → Name → ℕ → Stores → Kept A → Stores → Type 0
IsKept top now n t old (kept.Hit l) new = IsHit top now n t old l new
IsKept top now n t old (kept.Best best) new = IsMiss top now n t old best new

-- The deepest cached cut, and nothing where it is not beneath the one that the local zones name.
abbrev pub IsDeeper : Name → Option Cut → Option Cut → Type 0
IsDeeper at None deeper = deeper ≡ None
IsDeeper at (Some k) None = IsBeneath k.owner at → ⊥
IsDeeper at (Some k) (Some c) = IsBeneath k.owner at × (c ≡ k)

-- The result where no local zone answers: the link of the cache, or the cut where servers are sought first.
abbrev pub IsBegun : {A : Type 0} → Home → Name → local.Local → Kept A → Found A → Type 0
IsBegun home n what (kept.Hit l) (found.Known k) = k ≡ l
IsBegun home n what (kept.Hit l) (found.Start c) = ⊥
IsBegun home n what (kept.Best best) (found.Known k) = ⊥
IsBegun home n what (kept.Best best) (found.Start c) = Begins home n what best c

-- The cut where servers are sought first, where no local zone is over the name: by the deepest one that is cached.
pub record IsStart {A : Type 0} (home : Home) (now : ℕ) (n : Name) (old new : Stores) (f : Found A) : Type 0 where
  pub best : Option Cut
  pub is_best : IsBest n now old.delegations best
  pub begun : IsBegun home n local.NotHere (kept.Best best) f
  pub stores : new ≡ after_best old n now

-- The result where no local zone is over the name: of the cache and the delegations, where an NXDOMAIN of any name above
-- counts.
pub record IsBeyond {A : Type 0} (home : Home) (now : ℕ) (n : Name) (t : ℕ) (old : Stores) (f : Found A) (new : Stores) : Type 0 where
  pub known : Kept A
  pub is_known : IsKept root now n t old known new
  pub begun : IsBegun home n local.NotHere known f
