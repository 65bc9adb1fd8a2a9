-- The link of a name that is no alias, used at once.
use Rattle.std.specs.Prelude.{◌≡◌, ℕ, Result, Ok, Err, Some}
use Rattle.dname.specs.Labels.{Name}
use Rattle.rdata.specs.Records.{Record}
use Rattle.zone.specs.Links.{Alias}
use Rattle.cache.specs.Cached.{Hit, asked_to, lent, hit_of, IsHeld}
use Rattle.resolution.specs.Jobs.{Home, Stores, Taken, IsEnding}
use Rattle.resolution.specs.Rules.{Finds}
use Rattle.resolution.specs.Held.{Holds}
use Rattle.lookup.specs.Views.{after_look}

-- The cache has this answer, which is no alias, where an NXDOMAIN of a name above counts up to `top`, and it was looked up.
pub record IsUsed (top : Name) (now : ℕ) (n : Name) (t : ℕ) (old : Stores) (h : Hit) (new : Stores) : Type 0 where
  pub found : hit_of (lent (asked_to top n t) now old.cache) ≡ Some h
  pub held : IsHeld (asked_to top n t) now old.cache h
  pub ends : (r : Record) → h.link ≡ Alias r → ⊥
  pub stores : new ≡ after_look old (asked_to top n t) now

-- The link is found for the name, and ends a chain. It was held before.
pub record IsFoundEnd (home : Home) (now : ℕ) (n : Name) (t : ℕ) (old : Stores) (l : Taken) (new : Stores) : Type 0 where
  pub finds : Finds home now n t old l new
  pub ends : IsEnding l.link
  pub held : Holds home now t old.cache n l

-- This holds of the link that is given, or of one that could not be for want of memory.
abbrev pub IfGiven : {E : Type 0} → (Taken → Type 0) → Result Taken E → Type 0
IfGiven P (Ok l) = P l
IfGiven P (Err e) = (l : Taken) × P l
