-- Links that are held: each stands in the local zones or in the cache (RFC 1034, section 5.3.3, step 1).
use Rattle.std.specs.Prelude.{◌≡◌, ℕ, ◌⊎◌, Some, List, [], ◌∷◌}
use Rattle.dname.specs.Labels.{Name}
use Rattle.rdata.specs.Records.{Record}
use Rattle.zone.specs.Links.{Link, Alias}
use Rattle.zone.specs.Look.{Linked}
use Rattle.front.specs.Chains.{alias_target}
use Rattle.cache.specs.Keys.{Key}
use Rattle.cache.specs.Cached.{Hit, lent, hit_of}
use Rattle.resolution.specs.Jobs.{Home, Taken, local_link, kept_link, IsEnding}
use Rattle.resolution.specs.Rules.{Says, IsRemote, asked_of}

-- The link of a name without a query to a server: that of the local zones; where they have none, the cache's answer.
abbrev pub Holds : Home → ℕ → ℕ → List (Key × Hit) → Name → Taken → Type 0
Holds home now t es n l =
    ((link : Link) × Says home n t (Linked link) × (l ≡ local_link n link))
    ⊎ (IsRemote home n t × ((h : Hit) × (hit_of (lent (asked_of home n t) now es) ≡ Some h) × (l ≡ kept_link n h)))

-- The aliases from a name on, each the target of the one before, and the end behind them, all of local zones and cache.
abbrev pub IsHeldChain : Home → ℕ → ℕ → List (Key × Hit) → Name → List Taken → Taken → Type 0
IsHeldChain home now t es n [] last = Holds home now t es n last × IsEnding last.link
IsHeldChain home now t es n (l ∷ ls) last = Holds home now t es n l × ((r : Record) × (l.link ≡ Alias r) × IsHeldChain home now t es (alias_target r) ls last)
