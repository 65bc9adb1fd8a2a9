-- What is true of a question in a world: the link of the zone in charge of its name, and the chain of
-- aliases that leads to its end (RFC 1034, sections 3.6.2 and 4.3.2).
use Rattle.std.specs.Prelude.{◌≡◌, ℕ, ◌≤◌, List, [], ◌∷◌, length}
use Rattle.dname.specs.Labels.{Name}
use Rattle.rdata.specs.Data.{Cname}
use Rattle.rdata.specs.Records.{Record}
use Rattle.zone.specs.Zones.{Zone}
use Rattle.zone.specs.Links.{Link, Found, Alias, NoData, NxDomain, IsLink}
use Rattle.zone.specs.Same.{Same, SameLink}
use Rattle.authority.specs.Catalogs.{IsInCharge}
use Rattle.world_truth.specs.Worlds.{World}

-- The zone's link of a question, but for TTLs, order and repeats.
abbrev pub Shows : Zone → Name → ℕ → Link → Type 0
Shows z q t l = (k : Link) × IsLink z q t k × SameLink l k

-- The world's link of a question: that of the zone in charge of its name.
abbrev pub IsTrueLink : World → Name → ℕ → Link → Type 0
IsTrueLink W q t l = (z : Zone) × IsInCharge W.zones q z × Shows z q t l

-- A link that is no alias. Where CNAME is asked for, an alias is found as such, and so ends the chain.
abbrev pub IsEnd : Link → Type 0
IsEnd (Found set) = Unit {0}
IsEnd (Alias r) = ⊥
IsEnd (NoData soa) = Unit {0}
IsEnd (NxDomain soa) = Unit {0}

-- These aliases of the world lead from a name to another, each at the target of the one before.
abbrev pub ChainLeads : World → ℕ → Name → List Record → Name → Type 0
ChainLeads W t from [] to = to ≡ from
ChainLeads W t from (r ∷ rs) to = IsTrueLink W from t (Alias r) × ((n : Name) × (r.value ≡ Cname n) × ChainLeads W t n rs to)

-- The truth of a question: at most eight aliases, and then a link that is none. A longer chain has no truth.
pub record Truth (W : World) (q : Name) (t : ℕ) (chain : List Record) (last : Link) : Type 0 where
  pub to : Name
  pub leads : ChainLeads W t q chain to
  pub few : length chain ≤ 8
  pub link : IsTrueLink W to t last
  pub ends : IsEnd last

-- The same records one by one, TTLs aside.
abbrev pub SameList : List Record → List Record → Type 0
SameList [] [] = Unit {0}
SameList [] (s ∷ ss) = ⊥
SameList (r ∷ rs) [] = ⊥
SameList (r ∷ rs) (s ∷ ss) = Same r s × SameList rs ss
