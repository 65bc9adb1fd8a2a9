-- A network of a world before its first event, and why there is none.
use Rattle.std.specs.Prelude.{◌≡◌, ℕ, List, codes}
use Rattle.rdata.specs.declared.addr.Addr.{Addr}
use Rattle.zone.specs.Zones.{Zone}
use Rattle.world_truth.specs.Worlds.{World, IsWorld}
use Rattle.worlds.specs.Kept.{addresses}
use Rattle.runs.specs.States.{Site, State}
use Rattle.laws.specs.Headline.{IsHomeIn}
use Rattle.engine.specs.declared.settings.Settings.{Settings}
use Rattle.engine.specs.Beginnings.{IsAllowed, IsMade}
use Rattle.network.specs.Networks.{Network}
use Rattle.network.specs.Laws.{IsFresh}
use Rattle.simnet.specs.declared.fault.SimError.{SimError}
use Rattle.simnet.specs.declared.fault.SimError.TheVariants.{Setting, Memory}

-- A resolver that is set so, holds the world's local zones and begins at all of the world's hints.
pub record IsResolverOf (W : World) (settings : Settings) (s : State) : Type 0 where
  pub local : List Zone
  pub hints : List Addr
  pub made : IsMade local hints settings s
  pub hinted : addresses hints ≡ W.hints
  pub home : IsHomeIn W (s.site).home

-- A network of that world and such a resolver, which has done nothing yet.
pub record IsNetworkOf (W : World) (settings : Settings) (s : Network) : Type 0 where
  pub resolver : IsResolverOf W settings s.resolver
  pub fresh : IsFresh W (s.resolver).site s

-- A network before its first event, whatever its world and settings.
pub record Begins (s : Network) : Type 0 where
  pub world : World
  pub site : Site
  pub well_formed : IsWorld world
  pub home : IsHomeIn world site.home
  pub fresh : IsFresh world site s

-- A setting out of its limits counts before running out of memory.
abbrev pub SimRefuses : SimError → Settings → Type 0
SimRefuses Setting settings = IsAllowed settings → ⊥
SimRefuses Memory settings = IsAllowed settings

abbrev pub sim_fault_number : SimError → ℕ
sim_fault_number Setting = 1
sim_fault_number Memory = 2

abbrev pub sim_fault_text : SimError → List ℕ
sim_fault_text Setting = codes "a setting is out of its limits"
sim_fault_text Memory = codes "out of memory"
