-- The resolver that a server's file describes.
use Rattle.std.specs.Prelude.{◌≡◌, ℕ, List, map}
use Rattle.rdata.specs.declared.addr.Addr.{Addr}
use Rattle.zone.specs.Zones.{Zone}
use Rattle.config.specs.Configs.{Config}
use Rattle.runs.specs.States.{State}
use Rattle.engine.specs.declared.settings.Settings.{Settings}
use Rattle.engine.specs.Beginnings.{IsMade}

-- What the file sets, with a seed.
abbrev pub settings_in : Config → List ℕ → Settings
settings_in c seed = record {
  cache = c.cache;
  delegations = c.delegations;
  penalties = c.penalties;
  failures = c.failures;
  sockets = c.sockets;
  port = c.port;
  seed = seed;
}

-- It has done nothing yet, with these zones and with the hints and the settings of the file.
pub record IsDescribed (c : Config) (zones : List Zone) (seed : List ℕ) (made : State) : Type 0 where
  pub hints : List Addr
  pub hinted : map (λ (a : Addr). a.0) hints ≡ c.hints
  pub is : IsMade zones hints (settings_in c seed) made
