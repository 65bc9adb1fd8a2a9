-- The settings that a resolver may have, and its first state.
use Rattle.std.specs.Prelude.{◌≡◌, ℕ, ◌≤◌, true, false, List, [], codes}
use Rattle.limits.specs.Limits.{max_sockets}
use Rattle.rdata.specs.declared.addr.Addr.{Addr}
use Rattle.zone.specs.Zones.{Zone}
use Rattle.authority.specs.Catalogs.{has_twins}
use Rattle.authority.specs.declared.catalog.CatalogError.{CatalogError}
use Rattle.authority.specs.declared.catalog.CatalogError.TheVariants as catalog
use Rattle.rand_chacha.specs.ChaCha.{of_seed}
use Rattle.lookup.specs.Views.{home_at, no_stores}
use Rattle.runs.specs.States.{State}
use Rattle.engine.specs.declared.settings.Settings.{Settings}
use Rattle.engine.specs.declared.settings.CoreError.{CoreError}
use Rattle.engine.specs.declared.settings.CoreError.TheVariants.{Setting, Twins, Memory}

-- A store has room for 1 to 1,000,000 entries, and there are 1 to 16 sockets.
abbrev pub IsRoom : ℕ → Type 0
IsRoom n = (1 ≤ n) × (n ≤ 1000000)

pub record IsAllowed (s : Settings) : Type 0 where
  pub cache : IsRoom s.cache
  pub delegations : IsRoom s.delegations
  pub penalties : IsRoom s.penalties
  pub failures : IsRoom s.failures
  pub some_sockets : 1 ≤ s.sockets
  pub few_sockets : s.sockets ≤ max_sockets

-- A resolver with these zones, hints and settings that has done nothing yet.
abbrev pub first_state : List Zone → List Addr → Settings → State
first_state zones hints s = record {
  site = record { home = home_at zones hints; port = s.port; sockets = s.sockets };
  clock = 0;
  stores = no_stores s.cache s.delegations s.penalties s.failures;
  queries = [];
  opened = 0;
  tcp_asks = 0;
  generator = of_seed s.seed;
}

-- When a resolver may be refused so: for a setting, then for two zones of one origin; out of memory at any time.
abbrev pub CoreRefuses : CoreError → Settings → List Zone → Type 0
CoreRefuses Setting s zones = IsAllowed s → ⊥
CoreRefuses Twins s zones = IsAllowed s × (has_twins zones ≡ true)
CoreRefuses Memory s zones = IsAllowed s

pub record IsMade (zones : List Zone) (hints : List Addr) (s : Settings) (made : State) : Type 0 where
  pub allowed : IsAllowed s
  pub apart : has_twins zones ≡ false
  pub is : made ≡ first_state zones hints s

-- A resolver of some zones, hints and settings that has done nothing yet.
pub record IsBegun (made : State) : Type 0 where
  pub zones : List Zone
  pub hints : List Addr
  pub settings : Settings
  pub is : IsMade zones hints settings made

abbrev pub core_fault_number : CoreError → ℕ
core_fault_number Setting = 1
core_fault_number Twins = 2
core_fault_number Memory = 3

abbrev pub core_fault_text : CoreError → List ℕ
core_fault_text Setting = codes "a setting is out of its limits"
core_fault_text Twins = codes "two zones have one origin"
core_fault_text Memory = codes "out of memory"

abbrev pub core_fault : CatalogError → CoreError
core_fault catalog.Twins = Twins
core_fault catalog.Memory = Memory
