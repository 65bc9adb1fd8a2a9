-- Why zones, servers, hints and local names are no world: the rules of a world by name, the refusals'
-- numbers, and the refusal that answers.
use Rattle.std.specs.Prelude.{◌≡◌, ℕ, ◌⊎◌, List, codes, Contains}
use Rattle.dname.specs.Labels.{Name, root}
use Rattle.zone.specs.Zones.{Zone, IsCut}
use Rattle.world_truth.specs.Worlds.{Address, World, Serves, IsOrigin, IsParent, IsServerName, IsAddressOf, HaveOwnOrigins}
use Rattle.worlds.specs.declared.fault.WorldError.{WorldError}
use Rattle.worlds.specs.declared.fault.WorldError.TheVariants.{NoRoot, LooseCut, Undelegated, Lame, NoStart, Memory, Twins}

-- The rules of `IsWorld` that a refusal stands for. What a zone cuts off is a zone (RFC 1034, section 4.2).
abbrev pub HasCutZones : World → Type 0
HasCutZones W = (z : Zone) (c : Name) → Contains W.zones z → IsCut z c → IsOrigin W c

-- Each zone is the root's or local, or the zone right above delegates it (RFC 1034, section 4.2.1).
abbrev pub IsDelegated : World → Type 0
IsDelegated W = (z : Zone) → Contains W.zones z → (z.origin ≡ root) ⊎ Contains W.locals z.origin ⊎ ((p : Zone) × IsParent W z.origin p × IsCut p z.origin)

-- The servers of a cut serve it, at each of their addresses, and servers serve zones that there are
-- (RFC 1034, section 4.2.2).
pub record IsServed (W : World) : Type 0 where
  pub servers : (c n : Name) (a : Address) → IsServerName W c n → IsAddressOf W n a → Serves W a c
  pub hosts : (a : Address) (o : Name) → Serves W a o → IsOrigin W o

-- Each hint serves the root, and there is one unless the root is local (RFC 1034, section 5.3.2).
pub record IsStarted (W : World) : Type 0 where
  pub hints : (a : Address) → Contains W.hints a → Serves W a root
  pub start : Contains W.locals root ⊎ ((a : Address) × Contains W.hints a)

abbrev pub world_fault_number : WorldError → ℕ
world_fault_number NoRoot = 1
world_fault_number LooseCut = 2
world_fault_number Undelegated = 3
world_fault_number Lame = 4
world_fault_number NoStart = 5
world_fault_number Memory = 6
world_fault_number Twins = 7

abbrev pub world_fault_text : WorldError → List ℕ
world_fault_text NoRoot = codes "no zone at the root"
world_fault_text LooseCut = codes "a cut without a zone"
world_fault_text Undelegated = codes "a zone that the zone above does not delegate"
world_fault_text Lame = codes "a server without its zone"
world_fault_text NoStart = codes "no hint that serves the root"
world_fault_text Memory = codes "out of memory"
world_fault_text Twins = codes "two zones have one origin"

-- A refusal's rule is broken, and those before it hold, in the order 7, 1, 2, 3, 4, 5; running out of memory can
-- come at any time.
abbrev pub IsWorldRefused : World → WorldError → Type 0
IsWorldRefused W Twins = HaveOwnOrigins W.zones → ⊥
IsWorldRefused W NoRoot = HaveOwnOrigins W.zones × (IsOrigin W root → ⊥)
IsWorldRefused W LooseCut = HaveOwnOrigins W.zones × IsOrigin W root × (HasCutZones W → ⊥)
IsWorldRefused W Undelegated = HaveOwnOrigins W.zones × IsOrigin W root × HasCutZones W × (IsDelegated W → ⊥)
IsWorldRefused W Lame = HaveOwnOrigins W.zones × IsOrigin W root × HasCutZones W × IsDelegated W × (IsServed W → ⊥)
IsWorldRefused W NoStart = HaveOwnOrigins W.zones × IsOrigin W root × HasCutZones W × IsDelegated W × IsServed W × (IsStarted W → ⊥)
IsWorldRefused W Memory = Unit {0}
