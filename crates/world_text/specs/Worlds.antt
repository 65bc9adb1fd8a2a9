-- The world that a text says, and why a text says none.
use Rattle.std.specs.Prelude.{◌≡◌, ℕ, Ok, Err, List}
use Rattle.zone.specs.Zones.{Zone as ZoneSpec}
use Rattle.world_truth.specs.Worlds.{World as WorldSpec, IsWorld}
use Rattle.worlds.specs.Refusals.{IsWorldRefused}
use Rattle.worlds.specs.declared.fault.WorldError.{WorldError}
use Rattle.world_text.specs.declared.world_fault.WorldFault.{WorldFault}
use Rattle.world_text.specs.declared.world_fault.WorldFault.TheVariants.{Line, File, Zone, World, Memory}
use Rattle.world_text.specs.WorldTexts.{zones_of, locals_of}
use Rattle.world_text.specs.Readings.{Said, said_in}

abbrev pub said_world : Said → List ZoneSpec → WorldSpec
said_world s zones = record { zones = zones; hosts = s.hosts; locals = locals_of s.blocks; hints = s.hints }

-- What is said is this world.
pub record IsSaidWorld (s : Said) (W : WorldSpec) : Type 0 where
  pub zones : zones_of s.blocks ≡ Ok W.zones
  pub is : W ≡ said_world s W.zones
  pub well_formed : IsWorld W

-- The blocks are zones, and with the servers and hints they break that rule of a world.
pub record BreaksRule (s : Said) (e : WorldError) : Type 0 where
  pub zones : List ZoneSpec
  pub built : zones_of s.blocks ≡ Ok zones
  pub refused : IsWorldRefused (said_world s zones) e

-- What is said is no world. Running out of memory can come at any time.
abbrev pub IsNoSaidWorld : Said → WorldFault → Type 0
IsNoSaidWorld s (Line e) = ⊥
IsNoSaidWorld s (File e) = zones_of s.blocks ≡ Err (File e)
IsNoSaidWorld s (Zone line e) = zones_of s.blocks ≡ Err (Zone line e)
IsNoSaidWorld s (World e) = BreaksRule s e
IsNoSaidWorld s Memory = Unit {0}

-- The world of a text: its lines say it.
pub record IsWorldOf (text : List ℕ) (W : WorldSpec) : Type 0 where
  pub said : Said
  pub says : said_in text ≡ Ok said
  pub stands : IsSaidWorld said W

-- No line is refused, but what they say is no world.
pub record SaysNoWorld (text : List ℕ) (fault : WorldFault) : Type 0 where
  pub said : Said
  pub says : said_in text ≡ Ok said
  pub fails : IsNoSaidWorld said fault

-- A text says no world: of its lines, its blocks and the rules of a world, in this order, the first fault counts.
abbrev pub IsNoWorld : List ℕ → WorldFault → Type 0
IsNoWorld text (Line e) = said_in text ≡ Err e
IsNoWorld text (File e) = SaysNoWorld text (File e)
IsNoWorld text (Zone line e) = SaysNoWorld text (Zone line e)
IsNoWorld text (World e) = SaysNoWorld text (World e)
IsNoWorld text Memory = Unit {0}
