use Rattle.std.proofs.Common.{subst}
use Rattle.authority.specs.Catalogs.{AreZones}
use Rattle.authority.proofs.catalog.Catalog.zones.Goals as goal

pub returns-clause-sound : goal.returns-clause-sound
returns-clause-sound g c = subst AreZones c.self.view_is c.self.invariant.0.sound
