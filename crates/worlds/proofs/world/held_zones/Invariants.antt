-- Of the zones so far, those that are held.
use Rattle.std.proofs.Common.{◌≡◌, take}
use Rattle.std.specs.Prelude.{filter}
use Rattle.zone.specs.Zones.{Zone}
use Rattle.worlds.specs.Rules.{has_name}
use Rattle.worlds.proofs.world.held_zones.Given as goal

abbrev pub invariant-loop-zone : goal.invariant-loop-zone
invariant-loop-zone g l = l.held.items ≡ filter (λ (z : Zone). has_name z.origin l.locals) (take l.zone-index l.zones)
