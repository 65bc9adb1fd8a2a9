use Rattle.std.proofs.Common.{◌≡◌, length, option_copied}
use Rattle.authority.specs.Catalogs.{chosen, zone_over}
use Rattle.authority.specs.Climb.{above}
use Rattle.authority.proofs.catalog.zone_over.Given as goal

abbrev pub invariant-up : goal.invariant-up
invariant-up g l = zone_over (chosen (option_copied l.listed) l.zones) (above l.up) ≡ zone_over (chosen (option_copied l.listed) l.zones) l.name

abbrev pub decreases-up : goal.decreases-up
decreases-up g l = length l.up
