use Rattle.std.proofs.Common.{◌≡◌, length}
use Rattle.zone.specs.Kept.{zone_with}
use Rattle.zone.specs.Look.{is_beneath_cut}
use Rattle.config_report.proofs.rules.is_beneath_cut.Given as goal

abbrev pub invariant-up : goal.invariant-up
invariant-up g l = is_beneath_cut (zone_with l.origin l.records) l.above ≡ is_beneath_cut (zone_with l.origin l.records) l.name

abbrev pub decreases-up : goal.decreases-up
decreases-up g l = length l.above
