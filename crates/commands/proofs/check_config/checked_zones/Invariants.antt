-- The zones of the lines so far.
use Rattle.std.proofs.Common.{◌≡◌, take}
use Rattle.commands.specs.Servers.{AreZonesIn}
use Rattle.commands.proofs.check_config.checked_zones.Given as goal

abbrev pub invariant-loop-local : goal.invariant-loop-local
invariant-loop-local g l = (g.T.Texts.held l.texts ≡ g.T.Texts.held l.initial.texts) × AreZonesIn (g.T.Texts.held l.initial.texts) (take l.local-index l.locals) l.zones.items
