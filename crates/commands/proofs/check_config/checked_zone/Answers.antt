-- The line says which zone, and where.
use Rattle.std.proofs.Common.{string_bytes, subst, IfErr}
use Rattle.config.specs.Configs.{LocalZone}
use Rattle.commands.specs.Checks.{Explains}
use Rattle.commands.specs.Zones.{HoldsNoZone}
use Rattle.commands.proofs.check_config.checked_zone.Goals as goal

pub returns-clause-err : goal.returns-clause-err
returns-clause-err g c =
    subst
    (λ (l : LocalZone). IfErr c.zone_at.result (λ r. HoldsNoZone (g.T.Texts.held c.args.texts.now) l.file l.origin r.fault × Explains (g.T.Texts.held c.args.texts.now) r.fault (string_bytes r.words)))
    c.local.view_is c.zone_at.ensures.err
