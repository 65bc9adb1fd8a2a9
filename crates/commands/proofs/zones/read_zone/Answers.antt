-- The records break a rule, or memory was wanting.
use Rattle.std.proofs.Common.{sym, subst}
use Rattle.commands.specs.Zones.{HoldsNoZone}
use Rattle.commands.proofs.Broken.{zone_refused}
use Rattle.commands.proofs.zones.read_zone.Goals as goal

pub returns-in-Err-clause-err : goal.returns-in-Err-clause-err
returns-in-Err-clause-err g c =
    subst (HoldsNoZone (g.T.Texts.held c.args.texts.now) c.args.file.now c.args.origin) (sym c.of_zone.ensures)
    (zone_refused (g.T.Texts.held c.args.texts.now) c.args.origin c.args.file _ c.in_ok-records.ensures.ok c.in-Err.error c.in-Err.ensures)
