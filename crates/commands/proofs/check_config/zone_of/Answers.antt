-- The records of the text are a zone, or break a rule.
use Rattle.std.proofs.Common.{refl}
use Rattle.commands.proofs.Checks.{rule_refused}
use Rattle.commands.proofs.check_config.zone_of.Goals as goal

pub returns-in-Ok-clause-ok : goal.returns-in-Ok-clause-ok
returns-in-Ok-clause-ok g c = (c.args.records, (c.args.text.now, refl, c.requires), (c.in-Ok.ensures.ok).0, (c.in-Ok.ensures.ok).1)

pub returns-in-Err-clause-err : goal.returns-in-Err-clause-err
returns-in-Err-clause-err g c = rule_refused c.args.path c.args.origin.now c.args.text.now c.args.records c.requires c.in-Err.error c.in-Err.ensures.err _ _ c.bad_zone.ensures
