-- The zone is in the text at its path, or why there is none.
use Rattle.std.proofs.Common.{string_bytes, List, ℕ, subst, Some}
use Rattle.std.proofs.lemmas.Result.{IfOk-weaker, IfErr-weaker}
use Rattle.commands.specs.Checks.{Explains}
use Rattle.commands.specs.Texts.{MayHold}
use Rattle.commands.specs.Zones.{HoldsNoZone, HoldsZone}
use Rattle.commands.proofs.Checks.{missing_zone, refused_there, starved_no_zone, zone_there}
use Rattle.commands.proofs.check_config.zone_at.Goals as goal

pub returns-in-Ok-Some-clause-ok : goal.returns-in-Ok-Some-clause-ok
returns-in-Ok-Some-clause-ok g c =
    let there = rw c.in-Ok-Some.field-0-is at c.in-Ok-Some.ensures.is in
    let said = rw c.as_str.ensures.value at c.zone_in.ensures.ok in
    IfOk-weaker c.zone_in.result _ _ (λ z h. zone_there _ _ _ z there h) said

pub returns-in-Ok-Some-clause-err : goal.returns-in-Ok-Some-clause-err
returns-in-Ok-Some-clause-err g c =
    let there = rw c.in-Ok-Some.field-0-is at c.in-Ok-Some.ensures.is in
    let said = rw c.as_str.ensures.value at c.zone_in.ensures.err in
    IfErr-weaker c.zone_in.result _ _ (λ r h. refused_there (g.T.Texts.held c.args.texts.now) c.args.path.now c.args.origin.now _ there r.fault _ h.0 h.1) said

pub returns-in-Ok-None-clause-err : goal.returns-in-Ok-None-clause-err
returns-in-Ok-None-clause-err g c =
    missing_zone (g.T.Texts.held c.args.texts.now) c.args.path c.args.origin.now (rw c.in-Ok-None.field-0-is at c.in-Ok-None.ensures.is) _ _ c.unreadable.ensures.tells

pub returns-in-Err-clause-err : goal.returns-in-Err-clause-err
returns-in-Err-clause-err g c = starved_no_zone (g.T.Texts.held c.args.texts.now) c.args.path.now c.args.origin.now _ _ c.starved.ensures
