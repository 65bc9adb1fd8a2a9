-- The words are those of the records that the text has.
use Rattle.std.proofs.Common.{◌∙◌, ap, subst, inr, List, ℕ, string_bytes}
use Rattle.std.proofs.lemmas.Result.{IfOk-weaker}
use Rattle.rdata.specs.Records.{Record}
use Rattle.zone.specs.Kept.{zone_with}
use Rattle.config_report.specs.Culprits.{zone_report_text}
use Rattle.commands.specs.Checks.{Tells, TellsRule}
use Rattle.commands.specs.declared.fault.Fault.{Fault}
use Rattle.commands.proofs.Checks.{tell}
use Rattle.commands.proofs.check_config.bad_zone.Goals as goal

pub returns-in-Ok : goal.returns-in-Ok
returns-in-Ok g c =
    let P : List ℕ → Type 0 = TellsRule c.args.path.now c.args.origin.now c.args.text.now c.args.error in
    let told = IfOk-weaker c.zone_report-words.result _ _ (λ s h. (c.in-Ok.records, c.in-Ok.ensures.reads, h ∙ ap (λ (rs : List Record). zone_report_text c.args.path.now (zone_with c.args.origin.now rs) c.args.error) c.as_slice.ensures)) c.zone_report-words.ensures in
    subst (λ (f : Fault). Tells f P c.told.result.fault (string_bytes c.told.result.words)) c.of_zone.ensures
    (tell string_bytes c.zone_report-words.result P _ _ _ told c.told.ensures)

pub returns-in-Err : goal.returns-in-Err
returns-in-Err g c = inr c.starved.ensures
