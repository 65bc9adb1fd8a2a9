-- The words are those of the report.
use Rattle.std.proofs.Common.{◌≡◌, List, ℕ, subst, string_bytes}
use Rattle.config_report.specs.Reports.{line_report_text}
use Rattle.commands.specs.Checks.{Tells}
use Rattle.commands.specs.declared.fault.Fault.{Fault}
use Rattle.commands.proofs.Checks.{tell}
use Rattle.commands.proofs.check_config.bad_line.Goals as goal

pub returns : goal.returns
returns g c =
    let P : List ℕ → Type 0 = λ ws. ws ≡ line_report_text c.args.path.now c.args.text.now c.args.error in
    subst (λ (f : Fault). Tells f P c.told.result.fault (string_bytes c.told.result.words)) c.of_line.ensures
    (tell string_bytes c.line_report-words.result P _ _ _ c.line_report-words.ensures c.told.ensures)
