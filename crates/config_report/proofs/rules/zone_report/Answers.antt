-- Of the first record that breaks the rule, or of what is missing.
use Rattle.std.proofs.Common.{rules, ◌≡◌, ◌∙◌, sym, ap, ℕ}
use Rattle.std.specs.Prelude.{Some, None, find}
use Rattle.std.proofs.lemmas.Result.{IfOk-weaker}
use Rattle.zone.specs.Kept.{zone_with}
use Rattle.config_report.specs.Culprits.{breaks, rule_text, said_of_rule}
use Rattle.config_report.proofs.rules.zone_report.Goals as goal

pub returns-in-Some : goal.returns-in-Some
returns-in-Some g c =
    let z = zone_with c.args.origin.now c.args.records.now in
    let is : find (breaks z c.args.error) c.args.records.now ≡ Some c.in-Some.record.now = search rules in
    IfOk-weaker c.record_line.result _ _ (λ s h. h ∙ ap (said_of_rule c.args.path.now z c.args.error) (sym is)) c.record_line.ensures

pub returns-in-None : goal.returns-in-None
returns-in-None g c =
    let z = zone_with c.args.origin.now c.args.records.now in
    let is : find (breaks z c.args.error) c.args.records.now ≡ None = search rules in
    IfOk-weaker c.rule_line.result _ _
    (λ s h. h ∙ (ap (λ (t : ℕ). rule_text c.args.path.now c.args.origin.now t c.args.error) c.rule_type.ensures ∙ ap (said_of_rule c.args.path.now z c.args.error) (sym is))) c.rule_line.ensures
