use Rattle.std.proofs.Common.{sym, ◌∙◌, ap}
use Rattle.rdata.specs.Rows.{in_set}
use Rattle.rdata.specs.Selected.{records_at}
use Rattle.rdata.specs.Sets.{one_set}
use Rattle.zone.specs.Zones.{cname_type}
use Rattle.classify.specs.Classes.{by_alias}
use Rattle.classify.proofs.Sets.{alias_there}
use Rattle.classify.proofs.table.by_alias.Goals as goal

pub returns-in_ok-first-in-Some : goal.returns-in_ok-first-in-Some
returns-in_ok-first-in-Some g c =
    c.answer_by.ensures ∙ (alias_there c.args.zone.now c.args.name.now c.args.message.now c.in-Some.aliases c.in_ok-first-in-Some.field-0 c.in_ok-first-in-Some.ensures
    ∙ ap (by_alias c.args.zone.now c.args.name.now c.args.message.now) (sym (ap in_set c.in-Some.is) ∙ c.in_ok-aliases.ensures ∙ ap (λ rs. one_set (records_at c.args.name.now cname_type rs)) c.answer.ensures))

pub returns-in_ok-by_denial-in-None : goal.returns-in_ok-by_denial-in-None
returns-in_ok-by_denial-in-None g c = c.in_ok-by_denial-in-None.ensures ∙ ap (by_alias c.args.zone.now c.args.name.now c.args.message.now) (sym (ap in_set c.in-None.is) ∙ c.in_ok-aliases.ensures ∙ ap (λ rs. one_set (records_at c.args.name.now cname_type rs)) c.answer.ensures)
