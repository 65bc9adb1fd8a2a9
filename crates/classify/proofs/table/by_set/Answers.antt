use Rattle.std.proofs.Common.{sym, ◌∙◌, ap}
use Rattle.rdata.specs.Rows.{in_set}
use Rattle.classify.specs.Classes.{by_set}
use Rattle.classify.proofs.table.by_set.Goals as goal

pub returns-in-Some : goal.returns-in-Some
returns-in-Some g c = c.by_records.ensures c.args.zone.now c.args.name.now ∙ ap (λ o. by_set c.args.zone.now c.args.name.now c.args.message.now (in_set o)) (sym c.in-Some.is)

pub returns-in_ok-by_alias-in-None : goal.returns-in_ok-by_alias-in-None
returns-in_ok-by_alias-in-None g c = c.in_ok-by_alias-in-None.ensures ∙ ap (λ o. by_set c.args.zone.now c.args.name.now c.args.message.now (in_set o)) (sym c.in-None.is)
