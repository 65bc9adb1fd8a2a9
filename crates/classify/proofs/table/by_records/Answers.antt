use Rattle.std.proofs.Common.{sym, ◌∙◌}
use Rattle.classify.specs.Views.{class_view}
use Rattle.classify.proofs.Sets.{denied_there, found_there}
use Rattle.classify.proofs.table.by_records.Goals as goal

pub returns-then-is_name_error : goal.returns-then-is_name_error
returns-then-is_name_error g c = λ f q. denied_there f q c.args.message.now c.args.set c.len.ensures.some (sym c.is_name_error.ensures ∙ c.if-is_name_error.true)

pub returns : goal.returns
returns g c = λ f q. found_there f q c.args.message.now (class_view c.answer_by.result) c.args.set c.len.ensures.some (sym c.is_name_error.ensures ∙ c.if-is_name_error.false) c.answer_by.ensures
