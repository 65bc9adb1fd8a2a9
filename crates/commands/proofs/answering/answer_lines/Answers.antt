-- The lines say what came of the query.
use Rattle.std.proofs.lemmas.Result.{IfOk-weaker}
use Rattle.commands.proofs.answering.answer_lines.Goals as goal

pub returns : goal.returns
returns g c = IfOk-weaker c.outcome_lines.result _ _ (λ s h. (c.in_ok-outcome.outcome, c.in_ok-outcome.ensures, h)) c.outcome_lines.ensures
