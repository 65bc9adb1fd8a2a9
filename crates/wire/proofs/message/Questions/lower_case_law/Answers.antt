use Rattle.std.proofs.Common.{subst, List}
use Rattle.std.specs.List.{AllByRecursion}
use Rattle.dname.specs.Labels.{IsName}
use Rattle.message_grammar.specs.Messages.{Question}
use Rattle.wire.proofs.Fitting.{all_more, all_taken}
use Rattle.wire.proofs.message.Questions.lower_case_law.Goals as goal

pub loop-question-preserved : goal.loop-question-preserved
loop-question-preserved g c =
    all_more (λ (q : Question). IsName q.name) c.as_slice-questions.result.now c.loop-question.question-index c.question-item.result c.loop-question.invariant c.loop-question-test.true
    c.question-item.is (subst (λ (q : Question). IsName q.name) c.question.view_is c.well_formed_law.ensures)

pub returns : goal.returns
returns g c =
    subst (λ (qs : List Question). AllByRecursion (λ q. IsName q.name) qs) c.as_slice-questions.ensures
    (all_taken (λ (q : Question). IsName q.name) c.as_slice-questions.result.now c.loop-question.question-index c.loop-question.invariant c.loop-question-test.false)
