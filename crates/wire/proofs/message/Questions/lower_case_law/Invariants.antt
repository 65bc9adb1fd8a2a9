use Rattle.std.proofs.Common.{take}
use Rattle.std.specs.List.{AllByRecursion}
use Rattle.message_grammar.specs.Messages.{Question}
use Rattle.dname.specs.Labels.{IsName}
use Rattle.wire.proofs.message.Questions.lower_case_law.Given as goal

abbrev pub invariant-loop-question : goal.invariant-loop-question
invariant-loop-question g l = AllByRecursion (λ (q : Question). IsName q.name) (take l.question-index l.questions)
