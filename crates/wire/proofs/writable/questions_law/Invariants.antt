use Rattle.std.proofs.Common.{take}
use Rattle.std.specs.List.{AllByRecursion}
use Rattle.message_grammar.specs.Messages.{IsQuestion}
use Rattle.wire.proofs.writable.questions_law.Given as goal

abbrev pub invariant-loop-question : goal.invariant-loop-question
invariant-loop-question g l = AllByRecursion IsQuestion (take l.question-index l.questions)
