use Rattle.std.proofs.Common.{◌≡◌, take}
use Rattle.std.specs.Prelude.{flat_map}
use Rattle.std.specs.List.{AllByRecursion}
use Rattle.message_grammar.specs.Pieces.{after}
use Rattle.message_grammar.specs.Messages.{question_pieces, IsQuestion}
use Rattle.wire.proofs.writer.Writer.put_questions.Given as goal

abbrev pub invariant-loop-question : goal.invariant-loop-question
invariant-loop-question g l =
    (l.self ≡ after l.initial.self (flat_map question_pieces (take l.question-index l.questions))) × AllByRecursion IsQuestion (take l.question-index l.questions)
