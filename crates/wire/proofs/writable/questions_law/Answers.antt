use Rattle.message_grammar.specs.Messages.{IsQuestion}
use Rattle.wire.proofs.Fitting.{all_more, all_taken}
use Rattle.wire.proofs.writable.questions_law.Goals as goal

pub loop-question-preserved : goal.loop-question-preserved
loop-question-preserved g c = all_more IsQuestion c.args.questions.now c.loop-question.question-index c.question-item.result c.loop-question.invariant c.loop-question-test.true c.question-item.is c.question_law.ensures

pub returns : goal.returns
returns g c = all_taken IsQuestion c.args.questions.now c.loop-question.question-index c.loop-question.invariant c.loop-question-test.false
