use Rattle.message_grammar.specs.Messages.{question_pieces, IsQuestion}
use Rattle.wire.proofs.Writing.{row_on, row_done}
use Rattle.wire.proofs.Fitting.{all_more, all_taken}
use Rattle.wire.proofs.writer.Writer.put_questions.Goals as goal

pub loop-question-preserved : goal.loop-question-preserved
loop-question-preserved g c = (
  row_on question_pieces c.args.self.now c.loop-question.self c.put_question.new.self c.args.questions.now c.loop-question.question-index c.question-item.result c.loop-question.invariant.0
      c.loop-question-test.true c.question-item.is c.in_ok-put_question.ensures.written,
  all_more IsQuestion c.args.questions.now c.loop-question.question-index c.question-item.result c.loop-question.invariant.1 c.loop-question-test.true c.question-item.is
      c.in_ok-put_question.ensures.fits,
)

pub returns-clause-written : goal.returns-clause-written
returns-clause-written g c =
    row_done question_pieces c.args.self.now c.loop-question.self c.args.questions.now c.loop-question.question-index c.loop-question.invariant.0 c.loop-question-test.false

pub returns-clause-fits : goal.returns-clause-fits
returns-clause-fits g c = all_taken IsQuestion c.args.questions.now c.loop-question.question-index c.loop-question.invariant.1 c.loop-question-test.false
