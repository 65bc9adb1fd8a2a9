-- One question more.
use Rattle.reply_lines.specs.Asks.{question_text}
use Rattle.reply_lines.proofs.Printed.{printed_more}
use Rattle.reply_lines.proofs.ask.put_questions.Goals as goal

pub loop-question-preserved : goal.loop-question-preserved
loop-question-preserved g c =
    printed_more question_text _ _ c.question-item.result _ _ _ c.loop-question-test.true c.question-item.is c.loop-question.invariant c.in_ok-put_question.ensures
