-- The questions so far are written.
use Rattle.std.proofs.Common.{◌≡◌, ◌++◌, take, string_bytes}
use Rattle.reply_lines.specs.Asks.{asked_text}
use Rattle.reply_lines.proofs.ask.put_questions.Given as goal

abbrev pub invariant-loop-question : goal.invariant-loop-question
invariant-loop-question g l = string_bytes l.out ≡ string_bytes l.initial.out ++ asked_text (take l.question-index l.questions)
