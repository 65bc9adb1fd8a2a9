use Rattle.wire.proofs.Rows.{IsQuestionRow}
use Rattle.wire.proofs.records.questions_at.Given as goal

abbrev pub invariant-loop : goal.invariant-loop
invariant-loop g l = IsQuestionRow l.bytes l.count l.at l.counter l.place l.questions
