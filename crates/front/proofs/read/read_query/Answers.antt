use Rattle.front.proofs.Hearing.{only_read, not_one_read}
use Rattle.front.proofs.read.read_query.Goals as goal

pub returns-in_ok-sort_question-in-Ok-Some-clause-asked : goal.returns-in_ok-sort_question-in-Ok-Some-clause-asked
returns-in_ok-sort_question-in-Ok-Some-clause-asked g c =
    only_read _ c.in-Ok-Some.name c.in-Ok-Some.echo _ _ c.if-bytes-lt12.false c.if-bytes-ge128.false (rw c.in-Ok-Some.field-0-is at c.in-Ok-Some.ensures.read) c.start_at-start.ensures c.in_ok-sort_question-in-Ok-Some.ensures

pub returns-in-Ok-None-clause-asked : goal.returns-in-Ok-None-clause-asked
returns-in-Ok-None-clause-asked g c = not_one_read _ _ c.if-bytes-lt12.false c.if-bytes-ge128.false (rw c.in-Ok-None.field-0-is at c.in-Ok-None.ensures.read) c.start_at-start.ensures
