use Rattle.wire.specs.Entries.{questions_from}
use Rattle.wire.proofs.Walks.{gives_failed}
use Rattle.wire.proofs.Rows.{questions_on, questions_fail, questions_end}
use Rattle.wire.proofs.records.questions_at.Goals as goal

pub returns-in_err-question : goal.returns-in_err-question
returns-in_err-question g c =
    gives_failed (λ x. (x.0, x.1)) c.from_residual.result c.in_err-question.field-0.0 (questions_from c.args.count c.args.bytes.now c.args.at) c.from_residual.ensures.1
    (questions_fail c.args.bytes.now c.args.count c.args.at c.loop.counter c.loop.place c.loop.questions c.in_err-question.field-0.0 c.loop.invariant c.loop-test.true c.in_err-question.ensures)

pub loop-preserved : goal.loop-preserved
loop-preserved g c =
    questions_on c.args.bytes.now c.args.count c.args.at c.loop.counter c.loop.place c.loop.questions c.push.new.self c.in_ok-question.question c.in_ok-question.next c.loop.invariant
    c.loop-test.true c.in_ok-question.ensures c.in_ok-push.ensures.ok

pub returns : goal.returns
returns g c = questions_end c.args.bytes.now c.args.count c.args.at c.loop.counter c.loop.place c.loop.questions c.loop.invariant c.loop-test.false
