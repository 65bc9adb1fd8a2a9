use Rattle.std.proofs.Common.{rules, ◌<◌, ◌+◌, ℕ, length}
use Rattle.dispatch.specs.Questions.{HasQuestion, EndsName}
use Rattle.dispatch.proofs.Naming.{at_none, no_question, question_too_long}
use Rattle.dispatch.proofs.questions.question_end.Goals as goal

pub returns-in_err-end-clause-is : goal.returns-in_err-end-clause-is
returns-in_err-end-clause-is c =
    let none : (end : ℕ) → EndsName c.args.message.now end → ⊥ = search rules in
    at_none ((end : ℕ) → HasQuestion c.args.message.now end → ⊥) (HasQuestion c.args.message.now) c.from_residual-in_err-end.result (search rules)
    (no_question c.args.message.now none)

pub returns-then-end-message-clause-is : goal.returns-then-end-message-clause-is
returns-then-end-message-clause-is c =
    let named : EndsName c.args.message.now c.in_ok-end.field-0 = search rules in
    let long : length c.args.message.now < c.in_ok-end.field-0 + 4 = search rules in
    question_too_long c.args.message.now c.in_ok-end.field-0 named long
