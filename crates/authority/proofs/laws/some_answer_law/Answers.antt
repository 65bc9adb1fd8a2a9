use Rattle.authority.proofs.SomeAnswers.{some_answer}
use Rattle.authority.proofs.laws.some_answer_law.Goals as goal

pub returns : goal.returns
returns c = some_answer
