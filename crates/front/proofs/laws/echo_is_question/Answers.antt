use Rattle.front.proofs.Echoes.{echo_is_question}
use Rattle.front.proofs.laws.echo_is_question.Goals as goal

pub returns : goal.returns
returns g c = echo_is_question
