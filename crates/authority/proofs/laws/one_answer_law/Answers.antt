use Rattle.authority.proofs.OneAnswers.{one_charge, one_answer}
use Rattle.authority.proofs.laws.one_answer_law.Goals as goal

pub returns : goal.returns
returns c = record { charge = one_charge; answer = one_answer }
