use Rattle.classify.proofs.Readings.{answer_read}
use Rattle.classify.proofs.laws.answer_law.Goals as goal

pub returns : goal.returns
returns c = λ f q t via m. answer_read f q t m via
