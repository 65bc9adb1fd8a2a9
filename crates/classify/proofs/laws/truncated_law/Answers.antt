use Rattle.classify.proofs.Uses.{truncated_is, is_truncated}
use Rattle.classify.proofs.laws.truncated_law.Goals as goal

pub returns : goal.returns
returns c = λ f q t via m. (truncated_is f q t m via, is_truncated f q t m via)
