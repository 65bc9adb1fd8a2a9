use Rattle.laws.proofs.Words.{words_in_order}
use Rattle.laws.proofs.orderly.words_law.Goals as goal

pub returns : goal.returns
returns c = words_in_order
