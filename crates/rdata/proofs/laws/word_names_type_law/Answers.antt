use Rattle.rdata.proofs.Words.{word_names_type}
use Rattle.rdata.proofs.laws.word_names_type_law.Goals as goal

pub returns : goal.returns
returns c = word_names_type
