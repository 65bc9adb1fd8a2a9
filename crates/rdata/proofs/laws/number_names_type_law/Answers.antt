use Rattle.rdata.proofs.Words.{number_names_type}
use Rattle.rdata.proofs.laws.number_names_type_law.Goals as goal

pub returns : goal.returns
returns c = number_names_type
