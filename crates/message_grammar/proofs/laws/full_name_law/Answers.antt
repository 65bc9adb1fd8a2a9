use Rattle.message_grammar.proofs.Whole.{full_there}
use Rattle.message_grammar.proofs.laws.full_name_law.Goals as goal

pub returns : goal.returns
returns c = full_there
