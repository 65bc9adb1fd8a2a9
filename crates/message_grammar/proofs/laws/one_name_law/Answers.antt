use Rattle.message_grammar.proofs.Reading.{name_one}
use Rattle.message_grammar.proofs.laws.one_name_law.Goals as goal

pub returns : goal.returns
returns c = name_one
