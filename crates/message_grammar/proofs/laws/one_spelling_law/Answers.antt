use Rattle.message_grammar.proofs.Reading.{spelling_one}
use Rattle.message_grammar.proofs.laws.one_spelling_law.Goals as goal

pub returns : goal.returns
returns c = spelling_one
