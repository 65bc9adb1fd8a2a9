use Rattle.message_grammar.proofs.Whole.{name_spelt}
use Rattle.message_grammar.proofs.laws.name_is_spelt.Goals as goal

pub returns : goal.returns
returns c = name_spelt
