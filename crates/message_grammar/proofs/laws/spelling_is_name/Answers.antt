use Rattle.message_grammar.proofs.Whole.{spelling_gives}
use Rattle.message_grammar.proofs.laws.spelling_is_name.Goals as goal

pub returns : goal.returns
returns c = spelling_gives
