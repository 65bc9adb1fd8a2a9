use Rattle.message_grammar.proofs.Single.{message_one}
use Rattle.message_grammar.proofs.laws.one_message_law.Goals as goal

pub returns : goal.returns
returns c = message_one
