use Rattle.message_grammar.proofs.Whole.{encoding_holds}
use Rattle.message_grammar.proofs.laws.encoding_is_message.Goals as goal

pub returns : goal.returns
returns c = encoding_holds
