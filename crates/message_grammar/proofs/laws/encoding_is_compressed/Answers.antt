use Rattle.message_grammar.proofs.Compressing.{encoding_compressed}
use Rattle.message_grammar.proofs.laws.encoding_is_compressed.Goals as goal

pub returns : goal.returns
returns c = encoding_compressed
