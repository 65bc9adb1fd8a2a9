use Rattle.message_grammar.proofs.Letters.{letters_long}
use Rattle.message_grammar.proofs.laws.letters_keep_length.Goals as goal

pub returns : goal.returns
returns c = letters_long
