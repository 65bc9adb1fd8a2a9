use Rattle.message_grammar.proofs.Letters.{letters_apart}
use Rattle.message_grammar.proofs.laws.letters_stay_in_question.Goals as goal

pub returns : goal.returns
returns c = letters_apart
