use Rattle.message_grammar.proofs.Roots.{names_end_in_root}
use Rattle.message_grammar.proofs.laws.names_end_in_root.Goals as goal

pub returns : goal.returns
returns c = names_end_in_root
