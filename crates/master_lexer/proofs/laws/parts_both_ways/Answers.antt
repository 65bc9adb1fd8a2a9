use Rattle.master_lexer.proofs.PartsLaw.{parts_are_found}
use Rattle.master_lexer.proofs.laws.parts_both_ways.Goals as goal

pub returns : goal.returns
returns c = parts_are_found
