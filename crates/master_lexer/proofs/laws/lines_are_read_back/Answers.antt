use Rattle.master_lexer.proofs.LinesLaw.{lines_are_read}
use Rattle.master_lexer.proofs.laws.lines_are_read_back.Goals as goal

pub returns : goal.returns
returns c = lines_are_read
