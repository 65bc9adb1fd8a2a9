use Rattle.master_lexer.proofs.LineLaw.{line_is_read}
use Rattle.master_lexer.proofs.laws.line_is_read_back.Goals as goal

pub returns : goal.returns
returns c = line_is_read
