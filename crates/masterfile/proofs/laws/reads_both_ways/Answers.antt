use Rattle.masterfile.proofs.TextLaw.{text_is_read}
use Rattle.masterfile.proofs.laws.reads_both_ways.Goals as goal

pub returns : goal.returns
returns c = text_is_read
