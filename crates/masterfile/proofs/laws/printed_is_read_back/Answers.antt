use Rattle.masterfile.proofs.ReadBack.{printed_is_read}
use Rattle.masterfile.proofs.laws.printed_is_read_back.Goals as goal

pub returns : goal.returns
returns c = printed_is_read
