use Rattle.dname.proofs.WrittenNames.{text_back}
use Rattle.dname.proofs.text.text_is_read_back.Goals as goal

pub returns : goal.returns
returns c = text_back
