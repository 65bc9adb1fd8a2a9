use Rattle.dname.proofs.ReadNames.{both_ways}
use Rattle.dname.proofs.text.text_writes_name.Goals as goal

pub returns : goal.returns
returns c = both_ways
