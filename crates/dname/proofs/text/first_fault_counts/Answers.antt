use Rattle.dname.proofs.FirstFaults.{both_ways}
use Rattle.dname.proofs.text.first_fault_counts.Goals as goal

pub returns : goal.returns
returns c = both_ways
