use Rattle.std.proofs.Common.{drop}
use Rattle.storm.proofs.Counting.{CountsTo}
use Rattle.storm.proofs.count.count_all.Given as goal

abbrev pub invariant-loop-entry : goal.invariant-loop-entry
invariant-loop-entry g l = CountsTo l.world l.clients l.history (drop l.entry-index l.history) l.count
