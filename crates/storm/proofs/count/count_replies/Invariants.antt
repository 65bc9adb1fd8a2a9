use Rattle.std.proofs.Common.{drop}
use Rattle.storm.proofs.Counting.{RepliesTo}
use Rattle.storm.proofs.count.count_replies.Given as goal

abbrev pub invariant-loop-entry : goal.invariant-loop-entry
invariant-loop-entry g l = RepliesTo l.history (drop l.entry-index l.history) l.replies
