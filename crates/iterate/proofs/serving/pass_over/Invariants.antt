-- So many addresses were passed over, each of which had failed lately.
use Rattle.std.proofs.Common.{length}
use Rattle.resolution.specs.Jobs.{left_of}
use Rattle.iterate.proofs.Passed.{Passing}
use Rattle.iterate.proofs.serving.pass_over.Given as goal

abbrev pub invariant-loop-search : goal.invariant-loop-search
invariant-loop-search g l = Passing l.now l.fn.search l.fn.stores l.search l.stores l.passed

abbrev pub decreases-loop-search : goal.decreases-loop-search
decreases-loop-search g l = length (left_of (l.search).frame.plan)
