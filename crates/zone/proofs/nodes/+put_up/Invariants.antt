use Rattle.std.proofs.Common.{length}
use Rattle.zone.proofs.nodes.+put_up.Given as goal

abbrev pub decreases-put_up : goal.decreases-put_up
decreases-put_up g l = length l.up.now
