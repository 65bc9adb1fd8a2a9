use Rattle.std.proofs.Common.{◌+◌, ◌*◌}
use Rattle.worlds.proofs.judging.+judged.Given as goal

abbrev pub decreases-goes_on : goal.decreases-goes_on
decreases-goes_on g l = 2 * l.left

abbrev pub decreases-is_rest : goal.decreases-is_rest
decreases-is_rest g l = 2 * l.left + 1
