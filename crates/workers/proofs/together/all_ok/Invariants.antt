use Rattle.std.proofs.Common.{◌≡◌, map, Ok}
use Rattle.workers.proofs.together.all_ok.Given as goal

abbrev pub invariant-loop-result : goal.invariant-loop-result
invariant-loop-result g l = map Ok l.kept.items ≡ l.yielded
