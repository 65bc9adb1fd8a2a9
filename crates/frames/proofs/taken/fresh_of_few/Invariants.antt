-- What is fresh of those found so far.
use Rattle.std.proofs.Common.{◌≡◌, not, filter, take}
use Rattle.frames.specs.Frames.{has_address, each_once}
use Rattle.frames.proofs.taken.fresh_of_few.Given as goal

abbrev pub invariant-loop-address : goal.invariant-loop-address
invariant-loop-address g l = l.fresh.items ≡ filter (λ a. not (has_address l.known a)) (each_once (take l.address-index l.found))
