-- What is fresh of those found so far; known ones and those found so far are seen.
use Rattle.std.proofs.Common.{◌≡◌, ◌++◌, not, filter, take}
use Rattle.frames.specs.Frames.{has_address, each_once}
use Rattle.frames.specs.Seen.{AreSeen}
use Rattle.frames.proofs.taken.fresh_of_many.Given as goal

abbrev pub invariant-loop-address : goal.invariant-loop-address
invariant-loop-address g l = record {
  fresh : l.fresh.items ≡ filter (λ a. not (has_address l.known a)) (each_once (take l.address-index l.found));
  seen : AreSeen l.seen (l.known ++ take l.address-index l.found);
}
