-- The set of the addresses so far.
use Rattle.std.proofs.Common.{take}
use Rattle.frames.specs.Seen.{AreSeen}
use Rattle.frames.proofs.taken.set_of.Given as goal

abbrev pub invariant-loop-address : goal.invariant-loop-address
invariant-loop-address g l = AreSeen l.seen (take l.address-index l.addresses)
