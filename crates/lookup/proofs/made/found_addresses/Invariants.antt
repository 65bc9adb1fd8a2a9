use Rattle.std.proofs.Common.{take}
use Rattle.resolution.specs.Jobs.{AreAddressesOf}
use Rattle.lookup.proofs.made.found_addresses.Given as goal

abbrev pub invariant-loop-index : goal.invariant-loop-index
invariant-loop-index g l = AreAddressesOf (take l.index l.set) l.found.items
