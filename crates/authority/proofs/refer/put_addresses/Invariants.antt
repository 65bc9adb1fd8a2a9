use Rattle.std.proofs.Common.{◌≡◌, fold, filter, take}
use Rattle.zone.specs.Look.{add_glue, is_address}
use Rattle.authority.proofs.refer.put_addresses.Given as goal

abbrev pub invariant-loop-index : goal.invariant-loop-index
invariant-loop-index g l = l.set ≡ fold add_glue l.initial.set (filter is_address (take l.index l.held))
