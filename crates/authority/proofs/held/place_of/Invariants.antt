use Rattle.std.proofs.Common.{◌≡◌, None, find, take}
use Rattle.rdata.specs.Types.{type_number}
use Rattle.zone.specs.Look.{is_type}
use Rattle.authority.proofs.held.place_of.Given as goal

abbrev pub invariant-loop-index : goal.invariant-loop-index
invariant-loop-index g l = find (is_type (type_number l.kind)) (take l.index l.held) ≡ None
