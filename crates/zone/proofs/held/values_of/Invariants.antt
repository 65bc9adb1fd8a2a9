use Rattle.std.proofs.Common.{◌≡◌, map, take}
use Rattle.rdata.specs.Kept.{datum}
use Rattle.rdata.specs.Later.{AreFound}
use Rattle.rdata.specs.Types.{type_number}
use Rattle.zone.specs.Look.{of_type}
use Rattle.zone.specs.Values.{values_of}
use Rattle.zone.proofs.held.values_of.Given as goal

abbrev pub invariant-loop-index : goal.invariant-loop-index
invariant-loop-index g l = record {
  made : map datum l.values.items ≡ values_of (of_type (type_number l.kind) (take l.index l.held));
  found : AreFound l.later (map datum l.values.items);
}
