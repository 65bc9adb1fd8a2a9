use Rattle.std.proofs.Common.{◌≡◌, map, take}
use Rattle.rdata.specs.Kept.{datum}
use Rattle.rdata.specs.Later.{AreFound}
use Rattle.rdata.specs.Types.{type_number}
use Rattle.authority.specs.Climb.{target, picked}
use Rattle.zone.specs.Values.{values_of}
use Rattle.authority.proofs.gather.values_of.Given as goal

abbrev pub invariant-loop-rr : goal.invariant-loop-rr
invariant-loop-rr g l = record {
  made : map datum l.values.items ≡ values_of (picked (target l.whose l.name) (type_number l.kind) (take l.rr-index l.records));
  found : AreFound l.later (map datum l.values.items);
}
