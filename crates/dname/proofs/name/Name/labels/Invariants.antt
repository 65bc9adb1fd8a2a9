use Rattle.std.proofs.Common.{◌≡◌, ◌+◌, ◌≤◌, length}
use Rattle.dname.specs.Wire.{labels_of, IsWire}
use Rattle.dname.proofs.name.Name.labels.Given as goal

abbrev pub invariant-loop-after : goal.invariant-loop-after
invariant-loop-after g l = record {
  wire : IsWire l.rest;
  so_far : l.count + length (labels_of l.rest) ≡ length l.self;
  few : l.count + length l.rest ≤ length l.initial.rest;
}

abbrev pub decreases-loop-after : goal.decreases-loop-after
decreases-loop-after g l = length l.rest
