use Rattle.std.proofs.Common.{◌≡◌, ◌+◌, length, drop}
use Rattle.dname.specs.Wire.{labels_of, IsWire}
use Rattle.dname.proofs.order.behind.Given as goal

abbrev pub invariant-loop : goal.invariant-loop
invariant-loop l = record {
  form : IsWire l.rest;
  labels : labels_of l.rest ≡ drop l.counter (labels_of l.bytes);
  left : l.counter + length (labels_of l.rest) ≡ length (labels_of l.bytes);
}
