use Rattle.std.proofs.Common.{◌≡◌, length}
use Rattle.std.specs.Ordering.{ordering_then}
use Rattle.dname.specs.Wire.{labels_of, IsWire}
use Rattle.dname.specs.Order.{name_cmp}
use Rattle.dname.proofs.order.NameOrd.cmp.Given as goal

abbrev pub invariant-loop-label : goal.invariant-loop-label
invariant-loop-label g l = record {
  form : IsWire l.rest;
  its_form : IsWire l.others;
  even : length (labels_of l.rest) ≡ length (labels_of l.others);
  decided : name_cmp l.self l.other ≡ ordering_then (name_cmp (labels_of l.rest) (labels_of l.others)) l.order;
}

abbrev pub decreases-loop-label : goal.decreases-loop-label
decreases-loop-label g l = length l.rest
