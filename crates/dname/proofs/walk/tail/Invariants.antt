use Rattle.std.proofs.Common.{◌≡◌, ◌++◌, ℕ, List, length}
use Rattle.dname.specs.Labels.{wire, is_under}
use Rattle.dname.specs.Wire.{labels_of, IsWire}
use Rattle.dname.proofs.walk.tail.Given as goal

abbrev pub invariant-loop-after : goal.invariant-loop-after
invariant-loop-after l = record {
  form : IsWire l.rest;
  end : (front : List ℕ) × (l.initial.rest ≡ front ++ l.rest);
  under : (n : List (List ℕ)) → length (wire n) ≡ l.size → is_under (labels_of l.initial.rest) n ≡ is_under (labels_of l.rest) n;
}

abbrev pub decreases-loop-after : goal.decreases-loop-after
decreases-loop-after l = length l.rest
