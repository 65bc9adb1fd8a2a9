use Rattle.std.proofs.Common.{◌≡◌, length}
use Rattle.dname.specs.Stars.{has_star, has_inner_star}
use Rattle.dname.specs.Wire.{labels_of, IsWire}
use Rattle.dname.proofs.name.Name.has_inner_star.Given as goal

abbrev pub invariant-loop-label : goal.invariant-loop-label
invariant-loop-label g l = record { wire : IsWire l.rest; ahead : has_star (labels_of l.rest) ≡ has_inner_star l.self }

abbrev pub decreases-loop-label : goal.decreases-loop-label
decreases-loop-label g l = length l.rest
