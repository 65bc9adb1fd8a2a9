use Rattle.std.proofs.Common.{◌≡◌, length}
use Rattle.masterfile.specs.Addresses.{fields, octets, surplus_kind}
use Rattle.masterfile.proofs.addresses.surplus.Given as goal

abbrev pub invariant-loop-kind : goal.invariant-loop-kind
invariant-loop-kind l = surplus_kind (octets (fields l.rest)) ≡ surplus_kind (octets (fields l.fn.word))

abbrev pub decreases-loop-kind : goal.decreases-loop-kind
decreases-loop-kind l = length l.rest
