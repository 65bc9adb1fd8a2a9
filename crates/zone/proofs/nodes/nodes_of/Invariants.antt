use Rattle.std.proofs.Common.{◌≡◌, take}
use Rattle.zone.specs.Tree.{IsTree}
use Rattle.zone.proofs.nodes.nodes_of.Given as goal

abbrev pub invariant-loop-record : goal.invariant-loop-record
invariant-loop-record g l = (l.place ≡ l.record-index) × IsTree l.nodes (take l.record-index l.records)
