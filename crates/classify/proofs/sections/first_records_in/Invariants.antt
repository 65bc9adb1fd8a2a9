use Rattle.std.proofs.Common.{◌≡◌, ◌≤◌, ◌++◌, length}
use Rattle.rdata.specs.Selected.{records_at}
use Rattle.rdata.specs.Types.{type_number}
use Rattle.classify.proofs.sections.first_records_in.Given as goal

abbrev pub invariant-loop-found : goal.invariant-loop-found
invariant-loop-found g l = (records_at l.owner (type_number l.kind) l.initial.section ≡ l.records ++ records_at l.owner (type_number l.kind) l.section) × (length l.records ≤ l.most)

abbrev pub decreases-loop-found : goal.decreases-loop-found
decreases-loop-found g l = length l.section
