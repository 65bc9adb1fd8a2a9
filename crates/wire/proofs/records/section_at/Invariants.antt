use Rattle.wire.proofs.Rows.{IsSectionRow}
use Rattle.wire.proofs.records.section_at.Given as goal

abbrev pub invariant-loop : goal.invariant-loop
invariant-loop g l = IsSectionRow l.bytes l.count l.at l.counter l.place l.records
