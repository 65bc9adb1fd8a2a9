use Rattle.wire.proofs.Ends.{IsEndRow}
use Rattle.wire.proofs.skips.section_end.Given as goal

abbrev pub invariant-loop : goal.invariant-loop
invariant-loop l = IsEndRow l.bytes l.count l.at l.counter l.place
