use Rattle.wire.proofs.Ends.{IsAskedRow}
use Rattle.wire.proofs.skips.questions_end.Given as goal

abbrev pub invariant-loop : goal.invariant-loop
invariant-loop l = IsAskedRow l.bytes l.count l.at l.counter l.place
