use Rattle.std.proofs.Common.{◌+◌}
use Rattle.wire.proofs.Walks.{LettersWalk}
use Rattle.wire.proofs.names.letters_at.Given as goal

abbrev pub invariant-parts : goal.invariant-parts
invariant-parts l = LettersWalk l.bytes l.faults l.limit l.before l.at l.letters.items l.start l.place l.stop l.border l.room l.end

abbrev pub decreases-parts : goal.decreases-parts
decreases-parts l = l.start + l.room
