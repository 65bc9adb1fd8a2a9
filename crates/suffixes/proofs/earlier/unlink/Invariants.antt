use Rattle.suffixes.proofs.Unlinks.{AreUnlinked}
use Rattle.suffixes.proofs.earlier.unlink.Given as goal

abbrev pub invariant-loop-note : goal.invariant-loop-note
invariant-loop-note l = AreUnlinked l.notes l.fn.firsts l.firsts l.note-index
