use Rattle.std.proofs.Common.{◌≡◌, length}
use Rattle.rdata.specs.Types.{type_number}
use Rattle.classify.specs.Classes.{first_of}
use Rattle.classify.proofs.sections.first_in.Given as goal

abbrev pub invariant-loop-found : goal.invariant-loop-found
invariant-loop-found l = first_of (type_number l.kind) l.initial.section ≡ first_of (type_number l.kind) l.section

abbrev pub decreases-loop-found : goal.decreases-loop-found
decreases-loop-found l = length l.section
