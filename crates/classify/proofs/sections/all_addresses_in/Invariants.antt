use Rattle.std.proofs.Common.{◌≡◌, ◌++◌, length}
use Rattle.std.specs.Prelude.{filter}
use Rattle.classify.specs.Targets.{is_given}
use Rattle.classify.proofs.sections.all_addresses_in.Given as goal

abbrev pub invariant-loop-found : goal.invariant-loop-found
invariant-loop-found g l = filter (is_given l.zone l.targets.items) l.initial.section ≡ l.addresses ++ filter (is_given l.zone l.targets.items) l.section

abbrev pub decreases-loop-found : goal.decreases-loop-found
decreases-loop-found g l = length l.section
