use Rattle.std.proofs.Common.{◌≡◌, drop}
use Rattle.rdata.specs.Types.{find_type, type_named, served_types}
use Rattle.rdata.proofs.rtype.RType.from_word.Given as goal

abbrev pub invariant-loop-kind : goal.invariant-loop-kind
invariant-loop-kind l = find_type l.word (drop l.kind-index served_types) ≡ type_named l.word
