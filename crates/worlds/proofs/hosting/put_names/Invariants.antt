use Rattle.std.proofs.Common.{◌≡◌, ◌++◌, take}
use Rattle.worlds.proofs.hosting.put_names.Given as goal

abbrev pub invariant-loop-name : goal.invariant-loop-name
invariant-loop-name g l = l.names.items ≡ l.initial.names.items ++ take l.name-index l.more
