-- The names that the records so far give.
use Rattle.std.proofs.Common.{◌≡◌, take}
use Rattle.rdata.specs.Targets.{targets_of}
use Rattle.classify.proofs.targets.targets_of.Given as goal

abbrev pub invariant-loop-server : goal.invariant-loop-server
invariant-loop-server g l = l.targets.items ≡ targets_of (take l.server-index l.servers)
