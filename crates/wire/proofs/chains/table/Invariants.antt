use Rattle.std.proofs.Common.{◌≡◌, length}
use Rattle.wire.specs.Chains.{AreChainEnds}
use Rattle.wire.proofs.chains.table.Given as goal

abbrev pub invariant-loop-at : goal.invariant-loop-at
invariant-loop-at g l = (length l.ends.items ≡ l.at) × AreChainEnds l.bytes l.ends.items
