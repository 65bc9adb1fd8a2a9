-- The links up to here are fresh.
use Rattle.std.proofs.Common.{take}
use Rattle.resolution.specs.Jobs.{AreFresh}
use Rattle.iterate.proofs.chain.first_dead.Given as goal

abbrev pub invariant-loop-place : goal.invariant-loop-place
invariant-loop-place g l = AreFresh l.now (take l.place l.links)
