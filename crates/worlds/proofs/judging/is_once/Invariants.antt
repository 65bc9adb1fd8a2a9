-- The records behind decide.
use Rattle.std.proofs.Common.{◌≡◌, drop}
use Rattle.worlds.specs.Judging.{once}
use Rattle.worlds.proofs.judging.is_once.Given as goal

abbrev pub invariant-loop-place : goal.invariant-loop-place
invariant-loop-place g l = once l.records ≡ once (drop l.place l.records)
