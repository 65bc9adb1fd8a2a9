-- The names so far.
use Rattle.std.proofs.Common.{◌≡◌, take}
use Rattle.frames.proofs.trimming.copies.Given as goal

abbrev pub invariant-loop-name : goal.invariant-loop-name
invariant-loop-name g l = l.kept ≡ take l.name-index l.names
