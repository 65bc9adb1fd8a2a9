-- None was left so far.
use Rattle.std.proofs.Common.{◌≤◌, ◌-◌, length, take}
use Rattle.score.specs.Sends.{NoneLeft}
use Rattle.score.proofs.sends.first_left.Given as goal

abbrev pub invariant-loop-place : goal.invariant-loop-place
invariant-loop-place l = (l.passed ≤ l.place) × NoneLeft (take l.place l.marks)

abbrev pub decreases-loop-place : goal.decreases-loop-place
decreases-loop-place l = length l.marks - l.place
