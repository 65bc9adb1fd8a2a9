-- So many replies came so far.
use Rattle.std.proofs.Common.{◌-◌, ◌^◌}
use Rattle.play.specs.Seen.{state_of}
use Rattle.play.proofs.Playing.{LeadsTo}
use Rattle.play.proofs.follow.Player.run.Given as goal

abbrev pub invariant-loop-number : goal.invariant-loop-number
invariant-loop-number g l = LeadsTo (state_of l.initial.self) (state_of l.self)

abbrev pub decreases-loop-number : goal.decreases-loop-number
decreases-loop-number g l = 2 ^ 64 - l.self.show.sends.passed
