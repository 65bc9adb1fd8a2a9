-- The orders so far are carried out.
use Rattle.std.proofs.Common.{map}
use Rattle.script.specs.Orders.{order_seen}
use Rattle.play.specs.Plays.{Plays}
use Rattle.play.specs.Seen.{state_of}
use Rattle.play.proofs.follow.Player.follow_all.Given as goal

abbrev pub invariant-loop-order : goal.invariant-loop-order
invariant-loop-order g l = Plays (map order_seen l.yielded) (state_of l.initial.self) (state_of l.self)
