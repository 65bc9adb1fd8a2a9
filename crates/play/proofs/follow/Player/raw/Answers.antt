-- The bytes that can be sent.
use Rattle.std.proofs.Common.{subst, ℕ, List, OnOk}
use Rattle.play.specs.Plays.{SendsQuery}
use Rattle.play.specs.Seen.{state_of}
use Rattle.play.proofs.follow.Player.raw.Goals as goal

pub returns : goal.returns
returns g c =
    subst (λ (sent : List ℕ). OnOk c.ask.result (SendsQuery c.args.way sent (state_of c.args.self.now) (state_of c.ask.new.self))) c.shortened.ensures c.ask.ensures
