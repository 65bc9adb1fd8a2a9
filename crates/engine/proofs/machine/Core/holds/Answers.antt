use Rattle.std.proofs.Common.{subst}
use Rattle.std.specs.Prelude.{◌↔◌, IsTrue}
use Rattle.runs.specs.States.{State}
use Rattle.typed.specs.Events.{Parsed}
use Rattle.engine.specs.AtHand.{HasAnswer}
use Rattle.engine.specs.ResolverStates.{state_of}
use Rattle.engine.proofs.machine.Core.holds.Goals as goal

pub returns : goal.returns
returns g c =
    subst (λ (s : State). IsTrue c.in_ok-holds.field-0 ↔ HasAnswer s c.args.event.now) c.self.view_is
    (subst (λ (p : Parsed). IsTrue c.in_ok-holds.field-0 ↔ HasAnswer (state_of c.self.inside.state) p) c.parsed.ensures.is c.in_ok-holds.ensures)
