use Rattle.std.proofs.Common.{sym, subst}
use Rattle.std.specs.Prelude.{IfSome}
use Rattle.runs.specs.States.{State}
use Rattle.typed.specs.Events.{ReadAs, HasBytes}
use Rattle.engine.specs.Histories.{written_of}
use Rattle.engine.specs.Promises.{Steps}
use Rattle.engine.specs.ResolverStates.{state_of}
use Rattle.engine.proofs.AtOnce.{sound_after, steps_after}
use Rattle.engine.proofs.machine.Core.answer.Goals as goal

pub invariant_of-self : goal.invariant_of-self
invariant_of-self g c =
    let bytes : HasBytes c.args.event.now = c.parsed.ensures.bytes in
    sound_after (state_of c.self.inside.state) (state_of c.answer_parsed-said.new.self) bytes.event written_of c.apart_law.ensures c.answer_parsed-said.result c.self.invariant
    (c.answer_parsed-said.ensures.turns bytes.event (subst (ReadAs bytes.event) (sym c.parsed.ensures.is) bytes.reads))

pub returns-clause-steps : goal.returns-clause-steps
returns-clause-steps g c e reads =
    let new : State = state_of c.answer_parsed-said.new.self in
    subst (λ (z : State). IfSome c.answer_parsed-said.result (λ r. Steps z e (written_of r) new)) c.self.view_is
    (steps_after (state_of c.self.inside.state) new e written_of c.apart_law.ensures c.answer_parsed-said.result
    (c.answer_parsed-said.ensures.turns e (subst (ReadAs e) (sym c.parsed.ensures.is) reads)))
