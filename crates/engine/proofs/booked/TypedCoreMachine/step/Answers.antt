use Rattle.engine.proofs.Histories.{typed_step}
use Rattle.engine.proofs.booked.TypedCoreMachine.step.Goals as goal

pub returns : goal.returns
returns c = typed_step c.args.event.now c.step_typed.result c.args.state.now c.step_typed.new.self c.parsed.ensures.bytes c.step_typed.ensures.ok c.step_typed.ensures.err
