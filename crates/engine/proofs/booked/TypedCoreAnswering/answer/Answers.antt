use Rattle.engine.proofs.AtOnce.{answers}
use Rattle.engine.proofs.booked.TypedCoreAnswering.answer.Goals as goal

pub returns : goal.returns
returns c = answers c.args.event.now c.answer.result c.args.state.now c.answer.new.self c.parsed.ensures.bytes c.answer.ensures.has c.answer.ensures.steps
