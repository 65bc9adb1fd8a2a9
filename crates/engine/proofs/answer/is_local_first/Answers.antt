use Rattle.engine.proofs.Aliases.{local_some, local_none}
use Rattle.engine.proofs.answer.is_local_first.Goals as goal

pub returns-in-Some : goal.returns-in-Some
returns-in-Some g c = local_some c.args.links.now c.args.last.now c.in-Some.first.now c.is_local.result c.in-Some.ensures.value c.is_local.ensures

pub returns-in-None : goal.returns-in-None
returns-in-None g c = local_none c.args.links.now c.args.last.now c.is_local-in-None.result c.in-None.ensures.value c.is_local-in-None.ensures
