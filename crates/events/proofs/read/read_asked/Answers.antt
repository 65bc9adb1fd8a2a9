use Rattle.events.proofs.Plainly.{read_plainly}
use Rattle.events.proofs.read.read_asked.Goals as goal

pub returns-clause-asked : goal.returns-clause-asked
returns-clause-asked g c = read_plainly c.args.bytes.now c.read_query.result c.read_query.ensures.asked
