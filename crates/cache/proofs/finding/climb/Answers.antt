use Rattle.cache.proofs.Above.{step_end}
use Rattle.cache.proofs.finding.climb.Goals as goal

pub returns-else-ascend-clause-end : goal.returns-else-ascend-clause-end
returns-else-ascend-clause-end g c = step_end c.ascend.result c.args.top.now c.args.name.now c.ascend.new.self c.well_formed_law.ensures.labels c.ascend.ensures.root
