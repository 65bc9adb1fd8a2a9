use Rattle.cache.proofs.Above.{within_root}
use Rattle.cache.proofs.finding.is_within.Goals as goal

pub returns-then-is_root : goal.returns-then-is_root
returns-then-is_root g c = within_root c.is_root.result c.args.name.now c.args.top.now c.well_formed_law.ensures.labels c.is_root.ensures c.if-is_root.true
