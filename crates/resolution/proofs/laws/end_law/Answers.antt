use Rattle.resolution.proofs.Falls.{rules_end}
use Rattle.resolution.proofs.laws.end_law.Goals as goal

pub returns : goal.returns
returns c = rules_end
