use Rattle.laws.proofs.Held.{held_is_replied}
use Rattle.laws.proofs.kept.held_law.Goals as goal

pub returns : goal.returns
returns c = held_is_replied
