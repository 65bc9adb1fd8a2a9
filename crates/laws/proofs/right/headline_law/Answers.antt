use Rattle.laws.proofs.Every.{every_reply_is_right}
use Rattle.laws.proofs.right.headline_law.Goals as goal

pub returns : goal.returns
returns c = every_reply_is_right
