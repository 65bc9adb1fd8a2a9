use Rattle.engine.proofs.AtHand.{at_hand_asks_nobody}
use Rattle.engine.proofs.booked.at_hand_law.Goals as goal

pub returns : goal.returns
returns c = at_hand_asks_nobody
