use Rattle.laws.proofs.Room.{room_stays}
use Rattle.laws.proofs.orderly.room_law.Goals as goal

pub returns : goal.returns
returns c = room_stays
