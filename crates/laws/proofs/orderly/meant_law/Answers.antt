use Rattle.laws.proofs.Meant.{served_is_meant, at_hand_is_replied, nobody_failing_is_asked, open_is_of_run}
use Rattle.laws.proofs.orderly.meant_law.Goals as goal

pub returns : goal.returns
returns c = record { served = served_is_meant; at_hand = at_hand_is_replied; free = nobody_failing_is_asked; shown = open_is_of_run }
