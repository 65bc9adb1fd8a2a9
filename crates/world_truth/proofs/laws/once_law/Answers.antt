use Rattle.world_truth.proofs.Stays.{found_once, held_once}
use Rattle.world_truth.proofs.laws.once_law.Goals as goal

pub returns : goal.returns
returns c = record { found = found_once; held = held_once }
