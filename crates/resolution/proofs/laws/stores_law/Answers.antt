use Rattle.resolution.proofs.Keeping.{advances_stop, stops_bring}
use Rattle.resolution.proofs.laws.stores_law.Goals as goal

pub returns : goal.returns
returns c = record { whole = advances_stop; only = stops_bring }
